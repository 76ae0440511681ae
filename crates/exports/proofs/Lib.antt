pub mod Chaining
mod Told
