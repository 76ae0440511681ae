pub mod Command
pub mod Reading
pub mod Meaning
pub mod Answer
