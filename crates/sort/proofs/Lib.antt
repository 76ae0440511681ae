pub mod Laws
mod Places
mod Passes
mod Parting
mod Partition
mod Insertion
mod Heaps
mod Drain
mod Halves
mod Whole
