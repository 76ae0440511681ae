mod Laws
pub mod Parts
