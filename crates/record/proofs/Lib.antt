pub mod Parts
pub mod Laws
