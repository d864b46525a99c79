pub mod Whole
pub mod Change
pub mod Full
pub mod Laws
pub mod Bytes
pub mod Cross
