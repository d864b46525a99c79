pub mod Laws
pub mod Stray
