pub mod Laws
pub mod Sealed
pub mod Stray
