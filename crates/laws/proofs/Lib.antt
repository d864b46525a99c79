pub mod Sound
pub mod Lengths
pub mod Laws
pub mod Keeps
