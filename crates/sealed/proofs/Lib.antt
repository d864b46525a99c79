pub mod Ways
pub mod Acts
pub mod Laws
