pub mod Changed
pub mod Ways
pub mod Report
pub mod Majority
pub mod Laws
pub mod Again
