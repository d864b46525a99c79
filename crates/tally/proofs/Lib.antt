pub mod Bits
pub mod Shares
pub mod Laws
pub mod Ways
pub mod Cross
