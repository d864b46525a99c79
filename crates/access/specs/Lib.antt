pub mod Bits
pub mod Rights
