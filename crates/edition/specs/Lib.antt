pub mod Edition
pub mod Bytes
