pub mod Checksum
pub mod Directory
pub mod Lookup
pub mod Every
pub mod Code
