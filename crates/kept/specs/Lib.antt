pub mod Answers
pub mod Kept
pub mod Crossed
pub mod Code
