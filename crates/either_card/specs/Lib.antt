pub mod Answers
pub mod Nak
pub mod Personal
pub mod Either
pub mod Crossed
pub mod Code
