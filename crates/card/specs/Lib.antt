pub mod Trailer
pub mod Effects
pub mod Answers
pub mod Step
pub mod Code
