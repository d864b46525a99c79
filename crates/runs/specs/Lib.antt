pub mod Run
pub mod Watch
pub mod Kept
