pub mod Whole
pub mod Block
pub mod Sum
