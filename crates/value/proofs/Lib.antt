pub mod Ints
pub mod Sums
pub mod Blocks
pub mod Words
