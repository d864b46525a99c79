pub mod Put
pub mod Walks
pub mod Whole
pub mod Going
pub mod Changing
