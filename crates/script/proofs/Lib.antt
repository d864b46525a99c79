pub mod Ways
pub mod Long
