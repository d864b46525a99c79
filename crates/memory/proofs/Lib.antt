pub mod Copy
pub mod Ways
pub mod Laws
