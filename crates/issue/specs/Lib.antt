pub mod Write
pub mod Read
pub mod Groups
pub mod Laws
