pub mod Script
pub mod Lock
