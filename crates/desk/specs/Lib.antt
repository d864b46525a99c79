pub mod Desk
pub mod Opening
