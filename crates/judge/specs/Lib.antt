pub mod First
pub mod Checks
pub mod Judge
pub mod Code
