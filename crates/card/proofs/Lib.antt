pub mod Join
pub mod Short
