pub mod Eight
pub mod BitLaws
pub mod Tables
