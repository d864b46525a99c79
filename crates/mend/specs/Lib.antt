pub mod Rule
pub mod One
pub mod All
pub mod Laws
