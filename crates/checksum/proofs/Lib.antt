pub mod Linear
pub mod Laws
