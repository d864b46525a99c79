pub mod Text
pub mod Run
pub mod Printout
pub mod Results
pub mod Puts
