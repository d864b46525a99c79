pub mod Guard
pub mod Lists
pub mod Shortcut
pub mod Numbers
