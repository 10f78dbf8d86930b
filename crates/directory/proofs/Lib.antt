pub mod Places
pub mod Label
pub mod Numbers
pub mod Ends
pub mod Live
pub mod Named
pub mod Search
