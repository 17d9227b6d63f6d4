pub mod Calls
pub mod Opens
pub mod Parts
pub mod Passing
pub mod Places
pub mod Sharing
