pub mod Lookups
pub mod Pads
pub mod Same
pub mod Turns
