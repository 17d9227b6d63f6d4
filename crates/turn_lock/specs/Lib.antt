pub mod Known
pub mod Plays
pub mod Turns
