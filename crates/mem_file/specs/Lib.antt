pub mod Paste
pub mod Contents
