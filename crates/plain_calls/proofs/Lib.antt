pub mod Deciding
pub mod Parsing
