pub mod Opens
pub mod Rows
