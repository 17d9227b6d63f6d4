pub mod Records
pub mod Directory
