pub mod Listed
pub mod Locks
