pub mod Parts
pub mod Going
pub mod Way
pub mod Turns
pub mod View
