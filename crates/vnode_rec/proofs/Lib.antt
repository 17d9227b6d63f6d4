pub mod Links
pub mod Counts
pub mod Walk
pub mod Slots
pub mod Held
pub mod Boxes
pub mod Changed
pub mod Found
pub mod Seek
pub mod Fresh
pub mod Moves
pub mod Growth
pub mod Pigeons
pub mod Claims
pub mod Pairs
mod Filling
mod Reclaiming
mod Swapping
