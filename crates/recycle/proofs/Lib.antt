pub mod Racks
pub mod Recycled
pub mod TwoRows
