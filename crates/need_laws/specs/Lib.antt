pub mod Above
pub mod Changed
pub mod Turning
pub mod Lacking
pub mod Showing
pub mod Finding
