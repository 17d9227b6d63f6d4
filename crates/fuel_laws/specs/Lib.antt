pub mod Layered
pub mod ShownUnder
pub mod Listing
pub mod Links
pub mod Lowest
pub mod Staying
pub mod Ended
