pub mod Apart
pub mod Listings
pub mod Lying
