pub mod Middle
pub mod Search
pub mod Listing
pub mod Edits
pub mod Last
