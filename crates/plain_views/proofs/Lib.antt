pub mod HiddenLaws
pub mod ListingLaws
