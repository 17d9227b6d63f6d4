pub mod Lists
pub mod ProperBox
