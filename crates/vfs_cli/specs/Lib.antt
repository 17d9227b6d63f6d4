pub mod Words
pub mod Output
pub mod Outcome
pub mod Serving
pub mod Workers
