pub mod Rack
pub mod Routes
