pub mod Seats
pub mod Table
