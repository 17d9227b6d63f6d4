pub mod Added
pub mod Ranking
