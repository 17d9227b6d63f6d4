pub mod Leaving
pub mod AlikeLaws
pub mod FileLaws
pub mod LinkLaws
pub mod UnmountLaws
pub mod FuelLaws
