pub mod Faults
pub mod Gates
pub mod Intake
pub mod Known
pub mod Reads
pub mod Supply
pub mod Whole
pub mod Writes
