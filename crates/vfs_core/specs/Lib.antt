pub mod Kernel
pub mod Stepping
pub mod Coming
pub mod Queues
pub mod Work
pub mod Turning
pub mod Filling
pub mod Seats
