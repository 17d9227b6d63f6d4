pub mod Calls
pub mod Chains
pub mod Queues
pub mod Rings
