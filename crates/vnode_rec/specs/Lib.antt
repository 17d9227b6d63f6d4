pub mod Identity
pub mod Chains
pub mod Holders
pub mod Vnodes
pub mod Effects
pub mod Sound
