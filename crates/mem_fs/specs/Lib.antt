pub mod Contents
pub mod NewNodes
pub mod Inodes
pub mod Rooms
pub mod FileSystem
pub mod Named
pub mod Invariant
