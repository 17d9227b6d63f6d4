pub mod Standing
pub mod Stacks
pub mod OpenDirs
pub mod Unwritten
pub mod Contents
pub mod OpenFiles
pub mod Deepest
