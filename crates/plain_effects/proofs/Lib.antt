pub mod EachLaws
pub mod DoomLaws
pub mod DetachLaws
