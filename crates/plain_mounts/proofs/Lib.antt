pub mod AddedLaws
pub mod FirstLaws
pub mod UnionLaws
