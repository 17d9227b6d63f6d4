pub mod MoveLaws
pub mod EntryLaws
pub mod NodeLaws
pub mod OutputLaws
