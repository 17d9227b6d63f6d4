pub mod CoveredViews
pub mod HiddenNames
pub mod Undeleted
pub mod MadeViews
pub mod MadeBelow
pub mod MadeEmpty
pub mod MovedBelow
