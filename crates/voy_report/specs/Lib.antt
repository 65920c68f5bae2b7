pub mod Show
pub mod ShowLaws
