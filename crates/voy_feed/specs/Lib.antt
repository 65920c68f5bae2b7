pub mod Kept
pub mod Feed
pub mod Errors
pub mod KeptLaws
