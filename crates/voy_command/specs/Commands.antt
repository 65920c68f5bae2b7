pub mod DryRun
pub mod Show
