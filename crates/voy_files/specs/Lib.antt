pub mod Lines
pub mod LineLaws
pub mod Bytes
pub mod Reader
pub mod RangeLaws
