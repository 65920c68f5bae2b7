pub mod Feeds
pub mod Finding
pub mod Lengths
pub mod Pieces
pub mod Reading
pub mod Standing
