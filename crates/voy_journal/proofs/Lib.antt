pub mod Adding
pub mod ExactBytes
pub mod Gates
pub mod Progress
pub mod Settling
