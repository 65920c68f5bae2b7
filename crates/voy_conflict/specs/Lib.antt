pub mod Cache
pub mod Filing
pub mod Laws
