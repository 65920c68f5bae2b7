pub mod Growing
pub mod Holding
pub mod Leaving
pub mod Looking
pub mod Members
pub mod Showing
pub mod Threads
pub mod Walks
