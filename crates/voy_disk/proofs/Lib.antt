mod Crashes
mod Growing
mod Leaving
mod Listing
mod Losing
mod Ranges
mod Untold
mod Updates
