pub mod Shown
pub mod Exact
pub mod Lanes
