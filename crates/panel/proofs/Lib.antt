pub mod ExactShare
pub mod Cases
pub mod Lanes
