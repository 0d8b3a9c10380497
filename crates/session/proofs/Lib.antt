pub mod ByCases
pub mod Played
