pub mod Alone
pub mod Played
