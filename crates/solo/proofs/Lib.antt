pub mod AskedSoFar
pub mod Playing
pub mod Calls
pub mod OneBooth
