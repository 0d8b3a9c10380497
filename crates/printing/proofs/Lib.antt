pub mod Pieces
pub mod Digits
pub mod LineLengths
