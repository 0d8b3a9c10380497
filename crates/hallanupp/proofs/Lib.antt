pub mod Said
pub mod HeldTick
pub mod InC
pub mod EveryAnswerPinned
