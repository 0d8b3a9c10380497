pub mod BoothHeld
