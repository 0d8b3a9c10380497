pub mod BoothLines
pub mod Unrefused
pub mod Printed
