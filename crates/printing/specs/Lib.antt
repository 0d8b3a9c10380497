pub mod Put
pub mod Room
pub mod Printed
