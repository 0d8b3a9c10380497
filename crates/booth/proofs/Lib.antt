pub mod Demand
pub mod RowWritten
pub mod Taking
pub mod Settling
pub mod Working
pub mod OneTurn
pub mod FreshBooth
