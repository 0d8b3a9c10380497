pub mod BigEndian
pub mod Checks
pub mod OneRefusal
