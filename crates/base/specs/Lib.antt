-- What every part of the product needs and no edition of its files changes: bytes as numbers, refusals.
pub mod Bytes
pub mod Refusals
