pub mod Usable
pub mod Laws
pub mod Bits
