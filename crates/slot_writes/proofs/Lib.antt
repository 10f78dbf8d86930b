pub mod Slot
pub mod KeptSlot
pub mod Dirs
pub mod Laws
