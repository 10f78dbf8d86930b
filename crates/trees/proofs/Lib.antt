pub mod Up
pub mod Numbers
pub mod Enough
pub mod Once
pub mod Parts
pub mod Order
pub mod Occupied
