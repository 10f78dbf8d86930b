pub mod Picked
pub mod Placed
pub mod Unavailable
pub mod Next
