pub mod Linking
pub mod Next
