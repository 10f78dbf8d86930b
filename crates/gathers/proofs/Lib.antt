pub mod ChainOrder
pub mod Moving
pub mod Listed
pub mod Bridge
pub mod Call
