pub mod MarkCalls
pub mod RenameBack
pub mod MarkOrder
