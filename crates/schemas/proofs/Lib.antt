pub mod Adding
pub mod Names
pub mod TableReads
