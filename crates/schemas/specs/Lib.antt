pub mod AllSchemas
pub mod Declarations
pub mod Fields
pub mod Tables
