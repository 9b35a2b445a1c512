pub mod Lines
pub mod Naturals
pub mod TypeNames
pub mod Words
