pub mod Behind
pub mod Heads
pub mod Sought
