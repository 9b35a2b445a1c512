pub mod Asked
pub mod Placing
pub mod Typing
