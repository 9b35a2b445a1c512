pub mod Kinds
pub mod Numbers
pub mod Labels
pub mod LawsOfLabels
pub mod Tools
pub mod LawsOfNumbers
