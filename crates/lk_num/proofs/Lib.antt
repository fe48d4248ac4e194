pub mod DigitLoops
pub mod Numerals
