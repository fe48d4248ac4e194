pub mod Parameters
pub mod Values
pub mod Compared
pub mod Gathering
pub mod Placing
pub mod Cases
pub mod Digits
pub mod Covers
