pub mod Pasts
pub mod Instances
pub mod Steady
pub mod PartsMade
pub mod Families
pub mod Others
pub mod Numbers
pub mod MadeParts
