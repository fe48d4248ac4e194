pub mod Attacks
pub mod GoodUnit
pub mod Later
pub mod Verdict
pub mod Operations
pub mod Told
pub mod Held
pub mod Checked
