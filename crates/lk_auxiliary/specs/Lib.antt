pub mod Past
pub mod Naming
pub mod Places
pub mod Auxiliaries
pub mod Ends
pub mod Parts
pub mod Settings
pub mod Made
