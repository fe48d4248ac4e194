pub mod Found
pub mod Reached
pub mod Lists
pub mod Worked
pub mod Computed
