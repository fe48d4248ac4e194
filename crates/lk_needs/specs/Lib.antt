pub mod Marks
pub mod Endings
pub mod Followers
pub mod Builtins
pub mod Things
pub mod Leads
pub mod Search
