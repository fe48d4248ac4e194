pub mod Sought
pub mod Visits
pub mod Costs
pub mod Trees
