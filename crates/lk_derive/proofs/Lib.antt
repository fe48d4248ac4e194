mod Lists
mod Keyed
mod Claimed
mod Noted
mod Named
mod Searched
pub mod Among
pub mod Determined
mod Waiting
pub mod Steady
mod Marked
mod Done
mod Stepped
mod UnderWay
pub mod QuietUnits
pub mod UnitRuns
pub mod UnitParts
pub mod UnitVerdicts
pub mod PartsAdded
pub mod PartsDue
pub mod SidesAdded
pub mod UnitDue
pub mod UnitDone
pub mod PairsMade
pub mod LawsMade
