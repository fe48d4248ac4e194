pub mod Names
