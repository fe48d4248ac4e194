pub mod Applied
pub mod Looking
