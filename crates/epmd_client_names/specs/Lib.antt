pub mod Text
pub mod Tallies
pub mod Survey
pub mod Walk
