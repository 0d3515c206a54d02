pub mod State
pub mod Text
pub mod Line
pub mod Answer
pub mod Script
pub mod Lines
pub mod Claims
