pub mod Print
pub mod Record
pub mod Records
