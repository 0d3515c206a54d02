pub mod Requests
pub mod Decision
pub mod Replies
pub mod Readings
pub mod Answers
pub mod ReadingClaims
pub mod Claims
