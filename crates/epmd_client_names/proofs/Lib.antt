pub mod TextLaws
pub mod PortLaws
pub mod TallyLaws
pub mod LineLaws
pub mod SurveyLaws
pub mod WalkLaws
pub mod ReplyLaws
