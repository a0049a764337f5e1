pub mod Whole
pub mod OneAnswer
