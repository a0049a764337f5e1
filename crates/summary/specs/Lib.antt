pub mod Answers
pub mod Burn
