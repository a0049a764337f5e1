pub mod Lengths
pub mod OneAnswer
