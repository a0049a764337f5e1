pub mod Lengths
pub mod Inside
pub mod Written
pub mod OneAnswer
