pub mod FirstLine
pub mod TextExactly
pub mod BlockCounts
pub mod OneAnswer
