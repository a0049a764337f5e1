pub mod Basics
pub mod Equal
pub mod First
pub mod Members
