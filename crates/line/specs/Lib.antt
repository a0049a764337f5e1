pub mod Digits
pub mod Places
pub mod Reading
pub mod Lent
pub mod LineForm
pub mod LineTable
pub mod Private
