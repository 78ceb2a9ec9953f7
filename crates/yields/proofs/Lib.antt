pub mod Reading
pub mod Counting
pub mod Worth
pub mod Parting
