pub mod Answered
pub mod Counts
pub mod Squares
pub mod Walks
