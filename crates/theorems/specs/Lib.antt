pub mod Areas
pub mod Turning
pub mod Statements
pub mod Rows
