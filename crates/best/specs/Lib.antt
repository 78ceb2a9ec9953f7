pub mod Wanted
pub mod Choosing
pub mod Entry
