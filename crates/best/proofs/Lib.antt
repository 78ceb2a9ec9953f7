pub mod Choosing
pub mod Room
pub mod Sawn
