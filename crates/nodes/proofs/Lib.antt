pub mod Lent
pub mod ReadBack
pub mod Left
