pub mod Reckoned
pub mod Table
pub mod Cuts
pub mod Pieces
pub mod Found
pub mod AsItLies
pub mod Laws
