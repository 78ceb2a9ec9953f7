pub mod Cells
pub mod Says
pub mod Halves
pub mod Parts
pub mod Filling
pub mod Fitting
pub mod Found
pub mod Reached
