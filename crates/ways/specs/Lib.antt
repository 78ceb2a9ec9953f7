pub mod Sheet
pub mod Parts
pub mod Adding
pub mod Input
pub mod Refusals
pub mod Nodes
pub mod Judged
pub mod View
