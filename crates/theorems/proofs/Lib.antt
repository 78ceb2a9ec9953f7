pub mod Filled
pub mod Larger
pub mod Quarter
pub mod Mirrors
pub mod Nodes
pub mod Known
