pub mod Scraps
