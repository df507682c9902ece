-- Which addresses accesses may go to.
pub mod Ranges
