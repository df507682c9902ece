-- What the graph of a program's functions says.
pub mod Firsts
pub mod Flow
pub mod Graphs
pub mod Inference
pub mod Nodes
pub mod Program
pub mod Recursion
pub mod Rows
pub mod Search
