-- Tables of steps between positions: searches, orders and cycles.
pub mod Cycles
pub mod Listing
pub mod Numbers
pub mod Rings
pub mod Search
pub mod Table
