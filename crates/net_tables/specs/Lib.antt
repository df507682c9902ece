-- What the contracts on the tables of a net say.
pub mod Numbers
pub mod Tables
pub mod Crossings
