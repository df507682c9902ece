-- What the contracts on lattices say, and the laws of their combinations.
pub mod Shapes
pub mod Laws
pub mod Consequences
pub mod Plain
pub mod Transfers
pub mod Options
pub mod Pairs
pub mod Maps
pub mod MapValues
pub mod MapLaws
pub mod Keys
pub mod Places
pub mod Sets
pub mod SetLaws
