-- Lemmas on class tables.
pub mod Arriving
pub mod UnknownRows
