-- Rows of class tables.
pub mod Unknown
