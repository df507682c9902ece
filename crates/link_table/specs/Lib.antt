-- Lists of items, and the rings of links that stand for them.
pub mod Items
pub mod Lists
pub mod Rings
pub mod Tables
