pub mod Words
pub mod Stores
pub mod Meaning
pub mod Rises
pub mod WordLaws
