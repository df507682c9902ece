-- What the contracts on ELF files and images of programs say.
pub mod Fields
pub mod Headers
pub mod Segments
pub mod Strings
pub mod Sections
pub mod Symbols
pub mod Marks
pub mod Records
pub mod Rules
pub mod Faults
pub mod Image
