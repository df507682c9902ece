-- Laws of the net of a program.
pub mod Items
-- Sizes and layout of the contexts.
pub mod Bisection
pub mod Places
pub mod Numbering
pub mod Telling
pub mod GraphPlaces
pub mod Calling
pub mod Finishing
pub mod Totals
pub mod Adding
pub mod Bases
pub mod Summing
pub mod Expanding
pub mod GraphFunctions
pub mod CallGraph
pub mod ProgramSizes
pub mod LayingOut
pub mod Returns
pub mod LaidOut
-- Places, arcs and accesses of a layout.
pub mod SpotNumbers
pub mod ContextOrder
pub mod LaidProgram
pub mod Laying
pub mod Zips
pub mod Quiet
pub mod Appending
pub mod Targets
pub mod Leading
pub mod WayCounts
pub mod ArcCounts
pub mod PlaceAccesses
pub mod HasItsPlaces
pub mod HasItsArcs
pub mod WholeNet
-- Loop instances and scopes.
mod Nodes
mod AroundLaws
mod AroundLists
mod ScopeLists
mod BodySearch
mod Growing
mod Parts
mod InstanceLists
mod RoundLists
mod CallScopes
mod NetGround
mod HeldUnits
mod InstanceNet
-- The net is nested.
pub mod NetItems
pub mod Numerals
pub mod NetRanks
pub mod NetScopes
pub mod NetPaths
pub mod NetNumbers
pub mod Entering
pub mod NestedNet
-- A program has one net.
pub mod Keyed
pub mod ContextsOnce
pub mod ScopesOnce
pub mod NetOnce
-- A program has one number of contexts and one of places.
pub mod GraphCalls
pub mod SizesOnce
pub mod SameSizes
