-- Laws of loops: what follows from the definitions of bodies and back arcs.
pub mod Dominance
pub mod Laminar
pub mod ForwardWays
pub mod HeaderRank
pub mod Innermost
pub mod Ranked
pub mod NestLaws
pub mod Ordered
pub mod Arcs
-- The functions' own lemmas.
mod Bounding
mod Bridge
mod Choosing
mod Cycling
mod Finding
mod Holding
mod Collecting
mod Irreducibles
mod Least
mod Nesting
mod Planning
mod Ranking
mod Recording
mod Regular
mod Removing
mod Retreating
mod Returning
mod Walking
