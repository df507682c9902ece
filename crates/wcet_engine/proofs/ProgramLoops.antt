-- The loops of each of a program's functions.
use Rattle.std.proofs.Common.{ℕ, inl, inr, List, [], ◌∷◌, map, subst}
use Rattle.std.specs.Prelude.{Contains}
use Rattle.std.specs.List.{AllZip}
use Rattle.elf_mips.specs.declared.image.Image.{Image}
use Rattle.loop_nest.specs.Nests.{IsNest}
use Rattle.loop_nest.specs.Programs.{IsIrreducibleIn, IsNestOf, IsUnboundedIn}
use Rattle.loop_nest.specs.declared.nest.Loop.{Loop}
use Rattle.loop_nest.specs.declared.nest.Nests.{Nests}
use Rattle.loop_nest.proofs.HeaderRank.{ranks-reducible}
use Rattle.loop_nest.proofs.NestLaws.{nest-bounded}
use Rattle.loop_nest.proofs.Ordered.{cases-in, nothing-in}
use Rattle.net_model.specs.Functions.{IsFunction}
use Rattle.unit_graph.specs.declared.graph.Graph.{Graph}
use Rattle.unit_graph.specs.declared.graph.Graphs.{Graphs}
use Rattle.call_contexts.specs.Programs.{IsProgram}

-- The loops of a function of the program.
nest-in : (image : Image) (graphs : List Graph) (nests : List (List Loop)) (function : ℕ) → AllZip (IsNestOf image) graphs nests →
    Contains (map (λ (g : Graph). g.entry) graphs) function → (loops : List Loop) × IsNest image function loops
nest-in image [] nests function zip there = absurd (nothing-in function there)
nest-in image (graph ∷ graphs) [] function zip there = absurd zip
nest-in image (graph ∷ graphs) (loops ∷ nests) function zip there =
    elim (cases-in graph.entry (map (λ (g : Graph). g.entry) graphs) function there) [
      | inl same ↦ (loops, subst (λ (f : ℕ). IsNest image f loops) same zip.0)
      | inr behind ↦ nest-in image graphs nests function zip.1 behind
    ]

nest-of : (image : Image) (entry : ℕ) (graphs : Graphs) (nests : Nests) → IsProgram image entry graphs nests → (function : ℕ) → IsFunction image entry function →
    (loops : List Loop) × IsNest image function loops
nest-of image entry graphs nests are function is = nest-in image graphs.graphs nests.nests function are.nests_are (are.graphs_are.whole function is)

-- No function of the program has a fault of its loops.
pub none-irreducible : (image : Image) (entry : ℕ) (graphs : Graphs) (nests : Nests) → IsProgram image entry graphs nests → (place : ℕ) → IsIrreducibleIn image entry place → ⊥
none-irreducible image entry graphs nests are place fault =
    let nest = nest-of image entry graphs nests are fault.function fault.is in
    ranks-reducible image fault.function nest.1.ranks place fault.here

pub none-unbounded : (image : Image) (entry : ℕ) (graphs : Graphs) (nests : Nests) → IsProgram image entry graphs nests → (place : ℕ) → IsUnboundedIn image entry place → ⊥
none-unbounded image entry graphs nests are place fault =
    let nest = nest-of image entry graphs nests are fault.function fault.is in
    nest-bounded image fault.function nest.0 nest.1 place fault.here
