-- The loops of a function, and what is answered where they have a fault.
use Rattle.std.specs.Prelude.{ℕ, ◌<◌, List, map, All, AllPairs, Contains}
use Rattle.elf_mips.specs.declared.image.Image.{Image}
use Rattle.loop_nest.specs.declared.nest.Loop.{Loop}
use Rattle.net_model.specs.declared.unit.CodeKind.{CodeKind}
use Rattle.net_model.specs.declared.unit.CodeKind.TheVariants.{Irreducible, NoBound}
use Rattle.net_model.specs.Loops.{HasRanks, IsHeader, IsInBody, IsIrreducible, IsLoopBound, IsUnbounded}

-- A loop of the list is that of its header: its body, each unit once, and its bound.
pub record IsLoop (image : Image) (entry : ℕ) (l : Loop) : Type 0 where
  pub headed : IsHeader image entry l.header
  pub rising : AllPairs (λ (a b : ℕ). a < b) l.body
  pub sound : All (IsInBody image entry l.header) l.body
  pub whole : (address : ℕ) → IsInBody image entry l.header address → Contains l.body address
  pub bounded : IsLoopBound image entry l.header l.bound

-- The loops of a function, by rising header: each unit lies on no cycle without back arcs, and ranks rise along all
-- other arcs.
pub record IsNest (image : Image) (entry : ℕ) (loops : List Loop) : Type 0 where
  pub rising : AllPairs (λ (l m : Loop). l.header < m.header) loops
  pub each : All (IsLoop image entry) loops
  pub whole : (header : ℕ) → IsHeader image entry header → Contains (map (λ (l : Loop). l.header) loops) header
  pub ranks : HasRanks image entry

-- The least unit on a cycle without back arcs.
pub record IsFirstIrreducible (image : Image) (entry place : ℕ) : Type 0 where
  pub here : IsIrreducible image entry place
  pub least : (lesser : ℕ) → lesser < place → IsIrreducible image entry lesser → ⊥

-- The least header of a loop without a bound, where no unit lies on a cycle without back arcs.
pub record IsFirstUnbounded (image : Image) (entry place : ℕ) : Type 0 where
  pub accepted : (address : ℕ) → IsIrreducible image entry address → ⊥
  pub here : IsUnbounded image entry place
  pub least : (lesser : ℕ) → lesser < place → IsUnbounded image entry lesser → ⊥

-- What is answered of a function's loops.
abbrev pub TellsKind : Image → (function : ℕ) → CodeKind → (place : ℕ) → Type 0
TellsKind image function Irreducible place = IsFirstIrreducible image function place
TellsKind image function NoBound place = IsFirstUnbounded image function place
TellsKind image function kind place = ⊥
