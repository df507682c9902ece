-- The loops of a function: the usual reducible loops, told by removing a header.
use Rattle.std.specs.Prelude.{◌≡◌, ℕ, ◌+◌, ◌<◌, ◌≤◌, ◌⊎◌, List, [], ◌∷◌, Contains, true, is_some}
use Rattle.elf_mips.specs.declared.image.Image.{Image}
use Rattle.elf_mips.specs.declared.mark.Mark.{Mark}
use Rattle.net_model.specs.declared.unit.CodeUnit.{CodeUnit}
use Rattle.net_model.specs.declared.unit.Content.TheVariants.{Unit as Stands}
use Rattle.net_model.specs.Functions.{GoesOn, IsReached}
use Rattle.net_model.specs.Targets.{unit_at}

-- The addresses that are still reached from the entry once a header is removed.
pub data IsReachedWithout (image : Image) (entry header : ℕ) : ℕ → Type 0 where
  begins : (entry ≡ header → ⊥) → IsReachedWithout image entry header entry
  goes : (address later : ℕ) → IsReachedWithout image entry header address → GoesOn image address later →
      (later ≡ header → ⊥) → IsReachedWithout image entry header later

-- An arc to a header is a back arc where its source isn't reached once the header is removed. An arc
-- from a unit to itself is one.
pub record IsBackArc (image : Image) (entry from header : ℕ) : Type 0 where
  pub reached : IsReached image entry from
  pub goes : GoesOn image from header
  pub behind : IsReachedWithout image entry header from → ⊥

-- A header is what some back arc goes to. Loops with one header are one loop.
pub record IsHeader (image : Image) (entry header : ℕ) : Type 0 where
  pub from : ℕ
  pub arc : IsBackArc image entry from header

-- The body of a header: the header, the sources of its back arcs, and all units that reach one of these
-- without passing the header.
pub data IsInBody (image : Image) (entry header : ℕ) : ℕ → Type 0 where
  head : IsHeader image entry header → IsInBody image entry header header
  source : (from : ℕ) → IsBackArc image entry from header → IsInBody image entry header from
  before : (address later : ℕ) → IsReached image entry address → GoesOn image address later →
      (later ≡ header → ⊥) → IsInBody image entry header later → IsInBody image entry header address

-- A unit goes on by an arc that is no back arc.
pub record GoesForward (image : Image) (entry address later : ℕ) : Type 0 where
  pub goes : GoesOn image address later
  pub forward : IsBackArc image entry address later → ⊥

-- A way without back arcs.
abbrev pub IsForwardWay : Image → (entry : ℕ) → ℕ → List ℕ → ℕ → Type 0
IsForwardWay image entry from [] to = from ≡ to
IsForwardWay image entry from (later ∷ more) to =
    GoesForward image entry from later × IsForwardWay image entry later more to

-- A unit lies on a cycle that has no back arc: such a graph isn't accepted.
pub record IsIrreducible (image : Image) (entry address : ℕ) : Type 0 where
  pub reached : IsReached image entry address
  pub later : ℕ
  pub more : List ℕ
  pub begins : GoesForward image entry address later
  pub back : IsForwardWay image entry later more address

-- The innermost loop that holds a unit: each other loop that holds the unit holds its header.
pub record IsInnermost (image : Image) (entry header address : ℕ) : Type 0 where
  pub held : IsInBody image entry header address
  pub inner : (other : ℕ) → IsInBody image entry other address → IsInBody image entry other header

-- A record of kind 1 names the innermost loop that holds a unit which starts at its address or has its
-- slot there.
pub record IsNamedBy (image : Image) (entry : ℕ) (mark : Mark) (header : ℕ) : Type 0 where
  pub bounds : mark.kind ≡ 1
  pub address : ℕ
  pub reached : IsReached image entry address
  pub unit : CodeUnit
  pub stands : unit_at image address ≡ Stands unit
  pub there : (mark.address ≡ address) ⊎ ((is_some unit.slot ≡ true) × (mark.address ≡ address + 4))
  pub innermost : IsInnermost image entry header address

-- The bound of a loop is the least of the records that name it.
pub record IsLoopBound (image : Image) (entry header bound : ℕ) : Type 0 where
  pub mark : Mark
  pub listed : Contains image.marks mark
  pub named : IsNamedBy image entry mark header
  pub same : mark.x ≡ bound
  pub least : (other : Mark) → Contains image.marks other → IsNamedBy image entry other header → bound ≤ other.x

-- A loop that no record names has no bound.
pub record IsUnbounded (image : Image) (entry header : ℕ) : Type 0 where
  pub loops : IsHeader image entry header
  pub unnamed : (mark : Mark) → Contains image.marks mark → IsNamedBy image entry mark header → ⊥

-- A number for each unit that rises along each arc that is no back arc.
pub record HasRanks (image : Image) (entry : ℕ) : Type 0 where
  pub rank : ℕ → ℕ
  pub rises : (address later : ℕ) → IsReached image entry address → GoesForward image entry address later →
      rank address < rank later
