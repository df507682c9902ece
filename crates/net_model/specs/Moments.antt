-- What a run does, as a net tells it, one moment after the other.
use Rattle.std.specs.Prelude.{◌≡◌, ℕ, Bool, false, List, [], ◌∷◌, All}

pub data Moment : Type 0 where
  -- The run takes the arc of this number.
  Takes : (arc : ℕ) → Moment
  -- It makes the access of this number at an address. The access visits so many caches of its chain, and the last one
  -- of them holds its block or doesn't.
  Makes : (access address caches : ℕ) (hit : Bool) → Moment

-- The arcs that a run takes, in order.
abbrev pub arcs_of : List Moment → List ℕ
arcs_of [] = []
arcs_of (Takes arc ∷ more) = arc ∷ arcs_of more
arcs_of (Makes access address caches hit ∷ more) = arcs_of more

-- Where there is no cache, none is visited, and none holds a block.
abbrev pub VisitsNone : Moment → Type 0
VisitsNone (Takes arc) = Unit {0}
VisitsNone (Makes access address caches hit) = (caches ≡ 0) × (hit ≡ false)

abbrev pub VisitNone : List Moment → Type 0
VisitNone moments = All VisitsNone moments
