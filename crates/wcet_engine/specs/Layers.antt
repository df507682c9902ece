-- Faults in layers that are looked for one after the other, and which fault is the first.
use Rattle.std.specs.Prelude.{◌≡◌, ℕ, ◌<◌, ◌⊎◌, List, [], ◌∷◌}

-- A layer tells the offenders of its kinds, by their places. A layer of one kind:
pub record OneKind {K P : Type 0} (own : K) (Offends : P → Type 0) (kind : K) (place : P) : Type 0 where
  pub same : kind ≡ own
  pub offends : Offends place

-- A layer of all kinds that are made of kinds of its own:
pub record Nested {I K P : Type 0} (made : I → K) (Offends : I → P → Type 0) (kind : K) (place : P) : Type 0 where
  pub inner : I
  pub same : kind ≡ made inner
  pub offends : Offends inner place

-- One of the layers of a list has the offender.
abbrev pub AnyOf : {K P : Type 0} → List (K → P → Type 0) → K → P → Type 0
AnyOf [] kind place = ⊥
AnyOf (layer ∷ layers) kind place = layer kind place ⊎ AnyOf layers kind place

-- The first fault: no earlier kind has an offender, and no lesser place has one of this kind.
pub record IsFirst {K P : Type 0} (rank : K → ℕ) (IsLess : P → P → Type 0) (Offends : K → P → Type 0)
    (kind : K) (place : P) : Type 0 where
  pub offends : Offends kind place
  pub first : (other : K) (spot : P) → rank other < rank kind → Offends other spot → ⊥
  pub least : (lesser : P) → IsLess lesser place → Offends kind lesser → ⊥
