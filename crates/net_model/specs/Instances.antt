-- The loop instances of a net: the pairs of a context and a loop of its function.
use Rattle.std.specs.Prelude.{◌≡◌, ℕ, ◌<◌, ◌⊎◌, AllPairs, Some, slice_get}
use Rattle.elf_mips.specs.declared.image.Image.{Image}
use Rattle.flow_net.specs.Numbers.{item_at}
use Rattle.flow_net.specs.declared.net.Context.{Context}
use Rattle.flow_net.specs.declared.net.LoopInst.{LoopInst}
use Rattle.flow_net.specs.declared.net.Net.{Net}
use Rattle.flow_net.specs.declared.net.Place.{Place}
use Rattle.net_model.specs.Loops.{IsHeader, IsInBody, IsLoopBound}
use Rattle.net_model.specs.Places.{IsPlaceOf}

-- The loop instance of a number is that of a header in a context.
pub record IsLoopAt (net : Net) (scope context header : ℕ) : Type 0 where
  pub inst : LoopInst
  pub there : item_at scope net.loops ≡ Some inst
  pub at : IsPlaceOf net inst.header context header

-- The loop of a header in a context's function holds the address.
pub record IsInBodyOf (image : Image) (net : Net) (context header address : ℕ) : Type 0 where
  pub of : Context
  pub there : slice_get net.contexts context ≡ Some of
  pub held : IsInBody image of.target header address

-- What a loop instance holds: in its own context the body of its loop, and all of a context that was made by a
-- call which it holds.
pub data HoldsUnit (image : Image) (net : Net) (scope : ℕ) : (context address : ℕ) → Type 0 where
  body : (context header address : ℕ) → IsLoopAt net scope context header →
      IsInBodyOf image net context header address → HoldsUnit image net scope context address
  made : (context address : ℕ) (of : Context) → slice_get net.contexts context ≡ Some of → 0 < context →
      HoldsUnit image net scope of.parent of.site → HoldsUnit image net scope context address

-- A loop instance lies inside another one, or is that one: it is held at its header.
pub record IsInside (image : Image) (net : Net) (scope outer : ℕ) : Type 0 where
  pub context : ℕ
  pub header : ℕ
  pub at : IsLoopAt net scope context header
  pub held : HoldsUnit image net outer context header

-- Of the loop instances that hold a unit, this is the innermost one: it lies inside each of them.
pub record IsInnermostOf (image : Image) (net : Net) (context address scope : ℕ) : Type 0 where
  pub held : HoldsUnit image net scope context address
  pub inner : (other : ℕ) → HoldsUnit image net other context address → IsInside image net scope other

-- The scope of a unit's place: the innermost loop instance that holds it, or 0 where none does.
abbrev pub IsScopeOf : Image → Net → (context address scope : ℕ) → Type 0
IsScopeOf image net context address scope =
    ((scope ≡ 0) × ((other : ℕ) → HoldsUnit image net other context address → ⊥))
    ⊎ IsInnermostOf image net context address scope

-- Of the other loop instances that hold a loop's header, this is the innermost one: the next one outward.
pub record IsNextOutward (image : Image) (net : Net) (inner context header scope : ℕ) : Type 0 where
  pub held : HoldsUnit image net scope context header
  pub other : scope ≡ inner → ⊥
  pub inside : (another : ℕ) → (another ≡ inner → ⊥) → HoldsUnit image net another context header →
      IsInside image net scope another

-- The scope round a loop instance: the next one outward, or 0 where no other one holds its header.
abbrev pub IsOuterOf : Image → Net → (inner context header scope : ℕ) → Type 0
IsOuterOf image net inner context header scope =
    ((scope ≡ 0) × ((other : ℕ) → (other ≡ inner → ⊥) → HoldsUnit image net other context header → ⊥))
    ⊎ IsNextOutward image net inner context header scope

-- A loop of a context's function, with the bound that the records give it.
pub record IsLoopOf (image : Image) (net : Net) (context header bound : ℕ) : Type 0 where
  pub of : Context
  pub there : slice_get net.contexts context ≡ Some of
  pub headed : IsHeader image of.target header
  pub bounded : IsLoopBound image of.target header bound

-- The loop instance of a number is that of a loop in a context: it begins at the header's place and has the loop's
-- bound and the scope round it.
pub record IsInstance (image : Image) (net : Net) (scope : ℕ) (inst : LoopInst) : Type 0 where
  pub context : ℕ
  pub header : ℕ
  pub at : IsPlaceOf net inst.header context header
  pub is_loop : IsLoopOf image net context header inst.bound
  pub outer : IsOuterOf image net scope context header inst.outer

-- The loop instances of a net: one for each header of each context's function, by the rising places of the headers.
pub record HasInstances (image : Image) (net : Net) : Type 0 where
  pub rising : AllPairs (λ (inst other : LoopInst). inst.header < other.header) net.loops
  pub each : (scope : ℕ) (inst : LoopInst) → item_at scope net.loops ≡ Some inst → IsInstance image net scope inst
  pub whole : (context header : ℕ) (of : Context) → slice_get net.contexts context ≡ Some of →
      IsHeader image of.target header → (scope : ℕ) × IsLoopAt net scope context header
  pub scopes : (number : ℕ) (place : Place) → item_at number net.places ≡ Some place →
      IsScopeOf image net place.context place.address place.scope
