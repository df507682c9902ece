-- The bounds that records give, by the addresses at which they stand and by the positions of headers.
use Rattle.std.specs.Prelude.{◌≡◌, ℕ, ◌+◌, ◌<◌, ◌≤◌, ◌⊎◌, List, length, Contains, Option, Some, None, true, min, slice_get}
use Rattle.elf_mips.specs.declared.mark.Mark.{Mark}
use Rattle.unit_graph.specs.declared.node.Unit.{Unit as Node}

-- The least number of which something holds, or none.
abbrev pub IsLeastOf : (ℕ → Type 0) → Option ℕ → Type 0
IsLeastOf P None = (x : ℕ) → P x → ⊥
IsLeastOf P (Some least) = P least × ((x : ℕ) → P x → least ≤ x)

-- The lesser one of two numbers, of which one or both may be missing.
abbrev pub lesser_of : Option ℕ → Option ℕ → Option ℕ
lesser_of None y = y
lesser_of (Some x) None = Some x
lesser_of (Some x) (Some y) = Some (min x y)

-- One of the records of kind 1 at an address gives this number.
pub record IsRecorded (marks : List Mark) (address x : ℕ) : Type 0 where
  pub mark : Mark
  pub listed : Contains marks mark
  pub kind : mark.kind ≡ 1
  pub there : mark.address ≡ address
  pub same : mark.x ≡ x

-- For each address the least number that one of the records gives, or none.
abbrev pub AreRecorded : List Mark → (recorded : ℕ → Option ℕ) → Type 0
AreRecorded marks recorded = (address : ℕ) → IsLeastOf (IsRecorded marks address) (recorded address)

-- A number is recorded at the address of a unit, or at that of its slot.
abbrev pub IsGiven : (recorded : ℕ → Option ℕ) → Node → ℕ → Type 0
IsGiven recorded node x =
    (recorded node.address ≡ Some x) ⊎ ((node.slot ≡ true) × (recorded (node.address + 4) ≡ Some x))

-- A number is recorded for one of the first units, which has this innermost header.
pub record IsBoundBy (units : List Node) (innermost : List (Option ℕ)) (recorded : ℕ → Option ℕ) (done header x : ℕ) : Type 0 where
  pub position : ℕ
  pub early : position < done
  pub node : Node
  pub there : slice_get units position ≡ Some node
  pub inner : slice_get innermost position ≡ Some (Some header)
  pub given : IsGiven recorded node x

-- For each header the least number that is recorded for those of the first units whose innermost header it is.
pub record AreBoundsBy (units : List Node) (innermost : List (Option ℕ)) (recorded : ℕ → Option ℕ) (done : ℕ)
    (bounds : List (Option ℕ)) : Type 0 where
  pub count : length bounds ≡ length units
  pub each : (header : ℕ) (found : Option ℕ) → slice_get bounds header ≡ Some found →
      IsLeastOf (IsBoundBy units innermost recorded done header) found

-- For each header the least number that is recorded for a unit whose innermost header it is.
abbrev pub AreBounds : List Node → (innermost : List (Option ℕ)) → (recorded : ℕ → Option ℕ) → (bounds : List (Option ℕ)) → Type 0
AreBounds units innermost recorded bounds = AreBoundsBy units innermost recorded (length units) bounds

-- A header's bound, if there is a header, becomes the lesser one of itself and of another one.
pub record IsLowered (header bound : Option ℕ) (before later : List (Option ℕ)) : Type 0 where
  pub count : length later ≡ length before
  pub other : (h : ℕ) → (header ≡ Some h → ⊥) → slice_get later h ≡ slice_get before h
  pub lesser : (h : ℕ) (old found : Option ℕ) → header ≡ Some h → slice_get before h ≡ Some old →
      slice_get later h ≡ Some found → found ≡ lesser_of old bound
