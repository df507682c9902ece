-- Tables of states: for each place of a net the state before it, by the place's number.
use Rattle.std.specs.Prelude.{◌≡◌, ℕ, ◌<◌, Bool, true, false, List, length, Option, None, Some, slice_index_or}

-- The state before a place. There is none at 0, or at a place that no way has come to yet.
abbrev pub value_of : {D : Type 0} → List (Option D) → ℕ → Option D
value_of values place = slice_index_or values place None

-- Each state passes the test of its place.
abbrev pub Passes : {D : Type 0} → (ℕ → D → Bool) → List (Option D) → Type 0
Passes {D} test values = (place : ℕ) (x : D) → value_of values place ≡ Some x → test place x ≡ true

-- Each place but 0 has a state.
abbrev pub IsFull : {D : Type 0} → List (Option D) → Type 0
IsFull values = (place : ℕ) → 0 < place → place < length values → value_of values place ≡ None → ⊥

-- The place waits.
abbrev pub waits : List Bool → ℕ → Bool
waits marks place = slice_index_or marks place false
