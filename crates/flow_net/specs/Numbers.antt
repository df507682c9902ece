-- Numbers of places, arcs, loop instances and accesses: each is a position in its list, counted from 1.
use Rattle.std.specs.Prelude.{ℕ, zero, suc, ◌≤◌, List, length, Option, None, slice_get}

-- The item of a number. The number 0 names nothing.
abbrev pub item_at : {T : Type 0} → ℕ → List T → Option T
item_at zero items = None
item_at (suc position) items = slice_get items position

-- The number is that of an item.
pub record IsNumberOf {T : Type 0} (items : List T) (number : ℕ) : Type 0 where
  pub from_one : 1 ≤ number
  pub within : number ≤ length items

-- The number is that of an item, or 0.
abbrev pub IsNumberOrZero : {T : Type 0} → List T → ℕ → Type 0
IsNumberOrZero items number = number ≤ length items
