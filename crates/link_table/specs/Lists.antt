-- Lists of items by number.
use Rattle.std.specs.Prelude.{ℕ, ◌==◌, if◌then◌else◌, List, [], ◌∷◌, Contains, slice_index_or, slice_set}

-- How many items there are, numbered from 0, and the lists in order.
pub record Lists : Type 0 where
  pub items : ℕ
  pub lists : List (List ℕ)

-- The items of a list; none past the last list.
abbrev pub items_of : Lists → (list : ℕ) → List ℕ
items_of table list = slice_index_or table.lists list []

-- One list has other items, and all others stay.
abbrev pub with_list : Lists → (list : ℕ) → List ℕ → Lists
with_list table list items = record table { lists = slice_set table.lists list items }

-- The item stands in no list.
abbrev pub IsFree : Lists → (item : ℕ) → Type 0
IsFree table item = (list : ℕ) → Contains (items_of table list) item → ⊥

-- The item stands in some list.
abbrev pub Stands : Lists → (item : ℕ) → Type 0
Stands table item = (list : ℕ) × Contains (items_of table list) item
