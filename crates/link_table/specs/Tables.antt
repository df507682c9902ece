-- The links behind the lists. Each item is a node, and behind the items stands one more node for each list, its end.
-- The nodes of a list are a ring: the end, the items in order, and the end again. An item of no list is a ring of its
-- own.
use Rattle.std.specs.Prelude.{◌≡◌, ℕ, zero, suc, ◌+◌, ◌-◌, ◌<◌, ◌==◌, ◌||◌, nat_lt, Bool, true, false, List, [], ◌∷◌, length, map, slice_index, slice_index_or, Option, Some, None}
use Rattle.std.specs.List.{range_with_len}
use Rattle.link_table.specs.declared.table.LinkTable.TheInside.{Inside}
use Rattle.link_table.specs.Items.{is_in, AreApart}
use Rattle.link_table.specs.Lists.{Lists}

-- The links lead from a node over these items to another node.
abbrev pub Leads : (next : List ℕ) (items from : ℕ) → List ℕ → (to : ℕ) → Type 0
Leads next items from [] to = slice_index next from ≡ to
Leads next items from (x ∷ xs) to = (slice_index next from ≡ x) × (x < items) × Leads next items x xs to

-- The items that follow a node, up to the first node that is none, or so many of them.
abbrev pub follow : (is_item : Bool) → (node : ℕ) → List ℕ → List ℕ
follow false node rest = []
follow true node rest = node ∷ rest

abbrev pub following : (next : List ℕ) (items most from : ℕ) → List ℕ
following next items zero from = []
following next items (suc most) from =
    follow (nat_lt (slice_index next from) items) (slice_index next from)
    (following next items most (slice_index next from))

-- The lists for which the links stand.
abbrev pub lists_of : (next : List ℕ) (items : ℕ) → List (List ℕ)
lists_of next items = map (following next items items) (range_with_len items (length next - items))

-- The links and owners stand for these lists.
pub record StandsFor (items : ℕ) (next : List ℕ) (owners : List (Option ℕ)) (lists : List (List ℕ)) : Type 0 where
  pub nodes : length next ≡ items + length lists
  pub owned : length owners ≡ items
  pub leads : (list : ℕ) → list < length lists →
      Leads next items (items + list) (slice_index_or lists list []) (items + list)
  pub apart : (list : ℕ) → AreApart (slice_index_or lists list [])
  pub owner : (list item : ℕ) → is_in (slice_index_or lists list []) item ≡ true →
      slice_index_or owners item None ≡ Some list
  pub stands : (list item : ℕ) → slice_index_or owners item None ≡ Some list →
      is_in (slice_index_or lists list []) item ≡ true
  pub alone : (item : ℕ) → item < items → slice_index_or owners item None ≡ None → slice_index next item ≡ item

abbrev pub view_of : Inside → Lists
view_of table = record { items = table.items; lists = lists_of table.rings table.items }

abbrev pub IsLinked : Inside → Type 0
IsLinked table = StandsFor table.items table.rings table.owners.items (lists_of table.rings table.items)
