-- Sets of numbers that stay below a limit or become full.
use Rattle.std.specs.Prelude.{◌≡◌, ℕ, ◌+◌, ◌-◌, ◌^◌, ◌<◌, ◌≤◌, Bool, true, false, ◌&&◌, ◌||◌, ◌==◌, if◌then◌else◌, nat_lt, List, [], ◌∷◌, length, Option, None, Some}
use Rattle.domain_laws.specs.Shapes.{Shape}
use Rattle.domain_laws.specs.Shapes.Shape.{plain, pair, no_keys, key}
use Rattle.domain_laws.specs.Maps.{topped_leq}

-- The items of a set rise, from some number on.
abbrev pub Climbs : ℕ → List ℕ → Type 0
Climbs from [] = Unit {0}
Climbs from (item ∷ items) = (from ≤ item) × Climbs (item + 1) items

abbrev pub is_in : ℕ → List ℕ → Bool
is_in item [] = false
is_in item (other ∷ others) = (item == other) || is_in item others

-- Each item of the first list is in the second one.
abbrev pub within : List ℕ → List ℕ → Bool
within [] others = true
within (item ∷ items) others = is_in item others && within items others

-- The set with one more item, at its place in the order.
abbrev pub put : ℕ → List ℕ → List ℕ
put item [] = item ∷ []
put item (other ∷ others) =
    if nat_lt item other then item ∷ other ∷ others
    else (if item == other then other ∷ others else other ∷ put item others)

-- A set with the limit that its number of items stays below; without items it is full.
pub record Limited : Type 0 where
  pub limit : ℕ
  pub items : Option (List ℕ)

-- The items, if they are fewer than the limit.
abbrev pub capped : ℕ → List ℕ → Option (List ℕ)
capped limit items = if nat_lt (length items) limit then Some items else None

-- One more item. Full stays full.
abbrev pub with_item : ℕ → ℕ → Option (List ℕ) → Option (List ℕ)
with_item limit item None = None
with_item limit item (Some items) = capped limit (put item items)

abbrev pub added : ℕ → Limited → Limited
added item set = record { limit = set.limit; items = with_item set.limit item set.items }

abbrev pub all_added : List ℕ → Limited → Limited
all_added [] set = set
all_added (item ∷ items) set = all_added items (added item set)

-- Full is above every set.
abbrev pub capped_leq : Limited → Limited → Bool
capped_leq x y = topped_leq within x.items y.items

-- All items of both sets.
abbrev pub joined_by : Limited → Option (List ℕ) → Limited
joined_by set None = record { limit = set.limit; items = None }
joined_by set (Some items) = all_added items set

abbrev pub capped_joined : Limited → Limited → Limited
capped_joined x y = joined_by x y.items

-- How many items may come until the set is full.
abbrev pub room_of : ℕ → Option (List ℕ) → ℕ
room_of limit None = 0
room_of limit (Some items) = limit - length items

abbrev pub capped_rank : Limited → ℕ
capped_rank set = room_of set.limit set.items

-- Fewer items than the limit, in order.
abbrev pub AreFew : ℕ → Option (List ℕ) → Type 0
AreFew limit None = Unit {0}
AreFew limit (Some items) = Climbs 0 items × (length items < limit)

-- The set has this limit.
pub record IsCapped (limit : ℕ) (set : Limited) : Type 0 where
  pub same : set.limit ≡ limit
  pub low : limit < 2 ^ 32
  pub few : AreFew limit set.items

-- The shape of a set is its limit.
abbrev pub capped_has : Limited → Shape → Type 0
capped_has set (plain []) = ⊥
capped_has set (plain (limit ∷ [])) = IsCapped limit set
capped_has set (plain (limit ∷ number ∷ numbers)) = ⊥
capped_has set (pair left right) = ⊥
capped_has set no_keys = ⊥
capped_has set (key number value rest) = ⊥
