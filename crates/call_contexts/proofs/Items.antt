-- The numbers of the items of a list.
use Rattle.std.proofs.Common.{◌≡◌, ℕ, zero, suc, ◌<◌, ◌≤◌, ◌⊎◌, inl, inr, List, length, AllPairs, Some, arith}
use Rattle.std.proofs.lemmas.Bool.{cases_lt}
use Rattle.std.proofs.lemmas.Option.{none-some}
use Rattle.flow_net.specs.Numbers.{item_at}
use Rattle.flow_net.proofs.Numbers.{item_at-within}
use Rattle.call_contexts.proofs.Places.{pair_at}

-- Nothing has the number 0.
pub item-positive : {T : Type 0} (items : List T) (number : ℕ) (item : T) → item_at number items ≡ Some item → 0 < number
item-positive items zero item there = absurd (none-some item there)
item-positive items (suc n) item there = Prim.omega arith

pub item-within : {T : Type 0} (items : List T) (number : ℕ) (item : T) → item_at number items ≡ Some item → number ≤ length items
item-within items number item there = (item_at-within items number item there).within

-- Items that rise by a key: those of one key have one number.
pub rising-once : {T : Type 0} (key : T → ℕ) (items : List T) → AllPairs (λ (a b : T). key a < key b) items →
    (n m : ℕ) (a b : T) → item_at n items ≡ Some a → item_at m items ≡ Some b → key a ≡ key b → n ≡ m
rising-once key items rising zero m a b one other same = absurd (none-some a one)
rising-once key items rising (suc i) zero a b one other same = absurd (none-some b other)
rising-once {T} key items rising (suc i) (suc j) a b one other same = by_order (cases_lt i j) where
  by_order : ((i < j) ⊎ (j ≤ i)) → suc i ≡ suc j
  by_order (inl less) = absurd (let up = pair_at (λ (x y : T). key x < key y) items rising i j a b less one other in omega (arith, up, same))
  by_order (inr most) = by_other (cases_lt j i) where
    by_other : ((j < i) ⊎ (i ≤ j)) → suc i ≡ suc j
    by_other (inl less) = absurd (let up = pair_at (λ (x y : T). key x < key y) items rising j i b a less other one in omega (arith, up, same))
    by_other (inr least) = omega (arith, most, least)
