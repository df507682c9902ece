use Rattle.std.proofs.Common.{ℕ, List, ◌≡◌, ◌+◌, ◌<◌, length}
use Rattle.std.specs.Prelude.{Contains}
use Rattle.step_table.specs.Search.{IsSearch, unseen}
use Rattle.step_table.proofs.search.see_waiting.Given as goal

abbrev pub invariant-loop-next : goal.invariant-loop-next
invariant-loop-next l = record {
  search : (starts : List ℕ) → IsSearch l.table starts l.barred l.initial.seen l.initial.waiting.items →
      IsSearch l.table starts l.barred l.seen l.waiting.items;
  sized : length l.seen ≡ length l.table;
  inside : (x : ℕ) → Contains l.waiting.items x → x < length l.seen;
}

-- Each turn takes a waiting position; each that comes in its place was not seen before.
abbrev pub decreases-loop-next : goal.decreases-loop-next
decreases-loop-next l = unseen l.seen + length l.waiting.items
