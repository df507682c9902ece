-- Arcs in an order in which each one stands behind all arcs from where it goes to, and how such an order comes
-- about: arcs are put into a queue as soon as all arcs from where they go to were taken from it.
use Rattle.std.specs.Prelude.{◌≡◌, ℕ, ◌+◌, ◌-◌, ◌<◌, ◌≤◌, ◌==◌, ◌&&◌, ◌||◌, nat_lt, Bool, true, false, List, length}
use Rattle.flow_net.specs.Numbers.{item_at}
use Rattle.flow_net.specs.Visits.{target_of}
use Rattle.flow_net.specs.declared.net.Net.{Net}
use Rattle.ipet_program.specs.Sums.{sum_to}
use Rattle.nest_solver.specs.Counted.{bit}
use Rattle.nest_solver.specs.Groups.{AreGrouped}
use Rattle.nest_solver.specs.Nets.{entry, source_of}
use Rattle.nest_solver.specs.Shape.{IsUpTo}
use Rattle.nest_solver.specs.Tables.{test_at}
use Rattle.nest_solver.specs.declared.arrivals.Arrivals.{Arrivals}

-- Arcs with their ends, and which of them go back.
pub record Arcs : Type 0 where
  pub count : ℕ
  pub from : ℕ → ℕ
  pub to : ℕ → ℕ
  pub back : ℕ → Bool

abbrev pub arcs_of : Net → (backs : List Bool) → Arcs
arcs_of net backs =
    record {
      count = length net.arcs;
      from = λ i. source_of (item_at i net.arcs);
      to = λ i. target_of (item_at i net.arcs);
      back = test_at backs;
    }

-- The order has each arc once, at the position that `place` tells, counted from 1. An arc that goes to a place
-- and isn't a back arc stands behind all arcs from there.
pub record IsOrder (a : Arcs) (order : List ℕ) (place : ℕ → ℕ) : Type 0 where
  pub up : (k : ℕ) → k < length order → IsUpTo a.count (entry order k)
  pub told : (k : ℕ) → k < length order → place (entry order k) ≡ k + 1
  pub short : length order ≤ a.count
  pub all : (i : ℕ) → IsUpTo a.count i → IsUpTo (length order) (place i)
  pub there : (i : ℕ) → IsUpTo a.count i → entry order (place i - 1) ≡ i
  pub behind : (i j : ℕ) → IsUpTo a.count i → IsUpTo a.count j → a.back i ≡ false → 0 < a.to i →
      a.from j ≡ a.to i → place j < place i

-- An arc is pending while it wasn't taken from the queue, from which so many were taken.
abbrev pub is_pending : (place : ℕ → ℕ) → (done : ℕ) → ℕ → Bool
is_pending place done i = (place i == 0) || nat_lt done (place i)

-- How many arcs from a place are pending.
abbrev pub waits : Arcs → (place : ℕ → ℕ) → (done p : ℕ) → ℕ
waits a place done p = sum_to a.count (λ i. bit ((a.from i == p) && is_pending place done i))

-- The queue has arcs once each, at the positions that `place` tells, 0 for none; `left` tells of each place how
-- many arcs from it are pending, 0 of place 0.
pub record IsQueue (a : Arcs) (order : List ℕ) (place left : ℕ → ℕ) (done : ℕ) : Type 0 where
  pub up : (k : ℕ) → k < length order → IsUpTo a.count (entry order k)
  pub told : (k : ℕ) → k < length order → place (entry order k) ≡ k + 1
  pub most : (i : ℕ) → IsUpTo a.count i → place i ≤ length order
  pub there : (i : ℕ) → IsUpTo a.count i → 0 < place i → entry order (place i - 1) ≡ i
  pub behind : (i j : ℕ) → IsUpTo a.count i → IsUpTo a.count j → 0 < place i → a.back i ≡ false → 0 < a.to i →
      a.from j ≡ a.to i → (0 < place j) × (place j < place i)
  pub count : sum_to a.count (λ i. bit (nat_lt 0 (place i))) ≡ length order
  pub taken : done ≤ length order
  pub waiting : (p : ℕ) → 0 < p → left p ≡ waits a place done p
  pub zero : left 0 ≡ 0

-- Which arcs are in the queue: of the back arcs those below `first`, of the others those to places below `low`
-- from which nothing is pending, but of those to `q` the ones above `at` alone.
pub record AreOpen (a : Arcs) (place left : ℕ → ℕ) (first low q at : ℕ) : Type 0 where
  pub backs : (i : ℕ) → IsUpTo a.count i → a.back i ≡ true → i < first → 0 < place i
  pub backs_only : (i : ℕ) → IsUpTo a.count i → a.back i ≡ true → 0 < place i → i < first
  pub others : (i : ℕ) → IsUpTo a.count i → a.back i ≡ false → left (a.to i) ≡ 0 → a.to i < low →
      (a.to i ≡ q → at < i) → 0 < place i
  pub others_only : (i : ℕ) → IsUpTo a.count i → a.back i ≡ false → 0 < place i →
      (left (a.to i) ≡ 0) × (a.to i < low) × (a.to i ≡ q → at < i)

-- The queue with these arcs open.
pub record IsOpening (a : Arcs) (order : List ℕ) (place left : ℕ → ℕ) (done first low q at : ℕ) : Type 0 where
  pub queue : IsQueue a order place left done
  pub arcs : AreOpen a place left first low q at

-- The arcs of the net by where they go to, as chains.
pub record AreArrivals (net : Net) (arrivals : Arrivals) : Type 0 where
  pub heads : length arrivals.heads.items ≡ length net.places + 1
  pub next : length arrivals.next.items ≡ length net.arcs + 1
  pub chains : AreGrouped (λ (i : ℕ). target_of (item_at i net.arcs)) (length net.arcs + 1) (entry arrivals.heads.items)
      (entry arrivals.next.items)

-- How many of the first n arcs come from each place; those from 0 aren't counted.
pub record AreLeft (net : Net) (left : ℕ → ℕ) (n : ℕ) : Type 0 where
  pub counts : (p : ℕ) → 0 < p → left p ≡ sum_to n (λ i. bit (source_of (item_at i net.arcs) == p))
  pub zero : left 0 ≡ 0

-- The arcs that aren't back arcs make no cycle.
pub record AreAcyclic (a : Arcs) (places : ℕ) : Type 0 where
  pub starts : (i : ℕ) → IsUpTo a.count i → a.from i ≤ places
  pub ends : (i : ℕ) → IsUpTo a.count i → a.to i ≤ places
  pub rank : ℕ → ℕ
  pub rises : (i : ℕ) → IsUpTo a.count i → 0 < a.from i → 0 < a.to i → a.back i ≡ false →
      rank (a.from i) < rank (a.to i)
