-- The queue ends with all arcs, in an order.
use Rattle.std.proofs.Common.{◌≡◌, ℕ, zero, suc, ◌+◌, ◌<◌, ◌≤◌, ◌==◌, ◌&&◌, ◌||◌, nat_lt, Bool, true, false, List, length, refl, ap, ◌∙◌, inl, inr, arith, true≢false}
use Rattle.std.proofs.lemmas.Bool.Decides.{nat_tests}
use Rattle.std.proofs.lemmas.Bool.{cases_eq, cases_Bool}
use Rattle.ipet_program.specs.Sums.{sum_to}
use Rattle.nest_solver.specs.Counted.{bit}
use Rattle.nest_solver.specs.Orders.{Arcs, AreAcyclic, AreOpen, IsOrder, IsQueue, is_pending}
use Rattle.nest_solver.specs.Shape.{IsUpTo}
use Rattle.nest_solver.proofs.Queues.{queue-short}
use Rattle.nest_solver.proofs.Sums.{sum-none, sum-part}

and_none : (x y : ℕ) (b : Bool) → (x ≡ y → b ≡ false) → bit ((x == y) && b) ≡ 0
and_none x y true h = elim (cases_eq x y) as (λ _. bit ((x == y) && true) ≡ 0) [
  | inl e ↦ absurd (true≢false (h e))
  | inr differ ↦ grind (arith, nat_tests)
]
and_none x y false h = by (x == y)
  where
    by : (b : Bool) → bit (b && false) ≡ 0
    by true = refl
    by false = refl

not_pending : (place done : ℕ) → 0 < place → place ≤ done → ((place == 0) || nat_lt done place) ≡ false
not_pending place done h k = grind (arith, nat_tests)

-- Where the whole queue was taken, each place is open: by falling rank, since all arcs from there are in the queue.
open_step : (a : Arcs) (places : ℕ) (order : List ℕ) (place left : ℕ → ℕ) (first low q : ℕ) →
    (acyclic : AreAcyclic a places) → IsQueue a order place left (length order) →
    AreOpen a place left first low q 0 → a.count < first → places < low → (n p : ℕ) →
    ((t : ℕ) → t ≤ places → sum_to places acyclic.rank < acyclic.rank t + n → left t ≡ 0) → 0 < p → p ≤ places →
    sum_to places acyclic.rank < acyclic.rank p + suc n → left p ≡ 0
open_step a places order place left first low q acyclic queue kept all wide n p again some high deep =
    queue.waiting p some
    ∙ sum-none a.count (λ i. bit ((a.from i == p) && is_pending place (length order) i))
    (λ i u. and_none (a.from i) p (is_pending place (length order) i) (λ same. taken i u same))
  where
    below : (i : ℕ) → IsUpTo a.count i → a.from i ≡ p → a.back i ≡ false → left (a.to i) ≡ 0
    below i u same forward = elim (cases_eq (a.to i) 0) as (λ _. left (a.to i) ≡ 0) [
      | inl e ↦ ap left e ∙ queue.zero
      | inr goes ↦ again (a.to i) (acyclic.ends i u) (omega (
        arith,
        deep,
        ap acyclic.rank same,
        acyclic.rises i u (omega (arith, same, some)) (omega (arith, goes)) forward,
      ))
    ]

    in_queue : (i : ℕ) → IsUpTo a.count i → a.from i ≡ p → 0 < place i
    in_queue i u same = elim (cases_Bool (a.back i)) as (λ _. 0 < place i) [
      | inl back ↦ kept.backs i u back (omega (arith, u, all))
      | inr forward ↦ kept.others i u forward (below i u same forward)
          (omega (arith, acyclic.ends i u, wide)) (λ is. omega (arith, u))
    ]

    taken : (i : ℕ) → IsUpTo a.count i → a.from i ≡ p → is_pending place (length order) i ≡ false
    taken i u same = not_pending (place i) (length order) (in_queue i u same) (queue.most i u)

all_open : (a : Arcs) (places : ℕ) (order : List ℕ) (place left : ℕ → ℕ) (first low q : ℕ) →
    (acyclic : AreAcyclic a places) → IsQueue a order place left (length order) →
    AreOpen a place left first low q 0 → a.count < first → places < low → (n p : ℕ) → p ≤ places →
    sum_to places acyclic.rank < acyclic.rank p + n → left p ≡ 0
all_open a places order place left first low q acyclic queue kept all wide n zero high deep = queue.zero
all_open a places order place left first low q acyclic queue kept all wide zero (suc p) high deep =
    absurd (omega (arith, sum-part places (suc p) acyclic.rank (omega (arith, high)), deep))
all_open a places order place left first low q acyclic queue kept all wide (suc n) (suc p) high deep =
    open_step a places order place left first low q acyclic queue kept all wide n (suc p)
    (λ t. all_open a places order place left first low q acyclic queue kept all wide n t) (omega arith) high deep

pub queue-order : (a : Arcs) (places : ℕ) (order : List ℕ) (place left : ℕ → ℕ) (first low q : ℕ) →
    AreAcyclic a places → IsQueue a order place left (length order) →
    AreOpen a place left first low q 0 → a.count < first → places < low → IsOrder a order place
queue-order a places order place left first low q acyclic queue kept enough wide = record {
  up = queue.up;
  told = queue.told;
  short = queue-short a order place left (length order) queue;
  all = λ i u. (omega (arith, in_queue i u), queue.most i u);
  there = λ i u. queue.there i u (in_queue i u);
  behind = λ i j u v forward goes same. (queue.behind i j u v (in_queue i u) forward goes same).1;
}
  where
    in_queue : (i : ℕ) → IsUpTo a.count i → 0 < place i
    in_queue i u = elim (cases_Bool (a.back i)) as (λ _. 0 < place i) [
      | inl back ↦ kept.backs i u back (omega (arith, u, enough))
      | inr forward ↦ kept.others i u forward
          (all_open a places order place left first low q acyclic queue kept enough wide
          (sum_to places acyclic.rank + 1) (a.to i) (acyclic.ends i u) (omega arith))
          (omega (arith, acyclic.ends i u, wide)) (λ is. omega (arith, u))
    ]
