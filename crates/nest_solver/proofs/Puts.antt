-- A table with one entry changed.
use Rattle.std.proofs.Common.{◌≡◌, ◌∙◌, ℕ, ◌+◌, ◌<◌, ◌≤◌, List, length, get_or, set, get_or-set_other, get_or-set_same, ap, sym, inl, inr, arith}
use Rattle.std.proofs.lemmas.Bool.{cases_eq, cases_lt}
use Rattle.std.proofs.Math.ListN.{replicate}
use Rattle.std.proofs.lemmas.List.{get_or-replicate, get_or_past, length-replicate}
use Rattle.std.proofs.lemmas.Grind.{get_or_default_zero}
use Rattle.nest_solver.specs.Nets.{entry}

pub record Puts (before after : ℕ → ℕ) (at value : ℕ) : Type 0 where
  pub here : after at ≡ value
  pub others : (i : ℕ) → (i ≡ at → ⊥) → after i ≡ before i

pub puts-set : (table : List ℕ) (at value : ℕ) → at < length table →
    Puts (entry table) (entry (set table at value)) at value
puts-set table at value low = record {
  here = rw get_or-set_same;
  others = λ i differ. rw get_or-set_other;
}

-- What an index reads is the entry.
pub entry-read : (table : List ℕ) (at value : ℕ) → at < length table → value ≡ get_or table at value →
    value ≡ entry table at
entry-read table at value low e = e ∙ get_or_default_zero table at value low

-- A table is written entry by entry: those below n are as wanted, the others as before.
pub done-more : (table : List ℕ) (want : ℕ → ℕ) (n value : ℕ) → n < length table →
    ((k : ℕ) → 1 ≤ k → k < n → entry table k ≡ want k) → value ≡ want n →
    (k : ℕ) → 1 ≤ k → k < n + 1 → entry (set table n value) k ≡ want k
done-more table want n value low done is k some less =
    elim (cases_eq k n) as (λ _. entry (set table n value) k ≡ want k) [
      | inl e ↦ ap (entry (set table n value)) e ∙ (puts-set table n value low).here ∙ is ∙ sym (ap want e)
      | inr differ ↦ (puts-set table n value low).others k differ ∙ done k some (omega (arith, less, differ))
    ]

pub later-more : (table : List ℕ) (before : ℕ → ℕ) (n value : ℕ) → n < length table →
    ((k : ℕ) → n ≤ k → entry table k ≡ before k) → (k : ℕ) → n + 1 ≤ k → entry (set table n value) k ≡ before k
later-more table before n value low later k more =
    (puts-set table n value low).others k (λ same. omega (arith, same, more)) ∙ later k (omega (arith, more))

-- A fresh table has nothing but 0.
pub zeros : (table : List ℕ) (n : ℕ) → table ≡ replicate n 0 → (i : ℕ) → entry table i ≡ 0
zeros table n e i = elim (cases_lt i n) as (λ _. entry table i ≡ 0) [
  | inl low ↦ ap (λ (xs : List ℕ). entry xs i) e ∙ get_or-replicate n i 0 0 low
  | inr high ↦ get_or_past table i 0 (omega (arith, high, ap length e, length-replicate {A = ℕ} n 0))
]
