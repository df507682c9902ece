-- Which arcs are in the queue, as places kept one after the other.
use Rattle.std.proofs.Common.{◌≡◌, ℕ, ◌+◌, ◌-◌, ◌<◌, true, false, sym, ap, ◌∙◌, inl, inr, arith, true≢false}
use Rattle.std.proofs.lemmas.Bool.{cases_eq, cases_lt}
use Rattle.nest_solver.specs.Groups.{AreGrouped}
use Rattle.nest_solver.specs.Orders.{Arcs, AreOpen}
use Rattle.nest_solver.specs.Shape.{IsUpTo}
use Rattle.nest_solver.proofs.Puts.{Puts}

other_kind : (a : Arcs) (i n : ℕ) → a.back i ≡ true → a.back n ≡ false → i ≡ n → ⊥
other_kind a i n e f same = true≢false (sym e ∙ ap a.back same ∙ f)

-- Behind an arc in the chain of a place come those with numbers up to the next one of the chain.
beyond : (a : Arcs) (heads next : ℕ → ℕ) (q n i : ℕ) → AreGrouped a.to (a.count + 1) heads next →
    IsUpTo a.count n → IsUpTo a.count i → a.to n ≡ q → a.to i ≡ q → (i ≡ n → ⊥) → next n < i → n < i
beyond a heads next q n i chains up u goes same differ more = elim (cases_lt n i) as (λ _. n < i) [
  | inl high ↦ high
  | inr low ↦ absurd (omega (
    arith,
    more,
    chains.next_most n i up.0 (omega (arith, up)) u.0 (omega (arith, low, differ)) (same ∙ sym goes),
  ))
]

next_less : (a : Arcs) (heads next : ℕ → ℕ) (n : ℕ) → AreGrouped a.to (a.count + 1) heads next → IsUpTo a.count n →
    next n < n
next_less a heads next n chains up = chains.next_less n up.0 (omega (arith, up))

pub open-skip : (a : Arcs) (place left heads next : ℕ → ℕ) (first low q n : ℕ) →
    AreGrouped a.to (a.count + 1) heads next → AreOpen a place left first low q n → IsUpTo a.count n → a.to n ≡ q →
    a.back n ≡ true → AreOpen a place left first low q (next n)
open-skip a place left heads next first low q n chains kept up goes back = record {
  backs = kept.backs;
  backs_only = kept.backs_only;
  others = λ i u forward none below ahead. kept.others i u forward none below
      (λ same. beyond a heads next q n i chains up u goes same
      (λ is. other_kind a n i back forward (sym is)) (ahead same));
  others_only = λ i u forward some.
      let was = kept.others_only i u forward some in
      (was.0, was.1, λ same. omega (arith, was.2 same, next_less a heads next n chains up));
}

pub open-put : (a : Arcs) (place place2 left heads next : ℕ → ℕ) (first low q n value : ℕ) →
    AreGrouped a.to (a.count + 1) heads next → AreOpen a place left first low q n → IsUpTo a.count n → a.to n ≡ q →
    a.back n ≡ false → left q ≡ 0 → q < low → 0 < value → Puts place place2 n value →
    AreOpen a place2 left first low q (next n)
open-put a place place2 left heads next first low q n value chains kept up goes forward none below some puts =
    record { backs = backs; backs_only = backs_only; others = others; others_only = others_only }
  where
    backs : (i : ℕ) → IsUpTo a.count i → a.back i ≡ true → i < first → 0 < place2 i
    backs i u e f = omega (arith, puts.others i (other_kind a i n e forward), kept.backs i u e f)

    backs_only : (i : ℕ) → IsUpTo a.count i → a.back i ≡ true → 0 < place2 i → i < first
    backs_only i u e f =
        kept.backs_only i u e (omega (arith, puts.others i (other_kind a i n e forward), f))

    others : (i : ℕ) → IsUpTo a.count i → a.back i ≡ false → left (a.to i) ≡ 0 → a.to i < low →
        (a.to i ≡ q → next n < i) → 0 < place2 i
    others i u f e less ahead = elim (cases_eq i n) as (λ _. 0 < place2 i) [
      | inl is ↦ omega (arith, ap place2 is, puts.here, some)
      | inr differ ↦ omega (
        arith,
        puts.others i differ,
        kept.others i u f e less (λ same. beyond a heads next q n i chains up u goes same differ (ahead same)),
      )
    ]

    others_only : (i : ℕ) → IsUpTo a.count i → a.back i ≡ false → 0 < place2 i →
        (left (a.to i) ≡ 0) × (a.to i < low) × (a.to i ≡ q → next n < i)
    others_only i u f more = elim (cases_eq i n)
        as (λ _. (left (a.to i) ≡ 0) × (a.to i < low) × (a.to i ≡ q → next n < i)) [
          | inl is ↦
              let at : a.to i ≡ q = ap a.to is ∙ goes in (
                ap left at ∙ none,
                omega (arith, at, below),
                λ same. omega (arith, is, next_less a heads next n chains up),
              )
          | inr differ ↦
              let was = kept.others_only i u f (omega (arith, puts.others i differ, more)) in
              (was.0, was.1, λ same. omega (arith, was.2 same, next_less a heads next n chains up))
        ]

-- A back arc is put into the queue before any place opens.
pub open-back : (a : Arcs) (place place2 left : ℕ → ℕ) (q n value : ℕ) → AreOpen a place left n 0 q 0 →
    a.back n ≡ true → 0 < value → Puts place place2 n value → AreOpen a place2 left (n + 1) 0 q 0
open-back a place place2 left q n value kept back some puts = record {
  backs = λ i u e less. elim (cases_eq i n) as (λ _. 0 < place2 i) [
    | inl is ↦ omega (arith, ap place2 is, puts.here, some)
    | inr differ ↦ omega (arith, puts.others i differ, kept.backs i u e (omega (arith, less, differ)))
  ];
  backs_only = λ i u e more. elim (cases_eq i n) as (λ _. i < n + 1) [
    | inl is ↦ omega (arith, is)
    | inr differ ↦ omega (arith, kept.backs_only i u e (omega (arith, puts.others i differ, more)))
  ];
  others = λ i u f e less ahead. absurd (omega (arith, less));
  others_only = λ i u f more. kept.others_only i u f
      (omega (arith, puts.others i (λ is. other_kind a n i back f (sym is)), more));
}

pub open-pass : (a : Arcs) (place left : ℕ → ℕ) (q n : ℕ) → AreOpen a place left n 0 q 0 → a.back n ≡ false →
    AreOpen a place left (n + 1) 0 q 0
open-pass a place left q n kept forward = record {
  backs = λ i u e less. kept.backs i u e (omega (arith, less, other_kind a i n e forward));
  backs_only = λ i u e more. omega (arith, kept.backs_only i u e more);
  others = λ i u f e less ahead. absurd (omega (arith, less));
  others_only = kept.others_only;
}

-- Behind the chain of one place the queue has what it has for any other.
pub open-any : (a : Arcs) (place left : ℕ → ℕ) (first low q r : ℕ) → AreOpen a place left first low q 0 →
    AreOpen a place left first low r 0
open-any a place left first low q r kept = record {
  backs = kept.backs;
  backs_only = kept.backs_only;
  others = λ i u f e less ahead. kept.others i u f e less (λ same. omega (arith, u));
  others_only = λ i u f more. let was = kept.others_only i u f more in
      (was.0, was.1, λ same. omega (arith, u));
}

pub open-low : (a : Arcs) (place left : ℕ → ℕ) (first p q : ℕ) → AreOpen a place left first p q 0 →
    (left p ≡ 0 → ⊥) → AreOpen a place left first (p + 1) q 0
open-low a place left first p q kept some = record {
  backs = kept.backs;
  backs_only = kept.backs_only;
  others = λ i u f e less ahead. kept.others i u f e (omega (arith, less, other (a.to i) e)) ahead;
  others_only = λ i u f more. let was = kept.others_only i u f more in (was.0, omega (arith, was.1), was.2);
}
  where
    other : (t : ℕ) → left t ≡ 0 → t ≡ p → ⊥
    other t e is = some (sym (ap left is) ∙ e)

pub open-first : (a : Arcs) (place left heads next : ℕ → ℕ) (first p q : ℕ) →
    AreGrouped a.to (a.count + 1) heads next → AreOpen a place left first p q 0 →
    AreOpen a place left first (p + 1) p (heads p)
open-first a place left heads next first p q chains kept = record {
  backs = kept.backs;
  backs_only = kept.backs_only;
  others = λ i u f e less ahead. elim (cases_eq (a.to i) p) as (λ _. 0 < place i) [
    | inl is ↦ absurd (omega (arith, ahead is, ap heads is, chains.first_most i u.0 (omega (arith, u))))
    | inr differ ↦ kept.others i u f e (omega (arith, less, differ)) (λ same. omega (arith, u))
  ];
  others_only = λ i u f more. let was = kept.others_only i u f more in
      (was.0, omega (arith, was.1), λ same. absurd (omega (arith, was.1, same)));
}

-- One pending arc less leaves a place shut, or opens it.
pub open-shut : (a : Arcs) (place left left2 : ℕ → ℕ) (first low q p : ℕ) → AreOpen a place left first low q 0 →
    0 < left p → Puts left left2 p (left p - 1) → (left2 p ≡ 0 → ⊥) → AreOpen a place left2 first low q 0
open-shut a place left left2 first low q p kept some puts shut = record {
  backs = kept.backs;
  backs_only = kept.backs_only;
  others = λ i u f e less ahead. kept.others i u f
      (sym (puts.others (a.to i) (λ is. shut (sym (ap left2 is) ∙ e))) ∙ e) less ahead;
  others_only = λ i u f more. let was = kept.others_only i u f more in
      (puts.others (a.to i) (λ is. omega (arith, ap left is, was.0, some)) ∙ was.0, was.1, was.2);
}

pub open-opens : (a : Arcs) (place left left2 heads next : ℕ → ℕ) (first low q p : ℕ) →
    AreGrouped a.to (a.count + 1) heads next → AreOpen a place left first low q 0 →
    0 < left p → Puts left left2 p (left p - 1) → AreOpen a place left2 first low p (heads p)
open-opens a place left left2 heads next first low q p chains kept some puts = record {
  backs = kept.backs;
  backs_only = kept.backs_only;
  others = λ i u f e less ahead. elim (cases_eq (a.to i) p) as (λ _. 0 < place i) [
    | inl is ↦ absurd (omega (arith, ahead is, ap heads is, chains.first_most i u.0 (omega (arith, u))))
    | inr differ ↦ kept.others i u f (sym (puts.others (a.to i) differ) ∙ e) less (λ same. omega (arith, u))
  ];
  others_only = λ i u f more. let was = kept.others_only i u f more in
      let apart : a.to i ≡ p → ⊥ = λ is. omega (arith, ap left is, was.0, some) in
      (puts.others (a.to i) apart ∙ was.0, was.1, λ same. absurd (apart same));
}

pub open-none : (a : Arcs) (place left : ℕ → ℕ) (q : ℕ) → ((i : ℕ) → place i ≡ 0) → AreOpen a place left 1 0 q 0
open-none a place left q fresh = record {
  backs = λ i u e less. absurd (omega (arith, u, less));
  backs_only = λ i u e more. absurd (omega (arith, fresh i, more));
  others = λ i u f e less ahead. absurd (omega (arith, less));
  others_only = λ i u f more. absurd (omega (arith, fresh i, more));
}
