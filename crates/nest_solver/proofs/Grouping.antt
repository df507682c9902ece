-- One more number put into the chain of its key.
use Rattle.std.proofs.Common.{◌≡◌, ℕ, ◌+◌, ◌<◌, ◌≤◌, sym, ap, ◌∙◌, inl, inr, arith}
use Rattle.std.proofs.lemmas.Bool.{cases_eq}
use Rattle.nest_solver.specs.Groups.{AreGrouped}
use Rattle.nest_solver.proofs.Puts.{Puts}

pub grouped-none : (key first next : ℕ → ℕ) → ((k : ℕ) → first k ≡ 0) → AreGrouped key 1 first next
grouped-none key first next fresh = record {
  first_low = λ k some. absurd (omega (arith, fresh k, some));
  first_key = λ k some. absurd (omega (arith, fresh k, some));
  first_most = λ i some low. absurd (omega (arith, some, low));
  next_less = λ i some low. absurd (omega (arith, some, low));
  next_key = λ i some low more. absurd (omega (arith, some, low));
  next_most = λ i j some low more less same. absurd (omega (arith, some, low));
}

pub grouped-more : (key : ℕ → ℕ) (n : ℕ) (first next first2 next2 : ℕ → ℕ) → 0 < n →
    AreGrouped key n first next → Puts first first2 (key n) n → Puts next next2 n (first (key n)) →
    AreGrouped key (n + 1) first2 next2
grouped-more key n first next first2 next2 up were heads links = record {
  first_low = first_low;
  first_key = first_key;
  first_most = first_most;
  next_less = next_less;
  next_key = next_key;
  next_most = next_most;
}
  where
    first_low : (k : ℕ) → 0 < first2 k → first2 k < n + 1
    first_low k some = elim (cases_eq k (key n)) as (λ _. first2 k < n + 1) [
      | inl e ↦ omega (arith, ap first2 e, heads.here)
      | inr differ ↦ omega (arith, heads.others k differ, were.first_low k (omega (arith, heads.others k differ, some)))
    ]

    first_key : (k : ℕ) → 0 < first2 k → key (first2 k) ≡ k
    first_key k some = elim (cases_eq k (key n)) as (λ _. key (first2 k) ≡ k) [
      | inl e ↦ ap key (ap first2 e ∙ heads.here) ∙ sym e
      | inr differ ↦ ap key (heads.others k differ)
          ∙ were.first_key k (omega (arith, heads.others k differ, some))
    ]

    first_most : (i : ℕ) → 0 < i → i < n + 1 → i ≤ first2 (key i)
    first_most i some low = elim (cases_eq (key i) (key n)) as (λ _. i ≤ first2 (key i)) [
      | inl e ↦ omega (arith, ap first2 e, heads.here, low)
      | inr differ ↦ elim (cases_eq i n) as (λ _. i ≤ first2 (key i)) [
        | inl same ↦ absurd (differ (ap key same))
        | inr other ↦ omega (arith, heads.others (key i) differ, were.first_most i some (omega (arith, low, other)))
      ]
    ]

    head_less : first (key n) < n
    head_less = elim (cases_eq (first (key n)) 0) as (λ _. first (key n) < n) [
      | inl none ↦ omega (arith, none, up)
      | inr some ↦ were.first_low (key n) (omega (arith, some))
    ]

    next_less : (i : ℕ) → 0 < i → i < n + 1 → next2 i < i
    next_less i some low = elim (cases_eq i n) as (λ _. next2 i < i) [
      | inl e ↦ omega (arith, ap next2 e, links.here, head_less, e)
      | inr differ ↦ omega (arith, links.others i differ, were.next_less i some (omega (arith, low, differ)))
    ]

    next_key : (i : ℕ) → 0 < i → i < n + 1 → 0 < next2 i → key (next2 i) ≡ key i
    next_key i some low more = elim (cases_eq i n) as (λ _. key (next2 i) ≡ key i) [
      | inl e ↦ let same = ap next2 e ∙ links.here in
          ap key same ∙ were.first_key (key n) (omega (arith, same, more)) ∙ ap key (sym e)
      | inr differ ↦ ap key (links.others i differ)
          ∙ were.next_key i some (omega (arith, low, differ)) (omega (arith, links.others i differ, more))
    ]

    next_most : (i j : ℕ) → 0 < i → i < n + 1 → 0 < j → j < i → key j ≡ key i → j ≤ next2 i
    next_most i j some low more less same = elim (cases_eq i n) as (λ _. j ≤ next2 i) [
      | inl e ↦ omega (
        arith,
        ap next2 e ∙ links.here,
        were.first_most j more (omega (arith, less, low)),
        ap first (same ∙ ap key e),
      )
      | inr differ ↦ omega (
        arith,
        links.others i differ,
        were.next_most i j some (omega (arith, low, differ)) more less same,
      )
    ]
