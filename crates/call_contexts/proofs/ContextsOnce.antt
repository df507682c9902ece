-- A program has one list of contexts.
use Rattle.std.proofs.Common.{◌≡◌, ℕ, zero, suc, ◌<◌, ◌≤◌, ◌⊎◌, inl, inr, List, get_or, slice_get, Some, refl, sym, ap, subst, ◌∙◌, arith}
use Rattle.std.proofs.lemmas.Bool.{cases_lt}
use Rattle.std.proofs.lemmas.Option.{same_Some, slice_get-get_or, slice_get_within}
use Rattle.elf_mips.specs.declared.image.Image.{Image}
use Rattle.flow_net.specs.declared.net.Context.{Context}
use Rattle.net_model.specs.Contexts.{AreContexts, IsContextBefore, IsMade, Reaches}
use Rattle.call_contexts.proofs.ContextOrder.{context-strict, numbers-ordered}
use Rattle.call_contexts.proofs.Keyed.{same-option, same-positions}
use Rattle.call_contexts.proofs.NetItems.{context-once}

-- Two lists have the same contexts below a number.
abbrev AgreeBelow : (contexts others : List Context) → ℕ → Type 0
AgreeBelow contexts others n = (k : ℕ) → k < n → slice_get contexts k ≡ slice_get others k

agree-turned : (contexts others : List Context) (n : ℕ) → AgreeBelow contexts others n → AgreeBelow others contexts n
agree-turned contexts others n agree = λ k less. sym (agree k less)

reaches-there : (image : Image) (contexts others : List Context) (n number address : ℕ) → AgreeBelow contexts others n → number < n →
    Reaches image contexts number address → Reaches image others number address
reaches-there image contexts others n number address agree less reaches = record {
  context = reaches.context;
  there = sym (agree number less) ∙ reaches.there;
  reached = reaches.reached;
}

abbrev IsFoundFrom : List Context → ℕ → Context → Type 0
IsFoundFrom contexts n c = (m : ℕ) × (n ≤ m) × (slice_get contexts m ≡ Some c)

-- The next context of one list stands in the other, and no earlier.
context-found : (image : Image) (entry : ℕ) (contexts others : List Context) → AreContexts image entry contexts →
    AreContexts image entry others → (n : ℕ) → AgreeBelow contexts others n → (c : Context) → 0 < n → slice_get contexts n ≡ Some c →
    IsFoundFrom others n c
context-found image entry contexts others are also n agree c positive there = (m, by_order (cases_lt m n), found) where
  made : IsMade image contexts n c
  made = are.made n c there positive

  other : (number : ℕ) × (0 < number) × (slice_get others number ≡ Some c)
  other = also.whole c.parent c.site c.target
      (reaches-there image contexts others n c.parent c.site agree made.earlier made.there) made.calls

  m : ℕ
  m = other.0

  found : slice_get others m ≡ Some c
  found = other.2

  by_order : ((m < n) ⊎ (n ≤ m)) → n ≤ m
  by_order (inl less) = absurd
      (let same = context-once image entry contexts are m n c c (agree m less ∙ found) there other.1 positive refl in omega (arith, less, same))
  by_order (inr most) = most

-- So it stands there at the same number.
context-next : (image : Image) (entry : ℕ) (contexts others : List Context) → AreContexts image entry contexts →
    AreContexts image entry others → (n : ℕ) → AgreeBelow contexts others n → (c : Context) → 0 < n → slice_get contexts n ≡ Some c →
    slice_get others n ≡ Some c
context-next image entry contexts others are also n agree c positive there = by_order (cases_lt n m) where
  ahead : IsFoundFrom others n c
  ahead = context-found image entry contexts others are also n agree c positive there

  m : ℕ
  m = ahead.0

  d : Context
  d = get_or others n c

  d_there : n < m → slice_get others n ≡ Some d
  d_there less = slice_get-get_or others n c (let inside = slice_get_within others m c ahead.2 in omega (arith, less, inside))

  d_before : n < m → IsContextBefore d c
  d_before less = numbers-ordered others also.order n m d c positive less (d_there less) ahead.2

  apart : n < m → ⊥
  apart less = by_other (cases_lt n back.0) where
    back : IsFoundFrom contexts n d
    back = context-found image entry others contexts also are n (agree-turned contexts others n agree) d positive (d_there less)

    by_other : ((n < back.0) ⊎ (back.0 ≤ n)) → ⊥
    by_other (inl further) =
        context-strict c d (numbers-ordered contexts are.order n back.0 c d positive further there back.2) (d_before less)
    by_other (inr most) =
        let same : back.0 ≡ n = let least = back.1 in omega (arith, most, least) in
        let equal : Some c ≡ Some d = sym there ∙ ap (slice_get contexts) (sym same) ∙ back.2 in
        let number = context-once image entry others also n m d c (d_there less) ahead.2 positive (omega (arith, positive, less))
        (sym (same_Some c d equal)) in
        omega (arith, less, number)

  by_order : ((n < m) ⊎ (m ≤ n)) → slice_get others n ≡ Some c
  by_order (inl less) = absurd (apart less)
  by_order (inr most) =
      let same : m ≡ n = let least = ahead.1 in omega (arith, most, least) in
      ap (slice_get others) (sym same) ∙ ahead.2

contexts-step : (image : Image) (entry : ℕ) (contexts others : List Context) → AreContexts image entry contexts →
    AreContexts image entry others → (n : ℕ) → AgreeBelow contexts others n → slice_get contexts n ≡ slice_get others n
contexts-step image entry contexts others are also zero agree = are.first ∙ sym also.first
contexts-step image entry contexts others are also (suc n) agree =
    same-option (slice_get contexts (suc n)) (slice_get others (suc n))
    (λ c there. context-next image entry contexts others are also (suc n) agree c (omega arith) there)
    (λ c there. context-next image entry others contexts also are (suc n) (agree-turned contexts others (suc n) agree) c (omega arith) there)

contexts-below : (image : Image) (entry : ℕ) (contexts others : List Context) → AreContexts image entry contexts →
    AreContexts image entry others → (n : ℕ) → AgreeBelow contexts others n
contexts-below image entry contexts others are also zero = λ k less. absurd (omega (arith, less))
contexts-below image entry contexts others are also (suc n) = λ k less.
    elim (cases_lt k n) [
      | inl below ↦ contexts-below image entry contexts others are also n k below
      | inr most ↦
          let same : n ≡ k = omega (arith, most, less) in
          subst (λ (i : ℕ). slice_get contexts i ≡ slice_get others i) same
          (contexts-step image entry contexts others are also n (contexts-below image entry contexts others are also n))
    ]

pub contexts-once : (image : Image) (entry : ℕ) (contexts others : List Context) → AreContexts image entry contexts →
    AreContexts image entry others → contexts ≡ others
contexts-once image entry contexts others are also =
    same-positions contexts others
    (λ i. contexts-step image entry contexts others are also i (contexts-below image entry contexts others are also i))
