-- The least bound of the records at each address.
use Rattle.std.proofs.Common.{◌≡◌, ℕ, ◌<◌, List, [], ◌∷◌, ◌++◌, Option, Some, None, refl, sym, subst, ap, ◌∙◌, arith, inl, inr, ◌⊎◌, false}
use Rattle.std.specs.Prelude.{Contains}
use Rattle.std.specs.BTreeMap.{is_at}
use Rattle.std.specs.Cmp.{nat_cmp_is}
use Rattle.std.specs.Ordering.{nat_cmp, is_eq}
use Rattle.std.specs.declared.cmp.Ordering.TheVariants.{Less, Greater}
use Rattle.std.proofs.lemmas.Bool.{cases_eq, cases_order}
use Rattle.std.proofs.lemmas.List.Elements.{Contains-append_left, Contains-push, Contains-push_cases}
use Rattle.elf_mips.specs.declared.mark.Mark.{Mark}
use Rattle.loop_nest.specs.Bounds.{AreRecorded, IsLeastOf, IsRecorded, lesser_of}
use Rattle.loop_nest.proofs.Least.{least_either, least_equal}

-- A record of kind 1 gives its number at its address.
abbrev Gives : Mark → ℕ → ℕ → Type 0
Gives mark address x = (mark.kind ≡ 1) × (mark.address ≡ address) × (mark.x ≡ x)

more_recorded : (marks : List Mark) (mark : Mark) (address x : ℕ) → IsRecorded marks address x ⊎ Gives mark address x →
    IsRecorded (marks ++ mark ∷ []) address x
more_recorded marks mark address x (inl one) = record {
  mark = one.mark;
  listed = Contains-append_left marks (mark ∷ []) one.mark one.listed;
  kind = one.kind;
  there = one.there;
  same = one.same;
}
more_recorded marks mark address x (inr gives) = record {
  mark = mark;
  listed = Contains-push marks mark;
  kind = gives.0;
  there = gives.1;
  same = gives.2;
}

recorded_cases : (marks : List Mark) (mark : Mark) (address x : ℕ) → IsRecorded (marks ++ mark ∷ []) address x →
    IsRecorded marks address x ⊎ Gives mark address x
recorded_cases marks mark address x one =
    elim (Contains-push_cases marks mark one.mark one.listed) as (λ _. IsRecorded marks address x ⊎ Gives mark address x) [
      | inl c ↦ inl (record { mark = one.mark; listed = c; kind = one.kind; there = one.there; same = one.same })
      | inr e ↦ inr (subst (λ (m : Mark). Gives m address x) (sym e) (one.kind, one.there, one.same))
    ]

-- A record that gives nothing at an address.
recorded_skip : (marks : List Mark) (mark : Mark) (address : ℕ) (found : Option ℕ) → ((x : ℕ) → Gives mark address x → ⊥) →
    IsLeastOf (IsRecorded marks address) found → IsLeastOf (IsRecorded (marks ++ mark ∷ []) address) found
recorded_skip marks mark address found free =
    least_equal (IsRecorded marks address) (IsRecorded (marks ++ mark ∷ []) address) found
    (λ x one. more_recorded marks mark address x (inl one))
    (λ x one. old x (recorded_cases marks mark address x one))
  where
    old : (x : ℕ) → IsRecorded marks address x ⊎ Gives mark address x → IsRecorded marks address x
    old x (inl one) = one
    old x (inr gives) = absurd (free x gives)

-- A record of another kind gives nothing.
pub recorded_other : (marks : List Mark) (mark : Mark) (recorded : ℕ → Option ℕ) → (mark.kind ≡ 1 → ⊥) →
    AreRecorded marks recorded → AreRecorded (marks ++ mark ∷ []) recorded
recorded_other marks mark recorded other are address =
    recorded_skip marks mark address (recorded address) (λ x gives. other gives.0) (are address)

-- Two addresses are told apart by the map's order.
key_cases : (k q : ℕ) → (k ≡ q → ⊥) → (k ≡ q) ⊎ ((k < q) ⊎ (q < k)) → is_at (nat_cmp k) q ≡ false
key_cases k q differ (inl e) = absurd (differ e)
key_cases k q differ (inr (inl h)) = ap is_eq (sym (nat_cmp_is k q Less h))
key_cases k q differ (inr (inr h)) = ap is_eq (sym (nat_cmp_is k q Greater h))

-- A record of kind 1 lowers what is recorded at its address.
pub recorded_more : (marks : List Mark) (mark : Mark) (key least : ℕ) (before later : ℕ → Option ℕ) → mark.kind ≡ 1 → key ≡ mark.address →
    Some least ≡ lesser_of (before key) (Some mark.x) → later key ≡ Some least →
    ((q : ℕ) → is_at (nat_cmp key) q ≡ false → later q ≡ before q) →
    AreRecorded marks before → AreRecorded (marks ++ mark ∷ []) later
recorded_more marks mark key least before later kind here lesser there kept are address = by_case (cases_eq key address)
  where
    Given : ℕ → Type 0
    Given x = Gives mark address x

    new : key ≡ address → IsLeastOf Given (Some mark.x)
    new e = ((kind, sym here ∙ e, refl), λ x gives. omega (arith, gives.2))

    lowered : key ≡ address → lesser_of (before address) (Some mark.x) ≡ later address
    lowered e = subst (λ (a : ℕ). lesser_of (before a) (Some mark.x) ≡ later a) e (sym (there ∙ lesser))

    by_case : (key ≡ address) ⊎ (key ≡ address → ⊥) → IsLeastOf (IsRecorded (marks ++ mark ∷ []) address) (later address)
    by_case (inl e) =
        subst (IsLeastOf (IsRecorded (marks ++ mark ∷ []) address)) (lowered e)
        (least_equal (λ x. IsRecorded marks address x ⊎ Given x) (IsRecorded (marks ++ mark ∷ []) address)
        (lesser_of (before address) (Some mark.x))
        (more_recorded marks mark address) (recorded_cases marks mark address)
        (least_either (IsRecorded marks address) Given (before address) (Some mark.x) (are address) (new e)))
    by_case (inr differ) =
        subst (IsLeastOf (IsRecorded (marks ++ mark ∷ []) address))
        (sym (kept address (key_cases key address differ (cases_order key address))))
        (recorded_skip marks mark address (before address) (λ x gives. differ (here ∙ gives.1)) (are address))

-- No record gives nothing.
pub recorded_nothing : (recorded : ℕ → Option ℕ) → ((address : ℕ) → recorded address ≡ None) → AreRecorded [] recorded
recorded_nothing recorded none address =
    subst (IsLeastOf (IsRecorded [] address)) (sym (none address)) (λ x one. no_mark one.mark one.listed)
  where
    no_mark : (mark : Mark) → Contains [] mark → ⊥
    no_mark mark (k, inside, same) = omega arith
