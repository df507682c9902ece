-- What a touch of any of several candidates does to the bound of each block.
use Rattle.std.proofs.Common.{◌≡◌, ℕ, ◌<◌, ◌≤◌, ◌^◌, Bool, true, false, cond, List, [], ◌∷◌, length, Option, Some, None, refl, sym, ap, ◌∙◌, subst, inl, inr, arith}
use Rattle.std.specs.Prelude.{◌==◌, ◌||◌, is_some}
use Rattle.std.proofs.lemmas.Bool.{cases_Bool, cases_eq, eq-eqb, ne_eqb, false≢true, true≢false}
use Rattle.std.proofs.lemmas.Bool.Decides.{nat_tests}
use Rattle.age_model.specs.Ages.{AreLowerAges}
use Rattle.age_model.proofs.LowerAges.{reset-covers}
use Rattle.domain_laws.specs.Maps.{IsMap, value_at, with_value}
use Rattle.domain_laws.specs.Options.{option_ok}
use Rattle.domain_laws.proofs.Setting.{value_with_other, value_with_same}
use Rattle.lru_concrete.specs.Sets.{is_in, touched}
use Rattle.may_domain.specs.Changes.{all_changed}
use Rattle.may_domain.specs.States.{IsLow, IsLower, IsNamed, Lowers, age_of, names_in, or_shared}
use Rattle.may_domain.specs.Touches.{all_named, doubted_blocks, doubted_entry, doubted_shared, doubtful_lower, reset_age}
use Rattle.may_domain.proofs.Changing.{bound_changed, map-from, names-changed, rises-changed, value-changed}
use Rattle.may_domain.proofs.Doubting.{named-in}
use Rattle.may_domain.proofs.Touching.{bound-ok, covers-by, names-with, put-is}

or-doubted : (candidates : List ℕ) (state : Lowers) (other : ℕ) (bound : Option ℕ) →
    or_shared (doubted_shared candidates state) (bound_changed (doubted_entry candidates) other bound) ≡
    reset_age candidates state other bound
or-doubted candidates state other None = refl
or-doubted candidates state other (Some age) = refl

-- The ages after a doubtful touch are those of the rule.
pub doubted-ages : (candidates : List ℕ) (state : Lowers) (other : ℕ) →
    age_of (doubted_blocks candidates state) other ≡ doubtful_lower candidates state other
doubted-ages [] state other = refl
doubted-ages (block ∷ []) state other = elim (cases_eq other block)
    as (λ _. age_of (doubted_blocks (block ∷ []) state) other ≡ doubtful_lower (block ∷ []) state other) [
      | inl e ↦ ap (or_shared state.shared)
          (subst (λ (k : ℕ). value_at k (with_value block 0 state.ages) ≡ Some 0) (sym e) (value_with_same block 0 state.ages)) ∙
          sym (ap (λ (b : Bool). cond b 0 (age_of state other)) (eq-eqb other block e))
      | inr ne ↦ ap (or_shared state.shared) (value_with_other block other 0 state.ages ne) ∙
          sym (ap (λ (b : Bool). cond b 0 (age_of state other)) (ne_eqb other block ne))
    ]
doubted-ages (block ∷ next ∷ blocks) state other =
    ap (or_shared (doubted_shared (block ∷ next ∷ blocks) state))
    (value-changed (doubted_entry (block ∷ next ∷ blocks)) other state.ages) ∙
    or-doubted (block ∷ next ∷ blocks) state other (value_at other state.ages)

-- No bound grows.
cond-least : (b : Bool) (n : ℕ) → cond b 0 n ≤ n
cond-least true n = omega arith
cond-least false n = omega arith

cond-most : (b : Bool) (n : ℕ) → cond b n 0 ≤ n
cond-most true n = omega arith
cond-most false n = omega arith

reset-least : (candidates : List ℕ) (state : Lowers) (other : ℕ) (bound : Option ℕ) →
    reset_age candidates state other bound ≤ or_shared state.shared bound
reset-least candidates state other None = cond-most (all_named state.ages candidates) state.shared
reset-least candidates state other (Some age) = cond-least (is_in candidates other) age

pub doubted-least : (candidates : List ℕ) (state : Lowers) (other : ℕ) →
    doubtful_lower candidates state other ≤ age_of state other
doubted-least [] state other = omega arith
doubted-least (block ∷ []) state other = cond-least (other == block) (age_of state other)
doubted-least (block ∷ next ∷ blocks) state other =
    reset-least (block ∷ next ∷ blocks) state other (value_at other state.ages)

-- Each candidate gets the age 0.
reset-zero : (candidates : List ℕ) (state : Lowers) (block : ℕ) (bound : Option ℕ) → value_at block state.ages ≡ bound →
    is_in candidates block ≡ true → reset_age candidates state block bound ≡ 0
reset-zero candidates state block (Some age) e there = ap (λ (b : Bool). cond b 0 age) there
reset-zero candidates state block None e there = elim (cases_Bool (all_named state.ages candidates))
    as (λ _. doubted_shared candidates state ≡ 0) [
      | inl all ↦ absurd (true≢false (sym (named-in state.ages candidates block all there) ∙ ap is_some e))
      | inr some ↦ ap (λ (b : Bool). cond b state.shared 0) some
    ]

only-one : (one block : ℕ) → is_in (one ∷ []) block ≡ true → (block == one) ≡ true
only-one one block there = elim (cases_eq one block) as (λ _. (block == one) ≡ true) [
  | inl e ↦ eq-eqb block one (sym e)
  | inr ne ↦ absurd (false≢true (sym (ap (λ (b : Bool). b || false) (ne_eqb one block ne)) ∙ there))
]

pub doubted-zero : (candidates : List ℕ) (state : Lowers) (block : ℕ) → is_in candidates block ≡ true →
    doubtful_lower candidates state block ≡ 0
doubted-zero [] state block there = absurd (false≢true there)
doubted-zero (one ∷ []) state block there =
    ap (λ (b : Bool). cond b 0 (age_of state block)) (only-one one block there)
doubted-zero (one ∷ next ∷ blocks) state block there =
    reset-zero (one ∷ next ∷ blocks) state block (value_at block state.ages) refl there

pub doubted-stays : (candidates : List ℕ) (state : Lowers) (ways : ℕ) (blocks : List ℕ) →
    AreLowerAges ways (age_of state) blocks → AreLowerAges ways (age_of (doubted_blocks candidates state)) blocks
doubted-stays candidates state ways blocks covers block =
    let e = doubted-ages candidates state block in
    let less = doubted-least candidates state block in
    let low = covers block in
    omega (arith, e, less, low)

pub doubted-covers : (candidates : List ℕ) (state : Lowers) (ways : ℕ) (blocks : List ℕ) (block : ℕ) → 0 < ways →
    length blocks ≤ ways → is_in candidates block ≡ true → AreLowerAges ways (age_of state) blocks →
    AreLowerAges ways (age_of (doubted_blocks candidates state)) (touched ways blocks block)
doubted-covers candidates state ways blocks block some fits there covers =
    reset-covers ways (age_of state) (age_of (doubted_blocks candidates state)) blocks block some fits covers
    (λ other.
    let e = doubted-ages candidates state other in
    let less = doubted-least candidates state other in
    omega (arith, e, less))
    (doubted-ages candidates state block ∙ doubted-zero candidates state block there)

-- The state stays one of its set.
entry-ok : (ways : ℕ) (candidates : List ℕ) (other : ℕ) (bound : Option ℕ) → option_ok (IsLow ways other) bound →
    option_ok (IsLow ways other) (bound_changed (doubted_entry candidates) other bound)
entry-ok ways candidates other None ok = tt
entry-ok ways candidates other (Some age) ok =
    let less = cond-least (is_in candidates other) age in
    record { low = ok.low; most = omega (arith, less, ok.most) }

pub several-is : (candidates : List ℕ) (state : Lowers) (ways : ℕ) → IsLower ways state → IsLower ways (record {
  ways = state.ways;
  shared = doubted_shared candidates state;
  ages = all_changed (doubted_entry candidates) state.ages;
})
several-is candidates state ways is =
    let less = cond-most (all_named state.ages candidates) state.shared in
    record {
      same = is.same;
      some = is.some;
      low = is.low;
      shared = omega (arith, less, is.shared);
      each = map-from (all_changed (doubted_entry candidates) state.ages)
          (rises-changed (doubted_entry candidates) 0 state.ages is.each.rising)
          (λ other. subst (option_ok (IsLow ways other)) (sym (value-changed (doubted_entry candidates) other state.ages))
          (entry-ok ways candidates other (value_at other state.ages) (bound-ok ways state is other)));
    }
