-- Doubtful touches keep the order of states that name the same blocks, and their names.
use Rattle.std.proofs.Common.{◌≡◌, ℕ, ◌≤◌, Bool, true, false, cond, List, [], ◌∷◌, Option, Some, None, refl, sym, ap, ap₂, ◌∙◌, subst, arith}
use Rattle.std.specs.Prelude.{◌==◌, ◌&&◌, is_some, nat_le}
use Rattle.std.proofs.lemmas.Bool.{and_parts}
use Rattle.std.proofs.lemmas.Bool.Decides.{nat_tests}
use Rattle.domain_laws.proofs.Setting.{rises_with}
use Rattle.domain_laws.specs.Maps.{map_leq, value_at, with_value}
use Rattle.lru_concrete.specs.Sets.{is_in}
use Rattle.may_domain.specs.Changes.{all_changed}
use Rattle.may_domain.specs.Laws.{same_named}
use Rattle.may_domain.specs.Order.{at_least, leq}
use Rattle.may_domain.specs.States.{IsLower, IsNamed, Lowers, age_of, names_in, or_shared}
use Rattle.may_domain.specs.Touches.{all_named, doubted_blocks, doubted_entry, doubted_shared, doubtful_lower, made_young, reset_age}
use Rattle.may_domain.proofs.Changing.{names-changed, rises-changed}
use Rattle.may_domain.proofs.Doubted.{doubted-ages}
use Rattle.may_domain.proofs.Touching.{ages-under, named-with, names-with, some-changed, under-ages}

pick : (b : Bool) (n m : ℕ) → n ≤ m → cond b 0 n ≤ cond b 0 m
pick true n m less = omega arith
pick false n m less = less

pick-all : (b : Bool) (n m : ℕ) → n ≤ m → cond b n 0 ≤ cond b m 0
pick-all true n m less = less
pick-all false n m less = omega arith

all-named-same : (xs ys : List (ℕ × ℕ)) → ((at : ℕ) → is_some (value_at at xs) ≡ is_some (value_at at ys)) →
    (blocks : List ℕ) → all_named xs blocks ≡ all_named ys blocks
all-named-same xs ys same [] = refl
all-named-same xs ys same (block ∷ blocks) =
    ap₂ (λ (a b : Bool). a && b) (same block) (all-named-same xs ys same blocks)

module _ (x y : Lowers) (same : (at : ℕ) → is_some (value_at at x.ages) ≡ is_some (value_at at y.ages))
    (shared : y.shared ≤ x.shared) where
  shared-rises : (candidates : List ℕ) → doubted_shared candidates y ≤ doubted_shared candidates x
  shared-rises candidates =
      subst (λ (b : Bool). cond (all_named y.ages candidates) y.shared 0 ≤ cond b x.shared 0)
      (sym (all-named-same x.ages y.ages same candidates))
      (pick-all (all_named y.ages candidates) y.shared x.shared shared)

  reset-rises : (candidates : List ℕ) (block : ℕ) (p q : Option ℕ) → is_some p ≡ is_some q →
      or_shared y.shared q ≤ or_shared x.shared p → reset_age candidates y block q ≤ reset_age candidates x block p
  reset-rises candidates block None None alike less = shared-rises candidates
  reset-rises candidates block None (Some b) alike less = cc
  reset-rises candidates block (Some a) None alike less = cc
  reset-rises candidates block (Some a) (Some b) alike less = pick (is_in candidates block) b a less

  lower-rises : (candidates : List ℕ) → ((block : ℕ) → age_of y block ≤ age_of x block) → (block : ℕ) →
      doubtful_lower candidates y block ≤ doubtful_lower candidates x block
  lower-rises [] less block = less block
  lower-rises (one ∷ []) less block = pick (block == one) (age_of y block) (age_of x block) (less block)
  lower-rises (one ∷ next ∷ blocks) less block =
      reset-rises (one ∷ next ∷ blocks) block (value_at block x.ages) (value_at block y.ages) (same block) (less block)

blocks-rise : (candidates : List ℕ) (ways : ℕ) (x y : Lowers) → IsLower ways y →
    ((at : ℕ) → is_some (value_at at x.ages) ≡ is_some (value_at at y.ages)) → y.shared ≤ x.shared →
    ((block : ℕ) → age_of (doubted_blocks candidates y) block ≤ age_of (doubted_blocks candidates x) block) →
    leq x y ≡ true → leq (doubted_blocks candidates x) (doubted_blocks candidates y) ≡ true
blocks-rise [] ways x y is same shared less h = h
blocks-rise (one ∷ []) ways x y is same shared less h =
    under-ages (made_young one x) (made_young one y) (rises_with 0 one 0 y.ages is.each.rising (omega arith))
    (named-with one 0 0 x.ages y.ages same) shared less
blocks-rise (one ∷ next ∷ blocks) ways x y is same shared less h =
    let candidates : List ℕ = one ∷ next ∷ blocks in
    under-ages (doubted_blocks candidates x) (doubted_blocks candidates y)
    (rises-changed (doubted_entry candidates) 0 y.ages is.each.rising)
    (λ at. some-changed (doubted_entry candidates) at x.ages ∙ same at ∙
    sym (some-changed (doubted_entry candidates) at y.ages))
    (shared-rises x y same shared candidates) less

pub doubted-rises : (candidates : List ℕ) (ways : ℕ) (names : List ℕ) (x y : Lowers) → IsNamed ways names x →
    IsNamed ways names y → leq x y ≡ true → leq (doubted_blocks candidates x) (doubted_blocks candidates y) ≡ true
doubted-rises candidates ways names x y p q h =
    let same : (at : ℕ) → is_some (value_at at x.ages) ≡ is_some (value_at at y.ages) =
    same_named x.ages y.ages (p.names ∙ sym q.names) in
    let parts = and_parts (at_least x.shared y.shared) (map_leq at_least x.ages y.ages) h in
    let shared : y.shared ≤ x.shared = grind (arith, nat_tests, parts.0) in
    blocks-rise candidates ways x y q.lower same shared
    (λ block.
    let left = doubted-ages candidates x block in
    let right = doubted-ages candidates y block in
    let rises = lower-rises x y same shared candidates (ages-under x y same h) block in
    omega (arith, left, right, rises)) h

-- The names stay, where a single candidate has one.
pub doubted-names : (candidates : List ℕ) (ways : ℕ) (state : Lowers) → IsLower ways state →
    ((block : ℕ) → candidates ≡ block ∷ [] → is_in (names_in state.ages) block ≡ true) →
    names_in (doubted_blocks candidates state).ages ≡ names_in state.ages
doubted-names [] ways state is named = refl
doubted-names (one ∷ []) ways state is named = names-with 0 one 0 state.ages is.each.rising (named one refl)
doubted-names (one ∷ next ∷ blocks) ways state is named = names-changed (doubted_entry (one ∷ next ∷ blocks)) state.ages
