-- The walk over candidates up to the first one without a name.
use Rattle.std.proofs.Common.{◌≡◌, ℕ, Bool, true, false, List, [], ◌∷◌, Option, Some, None, refl, sym, ap, ◌∙◌, subst, inl, inr, ◌+◌, ◌-◌}
use Rattle.std.specs.Prelude.{◌&&◌, ◌||◌, ◌/◌, is_some}
use Rattle.std.proofs.lemmas.Bool.{and_parts, cases_eq, ne_eqb, true≢false}
use Rattle.age_model.specs.Candidates.{AreCandidates, blocks_from, blocks_of}
use Rattle.age_model.specs.declared.candidates.Candidates.{Candidates}
use Rattle.domain_laws.specs.Maps.{value_at}
use Rattle.lru_concrete.specs.Sets.{is_in}
use Rattle.may_domain.specs.Touches.{all_named}

-- All blocks before the rest are named.
pub record IsWalk (ages : List (ℕ × ℕ)) (all rest : Candidates) : Type 0 where
  pub candidates : AreCandidates rest
  pub so_far : all_named ages (blocks_of all) ≡ all_named ages (blocks_of rest)

named-first : (ages : List (ℕ × ℕ)) (block : ℕ) (blocks : List ℕ) → is_some (value_at block ages) ≡ true →
    all_named ages (block ∷ blocks) ≡ all_named ages blocks
named-first ages block blocks some = ap (λ (b : Bool). b && all_named ages blocks) some

pub walk-more : (ages : List (ℕ × ℕ)) (all rest more : Candidates) → IsWalk ages all rest → AreCandidates more →
    is_some (value_at rest.first ages) ≡ true → blocks_of rest ≡ rest.first ∷ blocks_of more → IsWalk ages all more
walk-more ages all rest more walk are some is = record {
  candidates = are;
  so_far = walk.so_far ∙ ap (all_named ages) is ∙ named-first ages rest.first (blocks_of more) some;
}

pub walk-ends : (ages : List (ℕ × ℕ)) (all rest : Candidates) → IsWalk ages all rest →
    is_some (value_at rest.first ages) ≡ true → blocks_of rest ≡ rest.first ∷ [] → true ≡ all_named ages (blocks_of all)
walk-ends ages all rest walk some is =
    sym (walk.so_far ∙ ap (all_named ages) is ∙ named-first ages rest.first [] some)

unnamed-first : (ages : List (ℕ × ℕ)) (block : ℕ) (blocks : List ℕ) → is_some (value_at block ages) ≡ false →
    all_named ages (block ∷ blocks) ≡ false
unnamed-first ages block blocks none = ap (λ (b : Bool). b && all_named ages blocks) none

pub walk-stops : (ages : List (ℕ × ℕ)) (all rest : Candidates) → IsWalk ages all rest →
    is_some (value_at rest.first ages) ≡ false → false ≡ all_named ages (blocks_of all)
walk-stops ages all rest walk none =
    sym (walk.so_far ∙ unnamed-first ages rest.first
    (blocks_from (rest.first + rest.step) rest.step ((rest.last - rest.first) / rest.step)) none)

-- Each of the blocks has a bound if all are named.
pub named-in : (ages : List (ℕ × ℕ)) (blocks : List ℕ) (block : ℕ) → all_named ages blocks ≡ true →
    is_in blocks block ≡ true → is_some (value_at block ages) ≡ true
named-in ages [] block all there = absurd (true≢false (sym there))
named-in ages (one ∷ blocks) block all there =
    let parts = and_parts (is_some (value_at one ages)) (all_named ages blocks) all in
    elim (cases_eq one block) as (λ _. is_some (value_at block ages) ≡ true) [
      | inl e ↦ subst (λ (k : ℕ). is_some (value_at k ages) ≡ true) e parts.0
      | inr ne ↦ named-in ages blocks block parts.1
          (sym (ap (λ (b : Bool). b || is_in blocks block) (ne_eqb one block ne)) ∙ there)
    ]
