-- An access whose chain has a cache arrives at the first one, each time that it is made.
use Rattle.std.proofs.Common.{◌≡◌, ℕ, zero, suc, ◌≤◌, ◌<◌, Bool, true, false, List, [], ◌∷◌, ◌++◌, length, map, Option, Some, None, refl, sym, ap, ◌∙◌, subst, arith}
use Rattle.std.proofs.lemmas.Bool.Decides.{nat_tests}
use Rattle.age_model.specs.Classes.{chain_length}
use Rattle.age_model.specs.Moves.{Moves, side_at, went, went_through}
use Rattle.age_model.proofs.Sights.{through-levels}
use Rattle.flow_net.specs.declared.net.Net.{Net}
use Rattle.lru_concrete.specs.Chains.{Held, Went, chain, finds_in, goes, levels_of, onward, serves, touch_in, Visited}
use Rattle.lru_concrete.specs.declared.level.Level.{Level}
use Rattle.lru_concrete.specs.declared.level.Side.{Side}
use Rattle.net_model.specs.Claims.{EachMade, arrives}
use Rattle.net_model.specs.Moments.{Makes, Moment, Takes}

-- ---- An access of a side that some cache serves visits one.
onward-visits : (served found : Bool) (cache changed : Held) (more : List Held) (rest : Went) (left : ℕ) →
    (served ≡ false → 1 ≤ left → 1 ≤ rest.visit.caches) → (served ≡ true → 1 ≤ 1) →
    (served ≡ false → 1 ≤ left) → 1 ≤ (onward served found cache changed more rest).visit.caches
onward-visits false found cache changed more rest left goes_on here later = goes_on refl (later refl)
onward-visits true true cache changed more rest left goes_on here later = omega arith
onward-visits true false cache changed more rest left goes_on here later = omega arith

skipped : (served : Bool) (level : Level) (side : Side) (levels : List Level) → serves level.serves side ≡ served → served ≡ false →
    1 ≤ length (chain side (level ∷ levels)) → 1 ≤ length (chain side levels)
skipped served level side levels same off some =
    let same_off : serves level.serves side ≡ false = same ∙ off in grind (arith, nat_tests, same_off, some)

goes-visits : (side : Side) (address : ℕ) (caches : List Held) → 1 ≤ length (chain side (levels_of caches)) →
    1 ≤ (goes side address caches).visit.caches
goes-visits side address [] some = absurd (omega (arith, some))
goes-visits side address (cache ∷ more) some =
    onward-visits (serves cache.level.serves side) (finds_in cache address) cache (touch_in cache address) more
    (goes side address more) (length (chain side (levels_of more)))
    (λ off left. goes-visits side address more left) (λ on. omega arith)
    (λ off. skipped (serves cache.level.serves side) cache.level side (levels_of more) refl off some)

through-visits : (side : Option Side) (address : ℕ) (caches : List Held) → 1 ≤ chain_length (levels_of caches) side →
    1 ≤ (went_through side address caches).visit.caches
through-visits None address caches some = absurd (omega (arith, some))
through-visits (Some side) address caches some = goes-visits side address caches some

-- ---- So it is each time.
module _ (net : Net) (levels : List Level) (access : ℕ) (some : 1 ≤ chain_length levels (side_at net access)) where
  at-split : (front rest : List Moment) (address seen : ℕ) (hit : Bool) (caches : List Held) → levels_of caches ≡ levels →
      Moves net caches (front ++ Makes access address seen hit ∷ rest) → 1 ≤ seen
  at-split [] rest address seen hit caches of_levels moves =
      let here : 1 ≤ chain_length (levels_of caches) (side_at net access) =
      subst (λ (ls : List Level). 1 ≤ chain_length ls (side_at net access)) (sym of_levels) some in
      let visits = through-visits (side_at net access) address caches here in
      let same = ap (λ (visit : Visited). visit.caches) moves.0 in
      omega (arith, visits, same)
  at-split (Takes arc ∷ front) rest address seen hit caches of_levels moves =
      at-split front rest address seen hit caches of_levels moves
  at-split (Makes other at visited found ∷ front) rest address seen hit caches of_levels moves =
      at-split front rest address seen hit (went net other at caches).after
      (through-levels (side_at net other) at caches ∙ of_levels) moves.1

  pub always-arrives : (caches : List Held) (moments : List Moment) → levels_of caches ≡ levels → Moves net caches moments →
      EachMade access (λ seen hit. arrives 1 seen ≡ true) moments
  always-arrives caches moments of_levels moves front rest address seen hit split =
      let low = at-split front rest address seen hit caches of_levels (subst (Moves net caches) split moves) in
      grind (arith, nat_tests, low)
