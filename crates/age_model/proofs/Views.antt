-- One cache of a chain is touched exactly where the visit comes to its level, and hit exactly where it held the block.
use Rattle.std.proofs.Common.{◌≡◌, ℕ, zero, suc, ◌+◌, ◌<◌, ◌≤◌, Bool, true, false, List, [], ◌∷◌, Option, Some, slice_get, refl, sym, ap, ◌∙◌, subst, arith}
use Rattle.std.specs.Prelude.{◌==◌, ◌&&◌, nat_le}
use Rattle.std.proofs.lemmas.Bool.Decides.{nat_tests}
use Rattle.std.proofs.lemmas.Option.{none-some, same_Some}
use Rattle.lru_concrete.specs.Chains.{Held, Went, before, finds_in, goes, levels_of, one_more, onward, serves, touch_in}
use Rattle.lru_concrete.specs.declared.level.Side.{Side}
use Rattle.net_model.specs.Claims.{arrives, hits}
use Rattle.age_model.specs.Views.{Sees, SeesIts}

-- A visit of no cache has no hit.
none-hit : (served found : Bool) (cache changed : Held) (more : List Held) (rest : Went) →
    (rest.visit.caches ≡ 0 → rest.visit.hit ≡ false) →
    (onward served found cache changed more rest).visit.caches ≡ 0 →
    (onward served found cache changed more rest).visit.hit ≡ false
none-hit false found cache changed more rest h e = h e
none-hit true true cache changed more rest h e = absurd (omega (arith, e))
none-hit true false cache changed more rest h e = absurd (omega (arith, e))

nothing-hit : (side : Side) (address : ℕ) (caches : List Held) → (goes side address caches).visit.caches ≡ 0 →
    (goes side address caches).visit.hit ≡ false
nothing-hit side address [] e = refl
nothing-hit side address (cache ∷ more) e =
    none-hit (serves cache.level.serves side) (finds_in cache address) cache (touch_in cache address) more
    (goes side address more) (nothing-hit side address more) e

no-arrival : (level : ℕ) → 1 < level → nat_le level 1 ≡ true → ⊥
no-arrival level more e = let f : level ≤ 1 = grind (arith, nat_tests) in omega (arith, more, f)

sees-here : (found : Bool) (cache changed : Held) (more : List Held) (rest : Went) →
    (rest.visit.caches ≡ 0 → rest.visit.hit ≡ false) →
    Sees (onward true found cache changed more rest) 0 1 cache changed found
sees-here true cache changed more rest h =
    record { touched = λ e. refl; hit = λ e. refl; stays = λ e. grind (arith, nat_tests) }
sees-here false cache changed more rest h =
    record { touched = λ e. refl; hit = λ e. grind (arith, nat_tests, h); stays = λ e. grind (arith, nat_tests) }

sees-later : (served found : Bool) (first changed_first : Held) (more : List Held) (rest : Went) (n level : ℕ)
    (cache changed : Held) (was : Bool) → slice_get more n ≡ Some cache → Sees rest n (suc level) cache changed was →
    Sees (onward served found first changed_first more rest) (suc n) (suc (one_more served level)) cache changed was
sees-later false found first changed_first more rest n level cache changed was at sees =
    record { touched = sees.touched; hit = sees.hit; stays = sees.stays }
sees-later true true first changed_first more rest n level cache changed was at sees = record {
  touched = λ e. absurd (no-arrival (suc (suc level)) (omega arith) e);
  hit = λ e. absurd (no-arrival (suc (suc level)) (omega arith) e);
  stays = λ e. at;
}
sees-later true false first changed_first more rest n level cache changed was at sees =
    let same : nat_le (suc (suc level)) (suc rest.visit.caches) ≡ nat_le (suc level) rest.visit.caches =
    grind (arith, nat_tests) in
    let equal : (suc (suc level) == suc rest.visit.caches) ≡ (suc level == rest.visit.caches) =
    grind (arith, nat_tests) in
    record {
      touched = λ e. sees.touched (sym same ∙ e);
      hit = λ e. ap (λ (b : Bool). b && rest.visit.hit) equal ∙ sees.hit (sym same ∙ e);
      stays = λ e. sees.stays (sym same ∙ e);
    }

-- A cache that serves the side sees the access where it comes to its level.
pub sees : (side : Side) (address : ℕ) (caches : List Held) (n : ℕ) (cache : Held) → slice_get caches n ≡ Some cache →
    serves cache.level.serves side ≡ true → SeesIts side address caches n cache
sees side address [] n cache at served = absurd (none-some cache at)
sees side address (first ∷ more) zero cache at served =
    subst (λ (c : Held). Sees (goes side address (first ∷ more)) 0 1 c (touch_in c address) (finds_in c address))
    (same_Some first cache at)
    (subst (λ (b : Bool).
    Sees (onward b (finds_in first address) first (touch_in first address) more (goes side address more)) 0 1 first
    (touch_in first address) (finds_in first address))
    (sym (ap (λ (c : Held). serves c.level.serves side) (same_Some first cache at) ∙ served))
    (sees-here (finds_in first address) first (touch_in first address) more (goes side address more)
    (nothing-hit side address more)))
sees side address (first ∷ more) (suc n) cache at served =
    sees-later (serves first.level.serves side) (finds_in first address) first (touch_in first address) more
    (goes side address more) n (before side (levels_of more) n) cache (touch_in cache address) (finds_in cache address)
    at (sees side address more n cache at served)

-- A cache that doesn't serve the side stays.
stays-later : (served found : Bool) (first changed : Held) (more : List Held) (rest : Went) (n : ℕ) (cache : Held) →
    slice_get more n ≡ Some cache → slice_get rest.after n ≡ Some cache →
    slice_get (onward served found first changed more rest).after (suc n) ≡ Some cache
stays-later false found first changed more rest n cache at e = e
stays-later true true first changed more rest n cache at e = at
stays-later true false first changed more rest n cache at e = e

pub unseen : (side : Side) (address : ℕ) (caches : List Held) (n : ℕ) (cache : Held) → slice_get caches n ≡ Some cache →
    serves cache.level.serves side ≡ false → slice_get (goes side address caches).after n ≡ Some cache
unseen side address [] n cache at served = absurd (none-some cache at)
unseen side address (first ∷ more) zero cache at served =
    subst (λ (b : Bool).
    slice_get (onward b (finds_in first address) first (touch_in first address) more (goes side address more)).after 0
    ≡ Some cache)
    (sym (ap (λ (c : Held). serves c.level.serves side) (same_Some first cache at) ∙ served)) at
unseen side address (first ∷ more) (suc n) cache at served =
    stays-later (serves first.level.serves side) (finds_in first address) first (touch_in first address) more
    (goes side address more) n cache at (unseen side address more n cache at served)
