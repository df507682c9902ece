-- What one cache sees of the accesses of a run.
use Rattle.std.proofs.Common.{◌≡◌, ℕ, suc, Bool, true, false, List, [], ◌∷◌, ◌++◌, Option, Some, None, slice_get, refl, sym, ap, ap₂, ◌∙◌, subst}
use Rattle.flow_net.specs.declared.net.Net.{Net}
use Rattle.lru_concrete.specs.Chains.{Held, Visited, Went, before, finds_in, goes, levels_of, serves, touch_in}
use Rattle.lru_concrete.specs.declared.level.Level.{Level}
use Rattle.lru_concrete.specs.declared.level.Side.{Side}
use Rattle.lru_concrete.proofs.Kept.{levels-goes}
use Rattle.net_model.specs.Moments.{Makes, Moment, Takes}
use Rattle.age_model.specs.Moves.{Moves, caches_after, side_at, went, went_through}
use Rattle.age_model.specs.Views.{Sees, SeesMade}
use Rattle.age_model.proofs.Views.{sees, unseen}

-- ---- After a front of the moments.
pub through-levels : (side : Option Side) (address : ℕ) (caches : List Held) →
    levels_of (went_through side address caches).after ≡ levels_of caches
through-levels None address caches = refl
through-levels (Some side) address caches = levels-goes side address caches

pub after-levels : (net : Net) (caches : List Held) (moments : List Moment) → levels_of (caches_after net caches moments) ≡ levels_of caches
after-levels net caches [] = refl
after-levels net caches (Takes arc ∷ more) = after-levels net caches more
after-levels net caches (Makes access address visited hit ∷ more) =
    after-levels net (went net access address caches).after more ∙ through-levels (side_at net access) address caches

after-makes : (net : Net) (caches : List Held) (front : List Moment) (access address visited : ℕ) (hit : Bool) →
    caches_after net caches (front ++ Makes access address visited hit ∷ [])
    ≡ (went net access address (caches_after net caches front)).after
after-makes net caches [] access address visited hit = refl
after-makes net caches (Takes arc ∷ front) access address visited hit = after-makes net caches front access address visited hit
after-makes net caches (Makes other at seen found ∷ front) access address visited hit =
    after-makes net (went net other at caches).after front access address visited hit

made-visit : (net : Net) (caches : List Held) (front : List Moment) (access address visited : ℕ) (hit : Bool) (rest : List Moment) →
    Moves net caches (front ++ Makes access address visited hit ∷ rest) →
    (went net access address (caches_after net caches front)).visit ≡ record { caches = visited; hit = hit }
made-visit net caches [] access address visited hit rest moves = moves.0
made-visit net caches (Takes arc ∷ front) access address visited hit rest moves =
    made-visit net caches front access address visited hit rest moves
made-visit net caches (Makes other at seen found ∷ front) access address visited hit rest moves =
    made-visit net (went net other at caches).after front access address visited hit rest moves.1

abbrev went_of : Visited → List Held → Went
went_of visit after = record { visit = visit; after = after }

-- Of an access that goes through the caches of a side.
through-side : (net : Net) (caches : List Held) (access address : ℕ) (side : Side) → side_at net access ≡ Some side →
    went net access address caches ≡ goes side address caches
through-side net caches access address side of_side = ap (λ (s : Option Side). went_through s address caches) of_side

pub sees-made : (net : Net) (caches : List Held) (front rest : List Moment) (access address visited : ℕ) (hit : Bool) (side : Side)
    (n : ℕ) (cache : Held) → Moves net caches (front ++ Makes access address visited hit ∷ rest) →
    side_at net access ≡ Some side → slice_get (caches_after net caches front) n ≡ Some cache →
    serves cache.level.serves side ≡ true → SeesMade net caches front access address visited hit side n cache
sees-made net caches front rest access address visited hit side n cache moves of_side at served =
    let now : List Held = caches_after net caches front in
    let same : (goes side address now).visit ≡ record { caches = visited; hit = hit } =
    ap (λ (w : Went). w.visit) (sym (through-side net now access address side of_side))
    ∙ made-visit net caches front access address visited hit rest moves in
    let after : (goes side address now).after ≡ caches_after net caches (front ++ Makes access address visited hit ∷ []) =
    ap (λ (w : Went). w.after) (sym (through-side net now access address side of_side))
    ∙ sym (after-makes net caches front access address visited hit) in
    let whole : goes side address now ≡ record {
      visit = record { caches = visited; hit = hit };
      after = caches_after net caches (front ++ Makes access address visited hit ∷ []);
    } = ap₂ (λ (v : Visited) (l : List Held). went_of v l) same after in
    let level : before side (levels_of now) n ≡ before side (levels_of caches) n =
    ap (λ (ls : List Level). before side ls n) (after-levels net caches front) in
    subst (λ (l : ℕ). Sees (record {
      visit = record { caches = visited; hit = hit };
      after = caches_after net caches (front ++ Makes access address visited hit ∷ []);
    }) n (suc l) cache (touch_in cache address) (finds_in cache address)) level
    (subst (λ (w : Went). Sees w n (suc (before side (levels_of now) n)) cache (touch_in cache address) (finds_in cache address))
    whole (sees side address now n cache at served))

pub stays-unserved : (net : Net) (caches : List Held) (front : List Moment) (access address visited : ℕ) (hit : Bool) (side : Side)
    (n : ℕ) (cache : Held) → side_at net access ≡ Some side → slice_get (caches_after net caches front) n ≡ Some cache →
    serves cache.level.serves side ≡ false →
    slice_get (caches_after net caches (front ++ Makes access address visited hit ∷ [])) n ≡ Some cache
stays-unserved net caches front access address visited hit side n cache of_side at served =
    ap (λ (l : List Held). slice_get l n)
    (after-makes net caches front access address visited hit
    ∙ ap (λ (w : Went). w.after) (through-side net (caches_after net caches front) access address side of_side))
    ∙ unseen side address (caches_after net caches front) n cache at served
