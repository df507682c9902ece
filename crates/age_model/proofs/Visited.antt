-- The moments of a run with the visits that given caches make: they are the same walk.
use Rattle.std.proofs.Common.{◌≡◌, ℕ, ◌+◌, ◌<◌, Bool, List, [], ◌∷◌, ◌++◌, Option, Some, refl, ap, sym, subst, ◌∙◌}
use Rattle.std.specs.List.{AllZip}
use Rattle.flow_net.specs.Numbers.{item_at}
use Rattle.flow_net.specs.declared.net.Net.{Net}
use Rattle.flow_net.specs.declared.net.NetArc.{NetArc}
use Rattle.lru_concrete.specs.Chains.{Held}
use Rattle.mips_decode.specs.Accesses.{UnitAccess}
use Rattle.mips_decode.specs.Units.{RunUnit}
use Rattle.net_model.specs.Moments.{Makes, Moment, Takes, arcs_of}
use Rattle.net_model.specs.Runs.{AreMoments, AreRunMoments, IsMadeBy, IsUnitTold, numbered_accesses}
use Rattle.net_model.specs.Walks.{IsWalk, WalksOn, access_numbers}
use Rattle.age_model.specs.Moves.{Moves, caches_after, went}

-- The same accesses at the same addresses, with the visits of these caches.
abbrev pub visited : Net → List Held → List Moment → List Moment
visited net caches [] = []
visited net caches (Takes arc ∷ more) = Takes arc ∷ visited net caches more
visited net caches (Makes access address seen hit ∷ more) =
    Makes access address (went net access address caches).visit.caches (went net access address caches).visit.hit
    ∷ visited net (went net access address caches).after more

pub visited-moves : (net : Net) (caches : List Held) (moments : List Moment) → Moves net caches (visited net caches moments)
visited-moves net caches [] = tt
visited-moves net caches (Takes arc ∷ more) = visited-moves net caches more
visited-moves net caches (Makes access address seen hit ∷ more) =
    (refl, visited-moves net (went net access address caches).after more)

pub visited-arcs : (net : Net) (caches : List Held) (moments : List Moment) → arcs_of (visited net caches moments) ≡ arcs_of moments
visited-arcs net caches [] = refl
visited-arcs net caches (Takes arc ∷ more) = ap (λ (l : List ℕ). arc ∷ l) (visited-arcs net caches more)
visited-arcs net caches (Makes access address seen hit ∷ more) = visited-arcs net (went net access address caches).after more

pub visited-walks-on : (net : Net) (range : ℕ → ℕ → Type 0) (caches : List Held) (place : ℕ) (left : List ℕ) (moments : List Moment) →
    WalksOn net range place left moments → WalksOn net range place left (visited net caches moments)
visited-walks-on net range caches place left [] walk = tt
visited-walks-on net range caches place left (Takes arc ∷ more) walk = (
  walk.0,
  (
    walk.1.0,
    (
      walk.1.1.0,
      walk.1.1.1,
      walk.1.1.2,
      visited-walks-on net range caches walk.1.1.0.to (access_numbers net walk.1.1.0.to) more walk.1.1.3,
    ),
  ),
)
visited-walks-on net range caches place left (Makes access address seen hit ∷ more) walk =
    (walk.0, walk.1, walk.2, visited-walks-on net range (went net access address caches).after place walk.0 more walk.3)

pub visited-walk : (net : Net) (range : ℕ → ℕ → Type 0) (caches : List Held) (moments : List Moment) →
    IsWalk net range moments → IsWalk net range (visited net caches moments)
visited-walk net range caches [] walk = tt
visited-walk net range caches (Takes arc ∷ more) walk = (
  walk.0,
  (
    walk.1.0,
    walk.1.1,
    walk.1.2,
    visited-walks-on net range caches walk.1.0.to (access_numbers net walk.1.0.to) more walk.1.3,
  ),
)
visited-walk net range caches (Makes access address seen hit ∷ more) walk = absurd walk

pub visited-append : (net : Net) (caches : List Held) (first more : List Moment) →
    visited net caches (first ++ more) ≡ visited net caches first ++ visited net (caches_after net caches first) more
visited-append net caches [] more = refl
visited-append net caches (Takes arc ∷ first) more =
    ap (λ (l : List Moment). Takes arc ∷ l) (visited-append net caches first more)
visited-append net caches (Makes access address seen hit ∷ first) more =
    ap (λ (l : List Moment).
    Makes access address (went net access address caches).visit.caches (went net access address caches).visit.hit ∷ l)
    (visited-append net (went net access address caches).after first more)

-- A moment that is an access of a unit stays one.
made-by : (net : Net) (place : ℕ) (made : UnitAccess) (number address seen : ℕ) (hit : Bool) (caches : ℕ) (found : Bool) →
    IsMadeBy net place made (Makes number address seen hit) → IsMadeBy net place made (Makes number address caches found)
made-by net place made number address seen hit caches found is =
    let same : number ≡ is.number = let m = is.makes in cc in
    let there : address ≡ made.address = let m = is.makes in cc in
    record {
      number = is.number;
      access = is.access;
      there = is.there;
      own = is.own;
      kind = is.kind;
      at = is.at;
      caches = caches;
      hit = found;
      makes = rw (same, there) refl;
    }

not-taken : (net : Net) (place : ℕ) (made : UnitAccess) (arc : ℕ) → IsMadeBy net place made (Takes arc) → ⊥
not-taken net place made arc is = let m = is.makes in cc

pub visited-made : (net : Net) (caches : List Held) (place : ℕ) (accesses : List UnitAccess) (moments : List Moment) →
    AllZip (IsMadeBy net place) accesses moments → AllZip (IsMadeBy net place) accesses (visited net caches moments)
visited-made net caches place [] [] all = tt
visited-made net caches place [] (moment ∷ more) all = absurd all
visited-made net caches place (made ∷ accesses) [] all = absurd all
visited-made net caches place (made ∷ accesses) (Takes arc ∷ more) all = absurd (not-taken net place made arc all.0)
visited-made net caches place (made ∷ accesses) (Makes number address seen hit ∷ more) all = (
  made-by net place made number address seen hit (went net number address caches).visit.caches
      (went net number address caches).visit.hit all.0,
  visited-made net (went net number address caches).after place accesses more all.1,
)

pub visited-moments : (net : Net) (caches : List Held) (from : ℕ) (units : List RunUnit) (moments : List Moment) →
    AreMoments net from units moments → AreMoments net from units (visited net caches moments)
visited-moments net caches from [] moments are = ap (visited net caches) are
visited-moments net caches from (unit ∷ units) moments are =
    let made : List Moment = are.0 in
    let number : ℕ = are.1.0 in
    let to : ℕ = are.1.1.0 in
    let rest : List Moment = are.1.1.1.0 in
    let told : IsUnitTold net from unit made number to = are.1.1.1.1 in
    let after : List Held = caches_after net caches made in (
      visited net caches made,
      (
        number,
        (
          to,
          (
            visited net after rest,
            record {
              before = told.before;
              accesses = visited-made net caches from (numbered_accesses unit) made told.accesses;
              positive = told.positive;
              arc = told.arc;
              there = told.there;
              leaves = told.leaves;
              leads = told.leads;
              after = told.after;
            },
            ap (visited net caches) are.1.1.1.2 ∙ visited-append net caches made (Takes number ∷ rest),
            visited-moments net after to units rest are.1.1.1.3,
          ),
        ),
      ),
    )

-- The moments of a run from its entry on stay those of the run.
pub visited-run : (net : Net) (entry : ℕ) (caches : List Held) (did : List RunUnit) (moments : List Moment) →
    AreRunMoments net entry did moments → AreRunMoments net entry did (visited net caches moments)
visited-run net entry caches did moments are = record {
  arc = are.arc;
  first = are.first;
  outside = are.outside;
  begins = are.begins;
  rest = visited net caches are.rest;
  enters = ap (visited net caches) are.enters;
  units = visited-moments net caches are.arc.to did are.rest are.units;
}
