-- Nets in which each place is reached by an arc from a lesser one can be solved.
use Rattle.std.proofs.Common.{◌≡◌, ℕ, zero, suc, ◌+◌, ◌-◌, ◌<◌, ◌≤◌, ◌^◌, Bool, true, false, nat_lt, if◌then◌else◌, List, [], ◌∷◌, ◌++◌, length, get_or, All, Some, slice_set, refl, sym, ◌∙◌, subst, ap, inl, inr, arith}
use Rattle.std.specs.Bool.{OnTrue}
use Rattle.std.proofs.lemmas.Bool.{cases_Bool, cases_eq}
use Rattle.std.proofs.lemmas.Bool.Decides.{nat_tests}
use Rattle.std.proofs.lemmas.List.{length-set}
use Rattle.flow_net.specs.Numbers.{IsNumberOrZero, item_at}
use Rattle.flow_net.specs.Paths.{IsPath, IsRunPath}
use Rattle.flow_net.specs.Scopes.{HasScopes}
use Rattle.flow_net.specs.declared.net.LoopInst.{LoopInst}
use Rattle.flow_net.specs.declared.net.Net.{Net}
use Rattle.flow_net.specs.declared.net.NetArc.{NetArc}
use Rattle.flow_net.specs.declared.net.Place.{Place}
use Rattle.flow_net.proofs.Numbers.{item_at-same, item_at-there, item_at-within}
use Rattle.fixpoint.specs.Solved.{IsSolvable}
use Rattle.fixpoint.specs.Upward.{AreArcs, EachItem, IsArc, IsReached}
use Rattle.fixpoint.specs.Values.{waits}
use Rattle.fixpoint.proofs.Slots.{waits_set_other}

-- ---- Facts of the items of a list by their numbers.
pub each-none : {X : Type 0} (P : ℕ → X → Type 0) (items : List X) → EachItem P 0 items
each-none P items number item high there =
    absurd (omega (arith, (item_at-within items number item there).from_one, high))

pub item-next : {X : Type 0} (items : List X) (index : ℕ) (d : X) → index < length items →
    item_at (index + 1) items ≡ Some (get_or items index d)
item-next items index d within =
    let at : index + 1 - 1 ≡ index = omega arith in
    subst (λ (k : ℕ). item_at (index + 1) items ≡ Some (get_or items k d)) at
    (item_at-there items (index + 1) d (record { from_one = omega arith; within = omega (arith, within) }))

pub each-next : {X : Type 0} (P : ℕ → X → Type 0) (items : List X) (index : ℕ) (d : X) → index < length items →
    EachItem P index items → P (index + 1) (get_or items index d) → EachItem P (index + 1) items
each-next {X} P items index d within each next number item high there =
    elim (cases_eq number (index + 1)) as (λ _. P number item) [
      | inl e ↦
          let same : item_at (index + 1) items ≡ Some item = subst (λ (n : ℕ). item_at n items ≡ Some item) e there in
          subst (λ (n : ℕ). P n item) (sym e)
          (subst (P (index + 1)) (item_at-same items (index + 1) (get_or items index d) item
          (item-next items index d within) same) next)
      | inr differ ↦ each number item (omega (arith, differ, high)) there
    ]

pub each-of : {X : Type 0} (P : ℕ → X → Type 0) (items : List X) → EachItem P (length items) items →
    (number : ℕ) (item : X) → item_at number items ≡ Some item → P number item
each-of P items each number item there = each number item (item_at-within items number item there).within there

pub each-all : {X : Type 0} (P : X → Type 0) (items : List X) → ((number : ℕ) (item : X) →
    item_at number items ≡ Some item → P item) → All P items
each-all P items each k d within = each (k + 1) (get_or items k d) (item-next items k d within)

-- ---- Scopes: where each outer scope is lesser, the numbers are the depths.
pub scopes-upward : (net : Net) → EachItem (λ scope (inst : LoopInst). inst.outer < scope) (length net.loops) net.loops →
    All (λ (place : Place). place.scope ≤ length net.loops) net.places → HasScopes net
scopes-upward net falls scopes = record {
  places = scopes;
  loops = each-all (λ (inst : LoopInst). IsNumberOrZero net.loops inst.outer) net.loops
      (λ scope inst there. omega (
        arith,
        each-of (λ scope (inst : LoopInst). inst.outer < scope) net.loops falls scope inst there,
        (item_at-within net.loops scope inst there).within,
      ));
  chains = record {
    depth = λ scope. scope;
    falls = each-of (λ scope (inst : LoopInst). inst.outer < scope) net.loops falls;
  };
}

-- ---- Paths: a path goes on by one more arc.
path-more : (arcs : List NetArc) (from : ℕ) (numbers : List ℕ) (middle number : ℕ) (arc : NetArc) →
    IsPath arcs from numbers middle → item_at number arcs ≡ Some arc → arc.from ≡ middle → 0 < middle →
    IsPath arcs from (numbers ++ number ∷ []) arc.to
path-more arcs from [] middle number arc path there same some =
    (omega (arith, path, some), (arc, there, same ∙ sym path, refl))
path-more arcs from (n ∷ numbers) middle number arc path there same some = (
  path.0,
  (path.1.0, path.1.1, path.1.2, path-more arcs path.1.0.to numbers middle number arc path.1.3 there same some),
)

run-more : (arcs : List NetArc) (numbers : List ℕ) (middle number : ℕ) (arc : NetArc) →
    IsRunPath arcs numbers middle → item_at number arcs ≡ Some arc → arc.from ≡ middle → 0 < middle →
    IsRunPath arcs (numbers ++ number ∷ []) arc.to
run-more arcs [] middle number arc path there same some = absurd path
run-more arcs (n ∷ numbers) middle number arc path there same some = (
  path.0,
  (path.1.0, path.1.1, path.1.2, path-more arcs path.1.0.to numbers middle number arc path.1.3 there same some),
)

module _ (places : ℕ) (arcs : List NetArc) (are : AreArcs places arcs)
    (reached : (place : ℕ) → 0 < place → place ≤ places → IsReached arcs place) where
  run-to : (n place : ℕ) → place < n → 0 < place → place ≤ places → (numbers : List ℕ) × IsRunPath arcs numbers place
  run-to zero place less some within = absurd (omega (arith, less))
  run-to (suc n) place less some within =
      let by = reached place some within in
      let arc = each-of (IsArc places) arcs are by.number by.arc by.there in
      elim (cases_eq by.arc.from 0) as (λ _. (numbers : List ℕ) × IsRunPath arcs numbers place) [
        | inl e ↦ (
          1 ∷ [],
          (
            refl,
            (by.arc, subst (λ (k : ℕ). item_at k arcs ≡ Some by.arc) (arc.first.0 e) by.there, e, by.to),
          ),
        )
        | inr differ ↦
            let before = run-to n by.arc.from (omega (arith, by.rises, less)) (omega (arith, differ)) arc.from in (
              before.0 ++ by.number ∷ [],
              subst (λ (p : ℕ). IsRunPath arcs (before.0 ++ by.number ∷ []) p) by.to
                  (run-more arcs before.0 by.arc.from by.number by.arc before.1 by.there refl (omega (arith, differ))),
            )
      ]

pub solvable-upward : (net : Net) → length net.places ≤ 65536 → length net.arcs ≤ 2 ^ 31 → 0 < length net.arcs →
    HasScopes net → AreArcs (length net.places) net.arcs →
    ((place : ℕ) → 0 < place → place ≤ length net.places → IsReached net.arcs place) → IsSolvable net
solvable-upward net few less some scopes are reached = record {
  starts = each-all (λ (arc : NetArc). IsNumberOrZero net.places arc.from) net.arcs
      (λ number arc there. (each-of (IsArc (length net.places)) net.arcs are number arc there).from);
  ends = each-all (λ (arc : NetArc). IsNumberOrZero net.places arc.to) net.arcs
      (λ number arc there. (each-of (IsArc (length net.places)) net.arcs are number arc there).to);
  scopes = scopes;
  first = (get_or net.arcs (1 - 1) none, there, from, one.enters from);
  only = λ number arc at from. (each-of (IsArc (length net.places)) net.arcs are number arc at).first.0 from;
  reached = λ place number. run-to (length net.places) net.arcs are reached (place + 1) place (omega arith)
      (omega (arith, number.from_one)) number.within;
  few = (few, omega (arith, less));
}
  where
    none : NetArc
    none = record { from = 0; to = 0 }

    there : item_at 1 net.arcs ≡ Some (get_or net.arcs (1 - 1) none)
    there = item_at-there net.arcs 1 none (record { from_one = omega arith; within = omega (arith, some) })

    one : IsArc (length net.places) 1 (get_or net.arcs (1 - 1) none)
    one = each-of (IsArc (length net.places)) net.arcs are 1 (get_or net.arcs (1 - 1) none) there

    from : (get_or net.arcs (1 - 1) none).from ≡ 0
    from = one.first.1 refl

-- ---- Marks: one more arc.
pub marked-more : (arcs : List NetArc) (index : ℕ) (d : NetArc) (old new : List Bool) → index < length arcs →
    (get_or arcs index d).to < length old →
    new ≡ (if nat_lt (get_or arcs index d).from (get_or arcs index d).to then slice_set old (get_or arcs index d).to true else old) →
    ((place : ℕ) → waits old place ≡ true → IsReached arcs place) →
    (length new ≡ length old) × ((place : ℕ) → waits new place ≡ true → IsReached arcs place)
marked-more arcs index d old new within inside is before =
    let arc = get_or arcs index d in
    elim (cases_Bool (nat_lt arc.from arc.to))
    as (λ _. (length new ≡ length old) × ((place : ℕ) → waits new place ≡ true → IsReached arcs place)) [
      | inl rises ↦
          let set : new ≡ slice_set old arc.to true =
          is ∙ ap (λ (b : Bool). if b then slice_set old arc.to true else old) rises in (
            ap (λ (marks : List Bool). length marks) set ∙ length-set old arc.to true,
            λ place marked. elim (cases_eq place arc.to) as (λ _. IsReached arcs place) [
              | inl e ↦ record {
                number = index + 1;
                arc = arc;
                there = item-next arcs index d within;
                to = sym e;
                rises = subst (λ (p : ℕ). arc.from < p) (sym e) (grind (arith, nat_tests, rises));
              }
              | inr differ ↦ before place
                  (sym (ap (λ (marks : List Bool). waits marks place) set ∙ waits_set_other old arc.to place true differ) ∙ marked)
            ],
          )
      | inr stays ↦
          let same : new ≡ old = is ∙ ap (λ (b : Bool). if b then slice_set old arc.to true else old) stays in (
            ap (λ (marks : List Bool). length marks) same,
            λ place marked. before place (sym (ap (λ (marks : List Bool). waits marks place) same) ∙ marked),
          )
    ]

pub on-true_more : {P Q : Type 0} (b : Bool) → (P → Q) → OnTrue b P → OnTrue b Q
on-true_more true f h = f h
on-true_more false f h = h
