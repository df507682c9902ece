-- Where a walk enters a scope before it makes an access at a place that the scope holds.
use Rattle.std.proofs.Common.{◌≡◌, ℕ, zero, suc, ◌+◌, ◌<◌, ◌≤◌, ◌==◌, Bool, true, false, List, [], ◌∷◌, ◌++◌, length, get_or, Contains, Option, Some, slice_get, refl, sym, ap, ◌∙◌, subst, inl, inr, arith, append_assoc}
use Rattle.std.proofs.lemmas.Option.{none-some, same_Some}
use Rattle.flow_net.specs.Entering.{Enters, IsOutside}
use Rattle.flow_net.specs.Entering.Enters.{loop, run}
use Rattle.flow_net.specs.Numbers.{item_at, IsNumberOrZero}
use Rattle.flow_net.specs.Scopes.{Holds, IsWithin}
use Rattle.flow_net.specs.Nested.{IsNested}
use Rattle.flow_net.specs.declared.net.Access.{Access}
use Rattle.flow_net.specs.declared.net.LoopInst.{LoopInst}
use Rattle.flow_net.specs.declared.net.Net.{Net}
use Rattle.flow_net.specs.declared.net.NetArc.{NetArc}
use Rattle.flow_net.proofs.Headers.{ComesInto, comes-enters, enters-comes}
use Rattle.flow_net.proofs.Holds.{holds-decided, holds-through, holds-zero}
use Rattle.flow_net.proofs.Numbers.{item_at-same}
use Rattle.net_model.specs.Moments.{Makes, Moment, Takes}
use Rattle.net_model.specs.Claims.{EntersIn}
use Rattle.net_model.specs.Walks.{IsWalk, WalksOn, access_numbers}
use Rattle.ipet_program.specs.StageRows.{enters_by, enters_loop}
use Rattle.ipet_program.proofs.Entering.{is_entering-enters}
use Rattle.ipet_program.proofs.OnceCounts.{HasEntry, entry-after}
use Rattle.ipet_program.proofs.PlaceAccesses.{AllIn, IsMadeAt, made-at, one-place}

-- The moment takes an arc that enters the scope.
abbrev pub enters_at : Net → (scope : ℕ) → Moment → Bool
enters_at net scope (Takes number) = enters_by net scope number
enters_at net scope (Makes access address caches hit) = false

-- ---- Lists that begin alike.
pub same_first : {T : Type 0} {x y : T} {xs ys : List T} → x ∷ xs ≡ y ∷ ys → x ≡ y
same_first {T} {x} {y} e = same_Some x y (ap (λ (l : List T). slice_get l 0) e)

abbrev rest_of : {T : Type 0} → List T → List T
rest_of [] = []
rest_of (x ∷ xs) = xs

pub same_rest : {T : Type 0} {x y : T} {xs ys : List T} → x ∷ xs ≡ y ∷ ys → xs ≡ ys
same_rest {T} e = ap (λ (l : List T). rest_of l) e

pub not_empty : {T : Type 0} {x : T} {xs : List T} → [] ≡ x ∷ xs → ⊥
not_empty {T} {x} e = none-some x (ap (λ (l : List T). slice_get l 0) e)

abbrev pub access_in : Moment → ℕ
access_in (Takes arc) = 0
access_in (Makes access address caches hit) = access

abbrev is_taking : Moment → Bool
is_taking (Takes arc) = true
is_taking (Makes access address caches hit) = false

-- An item of a list, with what stands before and after it.
pub record IsParted {T : Type 0} (items : List T) (item : T) : Type 0 where
  pub front : List T
  pub back : List T
  pub order : items ≡ front ++ item ∷ back

part-at : {T : Type 0} (items : List T) (item : T) (i : ℕ) → i < length items → get_or items i item ≡ item → IsParted items item
part-at [] item i less e = absurd (omega (arith, less))
part-at {T} (x ∷ xs) item zero less e = record { front = []; back = xs; order = ap (λ (y : T). y ∷ xs) e }
part-at {T} (x ∷ xs) item (suc i) less e =
    let rest = part-at xs item i (omega (arith, less)) e in
    record { front = x ∷ rest.front; back = rest.back; order = ap (λ (l : List T). x ∷ l) rest.order }

pub part-of : {T : Type 0} (items : List T) (item : T) → Contains items item → IsParted items item
part-of items item among = part-at items item among.0 among.1 among.2

-- ---- The test of a scope's rows tells the arcs that enter it.
pub test-enters : (net : Net) → IsNested net → (scope number : ℕ) → Enters net scope number → enters_by net scope number ≡ true
test-enters net nested _ _ run = refl
test-enters net nested _ _ (loop zero number inst arc at there header outside) = absurd (none-some inst at)
test-enters net nested _ _ (loop (suc index) number inst arc at there header outside) =
    ap (λ (found : Option LoopInst). enters_loop net (suc index) found number) at
    ∙ (is_entering-enters net nested.scopes (suc index) number inst at).1 (loop (suc index) number inst arc at there header outside)

-- ---- Where a walk goes on after some moments.
pub record GoesOn (net : Net) (range : ℕ → ℕ → Type 0) (later : List Moment) : Type 0 where
  pub place : ℕ
  pub left : List ℕ
  pub own : AllIn (IsMadeAt net place) left
  pub on : WalksOn net range place left later

goes-after : (net : Net) (range : ℕ → ℕ → Type 0) (front later : List Moment) (place : ℕ) (left : List ℕ) →
    AllIn (IsMadeAt net place) left → WalksOn net range place left (front ++ later) → GoesOn net range later
goes-after net range [] later place left own on = record { place = place; left = left; own = own; on = on }
goes-after net range (Takes number ∷ front) later place left own on =
    let to = on.1.1.0.to in
    goes-after net range front later to (access_numbers net to) (made-at net to) on.1.1.3
goes-after net range (Makes access address caches hit ∷ front) later place left own on =
    goes-after net range front later place on.0 (subst (AllIn (IsMadeAt net place)) on.1 own).1 on.3

pub walk-after : (net : Net) (range : ℕ → ℕ → Type 0) (m : Moment) (front later : List Moment) →
    IsWalk net range (m ∷ front ++ later) → GoesOn net range later
walk-after net range (Makes access address caches hit) front later walk = absurd walk
walk-after net range (Takes number) front later walk =
    let to = walk.1.0.to in
    goes-after net range front later to (access_numbers net to) (made-at net to) walk.1.3

module _ (net : Net) (range : ℕ → ℕ → Type 0) (nested : IsNested net) (scope : ℕ) (number_of : IsNumberOrZero net.loops scope)
    (access : ℕ) (own : Access) (there : item_at access net.accesses ≡ Some own) (held : Holds net scope own.place) where
  -- An arc from outside to a place that the scope holds enters the scope.
  into : (number : ℕ) (arc : NetArc) → item_at number net.arcs ≡ Some arc → IsOutside net scope arc.from → Holds net scope arc.to →
      enters_by net scope number ≡ true
  into number arc at outside inside =
      test-enters net nested scope number (comes-enters net nested scope number number_of
      (record { arc = arc; there = at; outside = outside; inside = inside }))

  -- From a place that the scope doesn't hold a walk enters the scope before it makes the access.
  pub enters-on : (later : List Moment) (place : ℕ) (left : List ℕ) → WalksOn net range place left later → AllIn (IsMadeAt net place) left →
      IsOutside net scope place → (front rest : List Moment) (address caches : ℕ) (hit : Bool) →
      later ≡ front ++ Makes access address caches hit ∷ rest → HasEntry (enters_at net scope) front
  enters-on [] place left on mine out [] rest address caches hit e = absurd (not_empty e)
  enters-on [] place left on mine out (f ∷ fs) rest address caches hit e = absurd (not_empty e)
  enters-on (Takes number ∷ ms) place left on mine out [] rest address caches hit e =
      absurd (grind (arith, ap is_taking (same_first e)))
  enters-on (Makes number at seen found ∷ ms) place left on mine out [] rest address caches hit e =
      let same : number ≡ access = ap access_in (same_first e) in
      let made : IsMadeAt net place number = (subst (AllIn (IsMadeAt net place)) on.1 mine).0 in
      let here : place ≡ own.place = one-place net access own there place (subst (IsMadeAt net place) same made) in
      absurd (out (subst (Holds net scope) (sym here) held))
  enters-on (Makes number at seen found ∷ ms) place left on mine out (f ∷ fs) rest address caches hit e =
      inr (enters-on ms place on.0 on.3 (subst (AllIn (IsMadeAt net place)) on.1 mine).1 out fs rest address caches hit (same_rest e))
  enters-on (Takes number ∷ ms) place left on mine out (f ∷ fs) rest address caches hit e =
      let arc = on.1.1.0 in
      let from : IsOutside net scope arc.from = λ h. out (subst (Holds net scope) on.1.1.2 h) in
      elim (holds-decided net scope arc.to nested.scopes.chains) as (λ _. HasEntry (enters_at net scope) (f ∷ fs)) [
        | inl inside ↦ inl (ap (enters_at net scope) (sym (same_first e)) ∙ into number arc on.1.1.1 from inside)
        | inr still ↦ inr (enters-on ms arc.to (access_numbers net arc.to) on.1.1.3 (made-at net arc.to) still fs rest
            address caches hit (same_rest e))
      ]

  -- A walk begins outside each scope: so an entry stands before each time that the access is made.
  pub walk-enters : (moments : List Moment) → IsWalk net range moments → (front rest : List Moment) (address caches : ℕ) (hit : Bool) →
      moments ≡ front ++ Makes access address caches hit ∷ rest → HasEntry (enters_at net scope) front
  walk-enters [] walk [] rest address caches hit e = absurd (not_empty e)
  walk-enters [] walk (f ∷ fs) rest address caches hit e = absurd (not_empty e)
  walk-enters (Makes number at seen found ∷ ms) walk front rest address caches hit e = absurd walk
  walk-enters (Takes number ∷ ms) walk [] rest address caches hit e = absurd (grind (arith, ap is_taking (same_first e)))
  walk-enters (Takes number ∷ ms) walk (f ∷ fs) rest address caches hit e =
      let arc = walk.1.0 in
      let from : IsOutside net scope arc.from = λ h. holds-zero net scope (subst (Holds net scope) walk.1.2 h) in
      elim (holds-decided net scope arc.to nested.scopes.chains) as (λ _. HasEntry (enters_at net scope) (f ∷ fs)) [
        | inl inside ↦ inl (ap (enters_at net scope) (sym (same_first e)) ∙ ap (enters_by net scope) walk.0
            ∙ into 1 arc walk.1.1 from inside)
        | inr still ↦ inr (enters-on ms arc.to (access_numbers net arc.to) walk.1.3 (made-at net arc.to) still fs rest
            address caches hit (same_rest e))
      ]

  three : (a b c d : List Moment) → (a ++ (b ++ c)) ++ d ≡ (a ++ b) ++ (c ++ d)
  three a b c d = ap (λ (l : List Moment). l ++ d) (sym (append_assoc a b c)) ∙ append_assoc (a ++ b) c d

  -- Where the walk enters a scope round this one before it makes the access, it enters this one as well.
  inner-after : (outer : ℕ) → IsWithin net.loops outer scope → (m : Moment) (before between rest : List Moment) (address caches : ℕ) (hit : Bool) →
      IsWalk net range ((m ∷ before ++ between) ++ Makes access address caches hit ∷ rest) → EntersIn net outer between →
      HasEntry (enters_at net scope) between
  inner-after outer within m before between rest address caches hit walk entered =
      let number = entered.0 in
      let parted : IsParted between (Takes number) = part-of between (Takes number) entered.1 in
      let later : List Moment = Takes number ∷ (parted.back ++ Makes access address caches hit ∷ rest) in
      let order : (m ∷ before ++ between) ++ Makes access address caches hit ∷ rest ≡ m ∷ (before ++ parted.front) ++ later =
      ap (λ (l : List Moment). (m ∷ before ++ l) ++ Makes access address caches hit ∷ rest) parted.order
      ∙ ap (λ (l : List Moment). m ∷ l) (three before parted.front (Takes number ∷ parted.back) (Makes access address caches hit ∷ rest)) in
      let after = walk-after net range m (before ++ parted.front) later (subst (IsWalk net range) order walk) in
      let comes = enters-comes net nested outer number entered.2 in
      let same : comes.arc ≡ after.on.1.1.0 = item_at-same net.arcs number comes.arc after.on.1.1.0 comes.there after.on.1.1.1 in
      let from : comes.arc.from ≡ after.place = ap (λ (a : NetArc). a.from) same ∙ after.on.1.1.2 in
      let out : IsOutside net scope after.place =
      λ h. comes.outside (subst (Holds net outer) (sym from) (holds-through net outer scope after.place within h)) in
      let has : HasEntry (enters_at net scope) (Takes number ∷ parted.back) =
      enters-on later after.place after.left after.on after.own out (Takes number ∷ parted.back) rest address caches hit refl in
      subst (HasEntry (enters_at net scope)) (sym parted.order)
      (entry-after (enters_at net scope) parted.front (Takes number ∷ parted.back) has)

  -- So between two times that the access is made, if a scope round this one is entered between them.
  pub inner-entry : (outer : ℕ) → IsWithin net.loops outer scope → (moments : List Moment) → IsWalk net range moments →
      (front between rest : List Moment) (address caches : ℕ) (hit : Bool) (again later : ℕ) (found : Bool) →
      moments ≡ front ++ Makes access address caches hit ∷ between ++ Makes access again later found ∷ rest →
      EntersIn net outer between → HasEntry (enters_at net scope) between
  inner-entry outer within moments walk [] between rest address caches hit again later found e entered =
      absurd (subst (IsWalk net range) e walk)
  inner-entry outer within moments walk (m ∷ front) between rest address caches hit again later found e entered =
      let order : moments ≡ (m ∷ (front ++ Makes access address caches hit ∷ []) ++ between) ++ Makes access again later found ∷ rest =
      e ∙ ap (λ (l : List Moment). m ∷ l) (regroup front between (Makes access address caches hit) (Makes access again later found ∷ rest)) in
      inner-after outer within m (front ++ Makes access address caches hit ∷ []) between rest again later found
      (subst (IsWalk net range) order walk) entered
    where
      regroup : (a b : List Moment) (x : Moment) (c : List Moment) → a ++ x ∷ b ++ c ≡ ((a ++ x ∷ []) ++ b) ++ c
      regroup a b x c = ap (λ (l : List Moment). l ++ c) (sym (append_assoc a (x ∷ []) b))
