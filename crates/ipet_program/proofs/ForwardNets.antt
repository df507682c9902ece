-- Nets whose places' numbers rise along each arc but the back arcs are nested.
use Rattle.std.proofs.Common.{◌≡◌, ℕ, zero, suc, ◌+◌, ◌-◌, ◌<◌, ◌≤◌, List, [], ◌∷◌, ◌++◌, length, get_or, Some, refl, sym, ◌∙◌, subst, inl, inr, arith}
use Rattle.std.proofs.lemmas.Bool.{cases_eq}
use Rattle.std.proofs.lemmas.List.Elements.{All-nil, All-same}
use Rattle.flow_net.specs.Nested.{HasNumbers, HasRanks, IsEntered, IsNested}
use Rattle.flow_net.specs.Numbers.{IsNumberOf, IsNumberOrZero, item_at}
use Rattle.flow_net.specs.Paths.{IsPath, IsRunPath}
use Rattle.flow_net.specs.declared.net.Access.{Access}
use Rattle.flow_net.specs.declared.net.LoopInst.{LoopInst}
use Rattle.flow_net.specs.declared.net.Net.{Net}
use Rattle.flow_net.specs.declared.net.NetArc.{NetArc}
use Rattle.flow_net.specs.declared.net.Place.{Place}
use Rattle.flow_net.proofs.Numbers.{item_at-there, item_at-within}
use Rattle.flow_net.proofs.Within.{within-same}
use Rattle.ipet_program.specs.Forward.{EntersAt, IsForward, IsForwardArc, IsForwardLoop, IsForwardPlace}
use Rattle.ipet_program.proofs.EachItems.{each-all, each-of}

-- A path goes on by one more arc.
path-more : (arcs : List NetArc) (from : ℕ) (numbers : List ℕ) (middle number : ℕ) (arc : NetArc) →
    IsPath arcs from numbers middle → item_at number arcs ≡ Some arc → arc.from ≡ middle → 0 < middle →
    IsPath arcs from (numbers ++ number ∷ []) arc.to
path-more arcs from [] middle number arc path there same some =
    (omega (arith, path, some), (arc, there, same ∙ sym path, refl))
path-more arcs from (n ∷ numbers) middle number arc path there same some = (
  path.0,
  (
    path.1.0,
    path.1.1,
    path.1.2,
    path-more arcs path.1.0.to numbers middle number arc
        path.1.3 there same some,
  ),
)

run-more : (arcs : List NetArc) (numbers : List ℕ) (middle number : ℕ) (arc : NetArc) →
    IsRunPath arcs numbers middle → item_at number arcs ≡ Some arc → arc.from ≡ middle → 0 < middle →
    IsRunPath arcs (numbers ++ number ∷ []) arc.to
run-more arcs [] middle number arc path there same some = absurd path
run-more arcs (n ∷ numbers) middle number arc path there same some = (
  path.0,
  (
    path.1.0,
    path.1.1,
    path.1.2,
    path-more arcs path.1.0.to numbers middle number arc
        path.1.3 there same some,
  ),
)

module _ (net : Net) (is : IsForward net) where
  arc_of : (number : ℕ) (arc : NetArc) → item_at number net.arcs ≡ Some arc → IsForwardArc net number arc
  arc_of = each-of (IsForwardArc net) net.arcs is.arcs

  loop_of : (scope : ℕ) (inst : LoopInst) → item_at scope net.loops ≡ Some inst → IsForwardLoop net scope inst
  loop_of = each-of (IsForwardLoop net) net.loops is.loops

  place_of : (number : ℕ) (place : Place) → item_at number net.places ≡ Some place → IsForwardPlace net number place
  place_of = each-of (IsForwardPlace net) net.places is.places

  -- Each place is reached: by the arc that comes to it from a lesser one.
  run-to : (n place : ℕ) → place < n → IsNumberOf net.places place →
      (numbers : List ℕ) × IsRunPath net.arcs numbers place
  run-to zero place less number = absurd (omega (arith, less))
  run-to (suc n) place less number =
      let none : Place = record { context = 0; address = 0; scope = 0 } in
      let reached = (place_of place (get_or net.places (place - 1) none)
      (item_at-there net.places place none number)).reached in
      let arc = arc_of reached.number reached.arc reached.there in
      elim (cases_eq reached.arc.from 0) as (λ _. (numbers : List ℕ) × IsRunPath net.arcs numbers place) [
        | inl e ↦ (
          1 ∷ [],
          (
            refl,
            (
              reached.arc,
              subst (λ (k : ℕ). item_at k net.arcs ≡ Some reached.arc) (arc.only e) reached.there,
              e,
              reached.to,
            ),
          ),
        )
        | inr differ ↦
            let before = run-to n reached.arc.from (omega (arith, reached.rises, less))
            (record { from_one = omega (arith, differ); within = arc.from }) in (
              before.0 ++ reached.number ∷ [],
              subst (λ (p : ℕ). IsRunPath net.arcs (before.0 ++ reached.number ∷ []) p) reached.to
                  (run-more net.arcs before.0 reached.arc.from reached.number reached.arc before.1 reached.there refl
                  (omega (arith, differ))),
            )
      ]

  entered_by : IsEntered net
  entered_by =
      let none : NetArc = record { from = 0; to = 0 } in
      let some = item_at-within net.arcs is.left.number is.left.arc is.left.there in
      let there : item_at 1 net.arcs ≡ Some (get_or net.arcs (1 - 1) none) =
      item_at-there net.arcs 1 none (record {
        from_one = omega arith;
        within = omega
            (arith, some.from_one, some.within);
      }) in
      let arc = arc_of 1 (get_or net.arcs (1 - 1) none) there in
      record {
        first = (get_or net.arcs (1 - 1) none, there, arc.first refl, arc.entered (arc.first refl));
        only = λ number arc at from. (arc_of number arc at).only from;
        reached = λ place number. run-to (place + 1) place (omega arith) number;
      }

  numbers_by : HasNumbers net
  numbers_by =
      record {
        parents = is.parents;
        contexts = each-all (λ (place : Place). place.context < length net.contexts) net.places
            (λ number place there. (place_of number place there).context);
        starts = each-all (λ (arc : NetArc). IsNumberOrZero net.places arc.from) net.arcs
            (λ number arc there. (arc_of number arc there).from);
        ends = each-all (λ (arc : NetArc). IsNumberOrZero net.places arc.to) net.arcs
            (λ number arc there. (arc_of number arc there).to);
        headers = each-all (λ (inst : LoopInst). IsNumberOf net.places inst.header) net.loops
            (λ scope inst there. (loop_of scope inst there).header);
        accesses = is.accesses;
      }

  header_place : (scope : ℕ) (inst : LoopInst) → item_at scope net.loops ≡ Some inst →
      (place : Place) × (item_at inst.header net.places ≡ Some place) × (place.scope ≡ scope)
  header_place scope inst there =
      let none : Place = record { context = 0; address = 0; scope = 0 } in
      let loop = loop_of scope inst there in
      let at = item_at-there net.places inst.header none loop.header in
      (get_or net.places (inst.header - 1) none, at, loop.own (get_or net.places (inst.header - 1) none) at)

  ranks_by : HasRanks net
  ranks_by =
      record {
        rank = λ place. place;
        rises = λ number arc there from to other. elim ((arc_of number arc there).rises from to) as
            (λ _. arc.from < arc.to) [
              | inl less ↦ less
              | inr back ↦ absurd (other back)
            ];
      }

  pub nested-forward : IsNested net
  nested-forward =
      record {
        numbers = numbers_by;
        scopes = is.scopes;
        entered = entered_by;
        left = (is.left.number, (is.left.arc, is.left.there, is.left.to));
        held = λ scope inst there.
            let header = header_place scope inst there in
            record {
              place = header.0;
              there = header.1;
              within = within-same net.loops scope header.0.scope header.2;
            };
        bounds = each-all (λ (inst : LoopInst). 1 ≤ inst.bound) net.loops
            (λ scope inst there. (loop_of scope inst there).bound);
        distinct = λ scope other inst another there also same.
            let header = header_place scope inst there in
            sym header.2 ∙ (loop_of other another also).own header.0
            (subst (λ (n : ℕ). item_at n net.places ≡ Some header.0) same header.1);
        entering = λ number scope arc inst there also inside outside.
            each-of (EntersAt net arc) net.loops (arc_of number arc there).enters scope inst also inside outside;
        ranks = ranks_by;
      }
