-- The arcs of the places so far, and one place more.
use Rattle.std.proofs.Common.{◌≡◌, ℕ, suc, ◌<◌, ◌≤◌, ◌⊎◌, inl, inr, List, [], ◌∷◌, ◌++◌, map, All, AllPairs, Contains, refl, sym, ap, subst, ◌∙◌, arith}
use Rattle.std.proofs.lemmas.Bool.{cases_lt}
use Rattle.std.proofs.lemmas.List.{get_or-map, length-map}
use Rattle.std.proofs.lemmas.List.Elements.{All-append, All-map, All-nil, All-weaker, Contains-append_left, Contains-append_right}
use Rattle.std.proofs.lemmas.List.Kept.{AllPairs-cons}
use Rattle.flow_net.specs.declared.net.NetArc.{NetArc}
use Rattle.net_model.specs.Places.{IsArcBefore}
use Rattle.loop_nest.proofs.Ordered.{pairs-head, pairs-tail}
use Rattle.unit_graph.specs.declared.graph.Graph.{Graph}
use Rattle.unit_graph.specs.declared.node.Unit.{Unit as Node}
use Rattle.call_contexts.specs.Arcs.{AreArcs, AreTargets, AreWays, IsFirstPlace, IsWay, Leads, arc_to, arcs_from}
use Rattle.call_contexts.specs.Layout.{IsLaidOut, IsSpot}
use Rattle.call_contexts.specs.declared.layout.Layout.{Layout}
use Rattle.call_contexts.proofs.SpotNumbers.{spot-context, spot-once, spot-positive}
use Rattle.call_contexts.proofs.Zips.{pairs-append, pairs-nil}

pub pairs-map : {S T : Type 0} (R : T → T → Type 0) (f : S → T) (xs : List S) → AllPairs (λ a b. R (f a) (f b)) xs →
    AllPairs R (map f xs)
pairs-map R f [] pairs = pairs-nil R
pairs-map R f (x ∷ xs) pairs =
    AllPairs-cons R (f x) (map f xs)
    (All-map (R (f x)) f xs (pairs-head (λ a b. R (f a) (f b)) x xs pairs))
    (pairs-map R f xs (pairs-tail (λ a b. R (f a) (f b)) x xs pairs))

pub contains-map : {S T : Type 0} (f : S → T) (xs : List S) (x : S) → Contains xs x → Contains (map f xs) (f x)
contains-map f xs x there =
    (there.0, omega (arith, length-map xs f, there.1), get_or-map f xs there.0 x (f x) there.1 ∙ ap f there.2)

-- No place has a number below 1.
ways-none : (graphs : List Graph) (layout : Layout) → IsLaidOut graphs layout → AreWays graphs layout 1 []
ways-none graphs layout laid = record {
  sound = All-nil (λ (arc : NetArc). (arc.from < 1) × IsWay graphs layout arc.from arc.to);
  whole = λ from to below way. absurd (let some : 0 < from =
      spot-positive graphs layout way.context way.position way.node from laid way.spot in omega (arith, some, below));
  order = pairs-nil IsArcBefore;
}

pub arcs-none : (graphs : List Graph) (layout : Layout) (first : ℕ) (arcs : List NetArc) → IsLaidOut graphs layout →
    IsFirstPlace graphs layout first → arcs ≡ arc_to 0 first ∷ [] → AreArcs graphs layout 1 arcs
arcs-none graphs layout first arcs laid at is = record {
  first = first;
  at = at;
  rest = [];
  is = is;
  ways = ways-none graphs layout laid;
}

-- The targets of the next place are added.
ways-more : (graphs : List Graph) (layout : Layout) (context position : ℕ) (node : Node) (number : ℕ) (targets : List ℕ) (arcs : List NetArc) →
    IsLaidOut graphs layout → IsSpot graphs layout context position node number → AreTargets graphs layout context node targets →
    AreWays graphs layout number arcs → AreWays graphs layout (suc number) (arcs ++ arcs_from number targets)
ways-more graphs layout context position node number targets arcs laid spot are ways = record {
  sound = All-append (λ (arc : NetArc). (arc.from < suc number) × IsWay graphs layout arc.from arc.to) arcs (arcs_from number targets)
      (All-weaker (λ (arc : NetArc). (arc.from < number) × IsWay graphs layout arc.from arc.to)
      (λ (arc : NetArc). (arc.from < suc number) × IsWay graphs layout arc.from arc.to)
      (λ arc known. (omega (arith, known.0), known.1)) arcs ways.sound)
      (All-map (λ (arc : NetArc). (arc.from < suc number) × IsWay graphs layout arc.from arc.to) (arc_to number) targets
      (All-weaker (Leads graphs layout context node) (λ (to : ℕ). (number < suc number) × IsWay graphs layout number to)
      (λ to leads. (omega arith, record { context = context; position = position; node = node; spot = spot; leads = leads }))
      targets are.sound));
  whole = λ from to below way. at from to way (cases_lt from number) below;
  order = pairs-append IsArcBefore arcs (arcs_from number targets) ways.order
      (pairs-map IsArcBefore (arc_to number) targets (λ i j d less inside. inr (refl, are.order i j d less inside)))
      (All-weaker (λ (arc : NetArc). (arc.from < number) × IsWay graphs layout arc.from arc.to)
      (λ (arc : NetArc). All (IsArcBefore arc) (arcs_from number targets))
      (λ arc known. All-map (IsArcBefore arc) (arc_to number) targets (λ k d inside. inl known.0)) arcs ways.sound);
} where
  here : (to : ℕ) → IsWay graphs layout number to → Contains targets to
  here to way =
      let place = spot-context graphs layout way.context way.position context position way.node node number laid way.spot spot in
      let same = spot-once graphs layout way.context way.position context position way.node node number laid way.spot spot in
      are.whole to (subst (λ (n : Node). Leads graphs layout context n to) same
      (subst (λ (k : ℕ). Leads graphs layout k way.node to) place way.leads))

  at : (from to : ℕ) → IsWay graphs layout from to → ((from < number) ⊎ (number ≤ from)) → from < suc number →
      Contains (arcs ++ arcs_from number targets) (arc_to from to)
  at from to way (inl before) below =
      Contains-append_left arcs (arcs_from number targets) (arc_to from to) (ways.whole from to before way)
  at from to way (inr most) below =
      let same : number ≡ from = omega (arith, most, below) in
      let way_here : IsWay graphs layout number to = subst (λ (n : ℕ). IsWay graphs layout n to) (sym same) way in
      subst (λ (n : ℕ). Contains (arcs ++ arcs_from number targets) (arc_to n to)) same
      (Contains-append_right arcs (arcs_from number targets) (arc_to number to)
      (contains-map (arc_to number) targets to (here to way_here)))

pub arcs-more : (graphs : List Graph) (layout : Layout) (context position : ℕ) (node : Node) (number : ℕ) (targets : List ℕ) (arcs : List NetArc) →
    IsLaidOut graphs layout → IsSpot graphs layout context position node number → AreTargets graphs layout context node targets →
    AreArcs graphs layout number arcs → AreArcs graphs layout (suc number) (arcs ++ arcs_from number targets)
arcs-more graphs layout context position node number targets arcs laid spot are all = record {
  first = all.first;
  at = all.at;
  rest = all.rest ++ arcs_from number targets;
  is = ap (λ (given : List NetArc). given ++ arcs_from number targets) all.is;
  ways = ways-more graphs layout context position node number targets all.rest laid spot are all.ways;
}
