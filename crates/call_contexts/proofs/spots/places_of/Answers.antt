-- Each unit adds its place, with the scope of its number.
use Rattle.std.proofs.Common.{◌≡◌, ◌+◌, ◌++◌, ◌∷◌, [], ℕ, suc, List, length, map, take, get_or, slice_get, Some, refl, sym, ap, subst, arith}
use Rattle.flow_net.specs.declared.net.Place.{Place}
use Rattle.unit_graph.specs.declared.node.Unit.{Unit as Node}
use Rattle.call_contexts.proofs.Laying.{ArePlaces, places-laid, places-more, scope-there, scopes-more, unit-spot}
use Rattle.call_contexts.proofs.spots.places_of.Goals as goal

pub bounds-scopes-len : goal.bounds-scopes-len
bounds-scopes-len c =
    let (graph, has, same) = c.units_in-units.ensures in
    let (base, begins, are) = c.loop-unit.invariant.0 in
    omega (
      arith,
      c.len.ensures,
      scope-there c.args.graphs.now.graphs c.args.layout.now c.loop-context.context base c.loop-unit.unit-index graph c.loop-unit.places.items
          c.args.scopes.now c.requires.laid has begins c.requires.scopes are
          (omega (arith, c.loop-unit-test.true, ap (λ (nodes : List Node). length nodes) same)),
    )

pub loop-unit-preserved : goal.loop-unit-preserved
loop-unit-preserved c =
    let graphs = c.args.graphs.now.graphs in
    let layout = c.args.layout.now in
    let (graph, has, same) = c.units_in-units.ensures in
    let (base, begins, are) = c.loop-unit.invariant.0 in
    let index : ℕ = c.loop-unit.unit-index in
    let place : Place = record {
      context = c.loop-context.context;
      address = c.unit-item.result.address;
      scope = get_or c.args.scopes.now c.len.result 0;
    } in
    let pushed : c.push.new.self.items ≡ c.loop-unit.places.items ++ place ∷ [] = c.in_ok-push.ensures.items in
    let spot = unit-spot graphs layout c.loop-context.context base index graph c.units_in-units.result.now c.unit-item.result has begins same
    c.loop-unit-test.true c.unit-item.is in
    let next : suc (base + index) ≡ base + (index + 1) = omega arith in
    let added : ArePlaces graphs layout (base + (index + 1)) (c.loop-unit.places.items ++ place ∷ []) =
    subst (λ (limit : ℕ). ArePlaces graphs layout limit (c.loop-unit.places.items ++ place ∷ [])) next
    (places-more graphs layout (base + index) c.loop-unit.places.items place are (record {
      position = index;
      node = c.unit-item.result;
      spot = spot;
      same = refl;
    })) in
    let counted : c.len.result ≡ length c.loop-unit.places.items = omega (arith, c.len.ensures) in
    let scopes = scopes-more c.loop-unit.places.items place c.args.scopes.now c.loop-unit.invariant.1
    (scope-there graphs layout c.loop-context.context base index graph c.loop-unit.places.items c.args.scopes.now c.requires.laid has begins
    c.requires.scopes are (omega (arith, c.loop-unit-test.true, ap (λ (nodes : List Node). length nodes) same)))
    (ap (λ (n : ℕ). get_or c.args.scopes.now n 0) counted) in (
      (base, begins, subst (ArePlaces graphs layout (base + (index + 1))) (sym pushed) added),
      subst (λ (ps : List Place). map (λ (p : Place). p.scope) ps ≡ take (length ps) c.args.scopes.now) (sym pushed) scopes,
    )

pub returns-clause-laid : goal.returns-clause-laid
returns-clause-laid c =
    let (base, begins, are) = c.loop-context.invariant.0 in
    let all : c.loop-context.context ≡ length c.args.layout.now.contexts.keys =
    omega (arith, c.loop-context-test.false, c.len-context-end.ensures, c.requires.laid.functions) in
    places-laid c.args.graphs.now.graphs c.args.layout.now base c.loop-context.places.items c.requires.laid
    (subst (λ (n : ℕ). slice_get c.args.layout.now.bases.items n ≡ Some base) all begins) are
