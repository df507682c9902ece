-- The innermost scope of the end, or the next one outward if the arc enters that.
use Rattle.std.proofs.Common.{arith}
use Rattle.flow_net.specs.Numbers.{IsNumberOrZero}
use Rattle.flow_net.specs.declared.net.Place.{Place}
use Rattle.flow_net.proofs.Numbers.{item_at-all}
use Rattle.net_tables.proofs.Entered.{end-number, item_at-listed}
use Rattle.net_tables.proofs.Leaving.{outside-loop, shared-outer, shared-own, shared-read}
use Rattle.net_tables.proofs.crossings.shared_scope.Goals as goal

pub returns-then-held : goal.returns-then-held
returns-then-held c =
    let there = item_at-listed c.args.net.now.arcs c.as_slice.result.now c.args.number _ c.as_slice.ensures c.requires.number in
    let at = item_at-listed c.args.net.now.places c.as_slice-2.result.now _ _ c.as_slice-2.ensures
    (end-number c.args.net.now c.requires.net c.args.number _ there (c.requires.ends _ there).1) in
    record {
      shared = λ arc also. shared-read c.args.net.now c.args.number _ arc _ there also
          (shared-own c.args.net.now _ _ at c.if-held.ensures.held);
    }

pub overflow_sub-result : goal.overflow_sub-result
overflow_sub-result c =
    let there = item_at-listed c.args.net.now.arcs c.as_slice.result.now c.args.number _ c.as_slice.ensures c.requires.number in
    let at = item_at-listed c.args.net.now.places c.as_slice-2.result.now _ _ c.as_slice-2.ensures
    (end-number c.args.net.now c.requires.net c.args.number _ there (c.requires.ends _ there).1) in
    (outside-loop c.args.net.now c.requires.net c.args.number _ _ there (c.requires.ends _ there).0
    (item_at-all (λ (p : Place). IsNumberOrZero c.args.net.now.loops p.scope) c.args.net.now.places _ _
    c.requires.net.scopes.places at)
    c.if-held.ensures.free).from_one

pub bounds-as_slice-scope : goal.bounds-as_slice-scope
bounds-as_slice-scope c =
    let there = item_at-listed c.args.net.now.arcs c.as_slice.result.now c.args.number _ c.as_slice.ensures c.requires.number in
    let at = item_at-listed c.args.net.now.places c.as_slice-2.result.now _ _ c.as_slice-2.ensures
    (end-number c.args.net.now c.requires.net c.args.number _ there (c.requires.ends _ there).1) in
    let inside = outside-loop c.args.net.now c.requires.net c.args.number _ _ there (c.requires.ends _ there).0
    (item_at-all (λ (p : Place). IsNumberOrZero c.args.net.now.loops p.scope) c.args.net.now.places _ _
    c.requires.net.scopes.places at)
    c.if-held.ensures.free in
    rw c.as_slice-3.ensures (omega (arith, inside.from_one, inside.within))

pub returns : goal.returns
returns c =
    let there = item_at-listed c.args.net.now.arcs c.as_slice.result.now c.args.number _ c.as_slice.ensures c.requires.number in
    let at = item_at-listed c.args.net.now.places c.as_slice-2.result.now _ _ c.as_slice-2.ensures
    (end-number c.args.net.now c.requires.net c.args.number _ there (c.requires.ends _ there).1) in
    let inside = outside-loop c.args.net.now c.requires.net c.args.number _ _ there (c.requires.ends _ there).0
    (item_at-all (λ (p : Place). IsNumberOrZero c.args.net.now.loops p.scope) c.args.net.now.places _ _
    c.requires.net.scopes.places at)
    c.if-held.ensures.free in
    record {
      shared = λ arc also. shared-read c.args.net.now c.args.number _ arc _ there also
          (shared-outer c.args.net.now c.requires.net c.args.number _ _ _ there at
          (item_at-listed c.args.net.now.loops c.as_slice-3.result.now _ _ c.as_slice-3.ensures inside)
          (c.requires.ends _ there).0 c.if-held.ensures.free);
    }
