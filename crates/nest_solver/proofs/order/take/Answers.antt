use Rattle.std.proofs.Math.ListN.{length-set}
use Rattle.std.proofs.Common.{◌≡◌, ℕ, ◌+◌, ◌-◌, ◌<◌, ◌≤◌, List, length, set, sym, arith, subst, ◌∙◌}
use Rattle.flow_net.specs.Nested.{IsNested}
use Rattle.flow_net.specs.declared.net.Net.{Net}
use Rattle.nest_solver.specs.Nets.{entry, source_of}
use Rattle.flow_net.specs.Numbers.{item_at}
use Rattle.nest_solver.specs.Orders.{IsOpening, arcs_of}
use Rattle.nest_solver.specs.Shape.{IsUpTo}
use Rattle.nest_solver.proofs.Opens.{opening-any, opening-arc, opening-left, opening-opens, opening-shut, opening-zero}
use Rattle.nest_solver.proofs.Puts.{Puts, entry-read, puts-set}
use Rattle.nest_solver.proofs.Sources.{source-within}
use Rattle.nest_solver.proofs.order.take.Goals as goal

low_source : (net : Net) (left : List ℕ) (arc from : ℕ) → IsNested net → length left ≡ length net.places + 1 →
    IsUpTo (length net.arcs) arc → from ≡ source_of (item_at arc net.arcs) → from < length left
low_source net left arc from nested room up e = omega (arith, e, room, source-within net nested arc up)

pub returns-then-from-eq0 : goal.returns-then-from-eq0
returns-then-from-eq0 c =
    let a = arcs_of c.args.net.now c.args.backs.now in
    let order = c.args.order.now.items in
    let place = entry c.args.place.now in
    let left = c.args.left.now in
    let at = c.args.at in
    let first = length c.args.net.now.arcs + 1 in
    let low = length c.args.net.now.places + 1 in
    let arc = c.index-arc.result.now in
    let from = c.source-from.result in
    let read : arc ≡ entry order at = entry-read order at arc c.requires.at c.index-arc.ensures in
    let up : IsUpTo (length c.args.net.now.arcs) arc =
    opening-arc a order place (entry left) at first low arc c.requires.opening c.requires.at read in
    record {
      opening = opening-zero a order place (entry left) at first low arc c.requires.opening c.requires.at (sym read)
          (sym c.source-from.ensures ∙ c.if-from-eq0.true);
    }

pub bounds-left-from : goal.bounds-left-from
bounds-left-from c =
    let a = arcs_of c.args.net.now c.args.backs.now in
    let order = c.args.order.now.items in
    let place = entry c.args.place.now in
    let left = c.args.left.now in
    let at = c.args.at in
    let first = length c.args.net.now.arcs + 1 in
    let low = length c.args.net.now.places + 1 in
    let arc = c.index-arc.result.now in
    let from = c.source-from.result in
    let read : arc ≡ entry order at = entry-read order at arc c.requires.at c.index-arc.ensures in
    let up : IsUpTo (length c.args.net.now.arcs) arc =
    opening-arc a order place (entry left) at first low arc c.requires.opening c.requires.at read in
    let below : from < length left = low_source c.args.net.now left arc from c.requires.nested c.requires.left up c.source-from.ensures in
    below

pub overflow_sub-left : goal.overflow_sub-left
overflow_sub-left c =
    let a = arcs_of c.args.net.now c.args.backs.now in
    let order = c.args.order.now.items in
    let place = entry c.args.place.now in
    let left = c.args.left.now in
    let at = c.args.at in
    let first = length c.args.net.now.arcs + 1 in
    let low = length c.args.net.now.places + 1 in
    let arc = c.index-arc.result.now in
    let from = c.source-from.result in
    let read : arc ≡ entry order at = entry-read order at arc c.requires.at c.index-arc.ensures in
    let up : IsUpTo (length c.args.net.now.arcs) arc =
    opening-arc a order place (entry left) at first low arc c.requires.opening c.requires.at read in
    subst (λ (p : ℕ). 1 ≤ entry left p) (sym c.source-from.ensures)
    (opening-left a order place (entry left) at first low arc c.requires.opening c.requires.at read
    (omega (arith, c.source-from.ensures, c.if-from-eq0.false)))

pub offset_bounds-left-from : goal.offset_bounds-left-from
offset_bounds-left-from c =
    let a = arcs_of c.args.net.now c.args.backs.now in
    let order = c.args.order.now.items in
    let place = entry c.args.place.now in
    let left = c.args.left.now in
    let at = c.args.at in
    let first = length c.args.net.now.arcs + 1 in
    let low = length c.args.net.now.places + 1 in
    let arc = c.index-arc.result.now in
    let from = c.source-from.result in
    let read : arc ≡ entry order at = entry-read order at arc c.requires.at c.index-arc.ensures in
    let up : IsUpTo (length c.args.net.now.arcs) arc =
    opening-arc a order place (entry left) at first low arc c.requires.opening c.requires.at read in
    let below : from < length left = low_source c.args.net.now left arc from c.requires.nested c.requires.left up c.source-from.ensures in
    omega (arith, below, c.requires.left, c.requires.few.places)

pub offset_bounds-left-from-2 : goal.offset_bounds-left-from-2
offset_bounds-left-from-2 c =
    let a = arcs_of c.args.net.now c.args.backs.now in
    let order = c.args.order.now.items in
    let place = entry c.args.place.now in
    let left = c.args.left.now in
    let at = c.args.at in
    let first = length c.args.net.now.arcs + 1 in
    let low = length c.args.net.now.places + 1 in
    let arc = c.index-arc.result.now in
    let from = c.source-from.result in
    let read : arc ≡ entry order at = entry-read order at arc c.requires.at c.index-arc.ensures in
    let up : IsUpTo (length c.args.net.now.arcs) arc =
    opening-arc a order place (entry left) at first low arc c.requires.opening c.requires.at read in
    let below : from < length left = low_source c.args.net.now left arc from c.requires.nested c.requires.left up c.source-from.ensures in
    omega (arith, below, c.requires.left, c.requires.few.places)

pub bounds-left-from-2 : goal.bounds-left-from-2
bounds-left-from-2 c =
    let a = arcs_of c.args.net.now c.args.backs.now in
    let order = c.args.order.now.items in
    let place = entry c.args.place.now in
    let left = c.args.left.now in
    let at = c.args.at in
    let first = length c.args.net.now.arcs + 1 in
    let low = length c.args.net.now.places + 1 in
    let arc = c.index-arc.result.now in
    let from = c.source-from.result in
    let read : arc ≡ entry order at = entry-read order at arc c.requires.at c.index-arc.ensures in
    let up : IsUpTo (length c.args.net.now.arcs) arc =
    opening-arc a order place (entry left) at first low arc c.requires.opening c.requires.at read in
    let below : from < length left = low_source c.args.net.now left arc from c.requires.nested c.requires.left up c.source-from.ensures in
    below

pub bounds-left-from-3 : goal.bounds-left-from-3
bounds-left-from-3 c =
    let a = arcs_of c.args.net.now c.args.backs.now in
    let order = c.args.order.now.items in
    let place = entry c.args.place.now in
    let left = c.args.left.now in
    let at = c.args.at in
    let first = length c.args.net.now.arcs + 1 in
    let low = length c.args.net.now.places + 1 in
    let arc = c.index-arc.result.now in
    let from = c.source-from.result in
    let read : arc ≡ entry order at = entry-read order at arc c.requires.at c.index-arc.ensures in
    let up : IsUpTo (length c.args.net.now.arcs) arc =
    opening-arc a order place (entry left) at first low arc c.requires.opening c.requires.at read in
    let below : from < length left = low_source c.args.net.now left arc from c.requires.nested c.requires.left up c.source-from.ensures in
    omega (arith, below, length-set left from (entry left from - 1))

pub returns-then-left-from-ne0 : goal.returns-then-left-from-ne0
returns-then-left-from-ne0 c =
    let a = arcs_of c.args.net.now c.args.backs.now in
    let order = c.args.order.now.items in
    let place = entry c.args.place.now in
    let left = c.args.left.now in
    let at = c.args.at in
    let first = length c.args.net.now.arcs + 1 in
    let low = length c.args.net.now.places + 1 in
    let arc = c.index-arc.result.now in
    let from = c.source-from.result in
    let read : arc ≡ entry order at = entry-read order at arc c.requires.at c.index-arc.ensures in
    let up : IsUpTo (length c.args.net.now.arcs) arc =
    opening-arc a order place (entry left) at first low arc c.requires.opening c.requires.at read in
    let below : from < length left = low_source c.args.net.now left arc from c.requires.nested c.requires.left up c.source-from.ensures in
    let some : 0 < a.from arc = omega (arith, c.source-from.ensures, c.if-from-eq0.false) in
    let left2 = set left from (entry left from - 1) in
    let puts = subst (λ (p : ℕ). Puts (entry left) (entry left2) p (entry left p - 1)) c.source-from.ensures
    (puts-set left from (entry left from - 1) below) in
    record {
      opening = opening-shut a order place (entry left) (entry left2) at first low arc c.requires.opening c.requires.at
          (sym read) some puts
          (subst (λ (p : ℕ). entry left2 p ≡ 0 → ⊥) c.source-from.ensures c.if-left-from-ne0.true);
    }

pub open-requires-clause-to : goal.open-requires-clause-to
open-requires-clause-to c =
    let a = arcs_of c.args.net.now c.args.backs.now in
    let order = c.args.order.now.items in
    let place = entry c.args.place.now in
    let left = c.args.left.now in
    let at = c.args.at in
    let first = length c.args.net.now.arcs + 1 in
    let low = length c.args.net.now.places + 1 in
    let arc = c.index-arc.result.now in
    let from = c.source-from.result in
    let read : arc ≡ entry order at = entry-read order at arc c.requires.at c.index-arc.ensures in
    let up : IsUpTo (length c.args.net.now.arcs) arc =
    opening-arc a order place (entry left) at first low arc c.requires.opening c.requires.at read in
    let below : from < length left = low_source c.args.net.now left arc from c.requires.nested c.requires.left up c.source-from.ensures in
    omega (arith, below, c.requires.left)

pub returns : goal.returns
returns c =
    let a = arcs_of c.args.net.now c.args.backs.now in
    let order = c.args.order.now.items in
    let place = entry c.args.place.now in
    let left = c.args.left.now in
    let at = c.args.at in
    let first = length c.args.net.now.arcs + 1 in
    let low = length c.args.net.now.places + 1 in
    let arc = c.index-arc.result.now in
    let from = c.source-from.result in
    let read : arc ≡ entry order at = entry-read order at arc c.requires.at c.index-arc.ensures in
    let up : IsUpTo (length c.args.net.now.arcs) arc =
    opening-arc a order place (entry left) at first low arc c.requires.opening c.requires.at read in
    let below : from < length left = low_source c.args.net.now left arc from c.requires.nested c.requires.left up c.source-from.ensures in
    let some : 0 < a.from arc = omega (arith, c.source-from.ensures, c.if-from-eq0.false) in
    let left2 = set left from (entry left from - 1) in
    let puts = subst (λ (p : ℕ). Puts (entry left) (entry left2) p (entry left p - 1)) c.source-from.ensures
    (puts-set left from (entry left from - 1) below) in
    let heads = entry c.args.arrivals.now.heads.items in
    record {
      opening = opening-any a c.open.new.order.items (entry c.open.new.place) (entry left2) (at + 1) first low from
          (c.in_ok-open.ensures.opened (entry left2) (at + 1) first low (omega (arith, c.if-left-from-ne0.false))
          (omega (arith, below, c.requires.left))
          (subst (λ (p : ℕ). IsOpening a order place (entry left2) (at + 1) first low p (heads p)) (sym c.source-from.ensures)
          (opening-opens a order place (entry left) (entry left2) heads (entry c.args.arrivals.now.next.items) at first low
          arc c.requires.arrivals.chains c.requires.opening c.requires.at (sym read) some puts)));
    }
