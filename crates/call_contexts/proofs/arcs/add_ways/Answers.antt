-- Each way has a place, and the place is added.
use Rattle.std.proofs.Common.{ℕ, List, length, get_or, sym, ap, subst, arith}
use Rattle.std.proofs.lemmas.List.Elements.{All-get_or}
use Rattle.call_contexts.specs.Spots.{HasNumber, IsNumberAt}
use Rattle.call_contexts.proofs.Appending.{added-more}
use Rattle.call_contexts.proofs.arcs.add_ways.Goals as goal

pub number_at-requires-clause-there : goal.number_at-requires-clause-there
number_at-requires-clause-there c =
    subst (λ (ways : List ℕ). HasNumber c.args.graphs.now.graphs c.args.layout.now c.args.context (get_or ways c.loop-address.address-index 0))
    (sym c.as_slice-address-items.ensures)
    (All-get_or (HasNumber c.args.graphs.now.graphs c.args.layout.now c.args.context) c.args.unit.now.onward c.loop-address.address-index 0
    (omega (arith, ap (λ (ways : List ℕ). length ways) c.as_slice-address-items.ensures)) c.requires.there)

pub loop-address-preserved : goal.loop-address-preserved
loop-address-preserved c =
    added-more (IsNumberAt c.args.graphs.now.graphs c.args.layout.now c.args.context) c.args.unit.now.onward c.args.targets.now.items
    c.loop-address.targets.items c.push.new.self.items c.loop-address.address-index c.number_at.result c.loop-address.invariant
    c.in_ok-push.ensures.items (omega (arith, ap (λ (ways : List ℕ). length ways) c.as_slice-address-items.ensures))
    (subst (λ (ways : List ℕ). IsNumberAt c.args.graphs.now.graphs c.args.layout.now c.args.context
    (get_or ways c.loop-address.address-index 0) c.number_at.result) c.as_slice-address-items.ensures c.number_at.ensures)
