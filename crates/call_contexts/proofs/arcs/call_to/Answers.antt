-- A call makes one context, and that has the place.
use Rattle.std.proofs.Common.{ℕ, subst}
use Rattle.call_contexts.specs.Spots.{HasNumber}
use Rattle.call_contexts.proofs.ContextOrder.{made-once}
use Rattle.call_contexts.proofs.arcs.call_to.Goals as goal

pub number_at-requires-clause-there : goal.number_at-requires-clause-there
number_at-requires-clause-there c =
    let (image, entry, laid) = c.requires.program in
    let (to, is) = c.requires.there in
    let same = made-once image entry c.args.layout.now.contexts.keys laid.layout_is.contexts c.args.context c.args.site c.args.callee
    is.made c.number_of-made.result is.is c.number_of-made.ensures in
    subst (λ (n : ℕ). HasNumber c.args.graphs.now.graphs c.args.layout.now n c.args.callee) same (to, is.at)
