-- The call that made a context stands low.
use Rattle.std.proofs.Common.{◌+◌, ◌<◌, ◌^◌, sym, arith}
use Rattle.call_contexts.proofs.LaidProgram.{site-low}
use Rattle.call_contexts.proofs.arcs.return_to.Goals as goal

pub overflow_add-made : goal.overflow_add-made
overflow_add-made c =
    let (image, entry, laid) = c.requires.program in
    let low : c.in-Some.made.now.site + 8 < 2 ^ 32 =
    site-low image entry c.args.graphs.now c.args.layout.now c.args.context c.in-Some.made.now laid
    (omega (arith, c.if-context-eq0.false)) (sym c.in-Some.ensures.key) in
    omega (arith, low)
