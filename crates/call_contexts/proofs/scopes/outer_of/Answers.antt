-- The call that made a context has an earlier place, whose scope lies round the context.
use Rattle.std.proofs.Common.{arith}
use Rattle.call_contexts.proofs.CallScopes.{call-early, call-round, call-there}
use Rattle.call_contexts.proofs.Parts.{laid-program}
use Rattle.call_contexts.proofs.scopes.outer_of.Goals as goal

pub number_at-call-requires-clause-program : goal.number_at-call-requires-clause-program
number_at-call-requires-clause-program c =
    let (image, entry, nests, laid) = c.requires.program in
    (image, entry, laid-program image entry c.args.graphs.now nests c.args.layout.now laid)

pub number_at-call-requires-clause-there : goal.number_at-call-requires-clause-there
number_at-call-requires-clause-there c =
    let (image, entry, nests, laid) = c.requires.program in
    let number = c.args.number in
    let context = c.args.context.now in
    call-there image entry c.args.graphs.now nests c.args.layout.now laid number context c.requires.context
    (omega (arith, c.if-number-eq0.false))

pub overflow_sub-result : goal.overflow_sub-result
overflow_sub-result c =
    let (image, entry, nests, laid) = c.requires.program in
    let number = c.args.number in
    let context = c.args.context.now in
    let early = call-early image entry c.args.graphs.now nests c.args.layout.now laid number c.args.scopes.now context c.requires.context
    (omega (arith, c.if-number-eq0.false)) c.number_at-call.result c.number_at-call.ensures c.requires.filled in
    let some = early.from_one in
    omega (arith, some)

pub bounds-scopes-call : goal.bounds-scopes-call
bounds-scopes-call c =
    let (image, entry, nests, laid) = c.requires.program in
    let number = c.args.number in
    let context = c.args.context.now in
    let early = call-early image entry c.args.graphs.now nests c.args.layout.now laid number c.args.scopes.now context c.requires.context
    (omega (arith, c.if-number-eq0.false)) c.number_at-call.result c.number_at-call.ensures c.requires.filled in
    let some = early.from_one in
    let inside = early.within in
    omega (arith, some, inside)

pub offset_bounds-scopes-call : goal.offset_bounds-scopes-call
offset_bounds-scopes-call c =
    let (image, entry, nests, laid) = c.requires.program in
    let number = c.args.number in
    let context = c.args.context.now in
    let early = call-early image entry c.args.graphs.now nests c.args.layout.now laid number c.args.scopes.now context c.requires.context
    (omega (arith, c.if-number-eq0.false)) c.number_at-call.result c.number_at-call.ensures c.requires.filled in
    let some = early.from_one in
    let inside = early.within in
    omega (arith, some, inside)

pub returns : goal.returns
returns c =
    let (image, entry, nests, laid) = c.requires.program in
    let number = c.args.number in
    let context = c.args.context.now in
    let early = call-early image entry c.args.graphs.now nests c.args.layout.now laid number c.args.scopes.now context c.requires.context
    (omega (arith, c.if-number-eq0.false)) c.number_at-call.result c.number_at-call.ensures c.requires.filled in
    call-round c.args.graphs.now c.args.layout.now number c.args.scopes.now context c.requires.context
    (omega (arith, c.if-number-eq0.false)) c.number_at-call.result c.number_at-call.ensures early
