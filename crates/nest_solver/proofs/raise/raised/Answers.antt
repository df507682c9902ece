-- The loop round the place is a loop instance, and its header a place.
use Rattle.std.proofs.Common.{arith}
use Rattle.nest_solver.specs.Nets.{entry}
use Rattle.nest_solver.proofs.Heading.{header-up}
use Rattle.nest_solver.proofs.Plains.{round-here}
use Rattle.nest_solver.proofs.raise.raised.Goals as goal

pub header-requires : goal.header-requires
header-requires c =
    let found = round-here c.args.net.now c.args.tables.now (entry c.args.up.now) c.args.place c.round-scope.result
    c.requires.nested c.requires.tables c.requires.up c.round-scope.ensures.round c.if-scope-eq0.false in
    found

pub offset_bounds-worths-header : goal.offset_bounds-worths-header
offset_bounds-worths-header c =
    let found = round-here c.args.net.now c.args.tables.now (entry c.args.up.now) c.args.place c.round-scope.result
    c.requires.nested c.requires.tables c.requires.up c.round-scope.ensures.round c.if-scope-eq0.false in
    let head = header-up c.args.net.now c.requires.nested c.round-scope.result found in
    omega (arith, c.header.ensures, head, c.requires.few.places)

pub bounds-worths-header : goal.bounds-worths-header
bounds-worths-header c =
    let found = round-here c.args.net.now c.args.tables.now (entry c.args.up.now) c.args.place c.round-scope.result
    c.requires.nested c.requires.tables c.requires.up c.round-scope.ensures.round c.if-scope-eq0.false in
    let head = header-up c.args.net.now c.requires.nested c.round-scope.result found in
    omega (arith, c.header.ensures, head, c.requires.worths)

pub offset_bounds-turns-scope : goal.offset_bounds-turns-scope
offset_bounds-turns-scope c =
    let found = round-here c.args.net.now c.args.tables.now (entry c.args.up.now) c.args.place c.round-scope.result
    c.requires.nested c.requires.tables c.requires.up c.round-scope.ensures.round c.if-scope-eq0.false in
    omega (arith, found, c.requires.few.loops)

pub bounds-turns-scope : goal.bounds-turns-scope
bounds-turns-scope c =
    let found = round-here c.args.net.now c.args.tables.now (entry c.args.up.now) c.args.place c.round-scope.result
    c.requires.nested c.requires.tables c.requires.up c.round-scope.ensures.round c.if-scope-eq0.false in
    omega (arith, found, c.requires.turns)
