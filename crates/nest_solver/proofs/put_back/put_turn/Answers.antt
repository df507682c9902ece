-- A loop with a way back to its header is walked round, another one is passed over.
use Rattle.std.proofs.Common.{◌≡◌, ℕ, ◌-◌, ◌*◌, ◌<◌, sym, ap, subst, ◌∙◌, arith}
use Rattle.nest_solver.specs.Nets.{entry}
use Rattle.nest_solver.specs.Plain.{plain}
use Rattle.nest_solver.specs.Walks.{IsWalkable, IsWalked}
use Rattle.nest_solver.proofs.Plains.{tables-nest}
use Rattle.nest_solver.proofs.Turning.{turn-none, turn-often, turn-walkable, turn-walked}
use Rattle.nest_solver.proofs.put_back.put_turn.Goals as goal

pub offset_bounds-best-head : goal.offset_bounds-best-head
offset_bounds-best-head c =
    let nest = tables-nest c.args.net.now c.args.tables.now c.requires.nested c.requires.tables in
    omega (arith, c.header-head.ensures, nest.headers c.args.scope c.requires.scope, c.requires.few.places)

pub bounds-best-head : goal.bounds-best-head
bounds-best-head c =
    let nest = tables-nest c.args.net.now c.args.tables.now c.requires.nested c.requires.tables in
    omega (arith, c.header-head.ensures, nest.headers c.args.scope c.requires.scope, c.requires.best)

pub returns-then-best-head-eq0 : goal.returns-then-best-head-eq0
returns-then-best-head-eq0 c =
    let nest = tables-nest c.args.net.now c.args.tables.now c.requires.nested c.requires.tables in
    record {
      put = λ value turns start path total next at less between.
          turn-none (plain c.args.net.now c.args.tables.now) value turns path total c.args.depth c.args.scope
          (entry c.args.best.now) (entry c.args.choice.now) (entry c.args.often.now) start (entry c.args.counts.now) nest
          c.requires.scope c.requires.deep at next
          (ap (entry c.args.best.now) (sym c.header-head.ensures) ∙ c.if-best-head-eq0.true) less between;
    }

pub overflow_sub-bound : goal.overflow_sub-bound
overflow_sub-bound c =
    let nest = tables-nest c.args.net.now c.args.tables.now c.requires.nested c.requires.tables in
    omega (arith, c.bound.ensures, nest.bounds c.args.scope c.requires.scope)

pub overflow_mul-more : goal.overflow_mul-more
overflow_mul-more c =
    let nest = tables-nest c.args.net.now c.args.tables.now c.requires.nested c.requires.tables in
    let s = plain c.args.net.now c.args.tables.now in
    let turn = c.requires.turn in
    let some : 0 < entry c.args.best.now (s.header c.args.scope) =
    omega (arith, ap (entry c.args.best.now) c.header-head.ensures, c.if-best-head-eq0.false) in
    let few = turn-often s turn.value turn.turns turn.path turn.total c.args.depth c.args.scope (entry c.args.best.now)
    (entry c.args.choice.now) (entry c.args.often.now) turn.start (entry c.args.counts.now) nest c.requires.scope
    c.requires.deep turn.turn some in
    let times : c.from.result ≡ s.bound c.args.scope - 1 = omega (arith, c.from.ensures, c.bound.ensures) in
    omega (arith, few, ap (λ (n : ℕ). n * entry c.args.often.now c.args.scope) times)

pub walk-requires-clause-walkable : goal.walk-requires-clause-walkable
walk-requires-clause-walkable c =
    let nest = tables-nest c.args.net.now c.args.tables.now c.requires.nested c.requires.tables in
    let s = plain c.args.net.now c.args.tables.now in
    let turn = c.requires.turn in
    let some : 0 < entry c.args.best.now (s.header c.args.scope) =
    omega (arith, ap (entry c.args.best.now) c.header-head.ensures, c.if-best-head-eq0.false) in
    let times : s.bound c.args.scope - 1 ≡ c.from.result = omega (arith, c.from.ensures, c.bound.ensures) in
    subst
    (λ (from : ℕ). IsWalkable s c.args.depth (entry c.args.choice.now) from
    (c.from.result * entry c.args.often.now c.args.scope) (entry c.args.counts.now)) (sym c.header-head.ensures)
    (subst
    (λ (n : ℕ). IsWalkable s c.args.depth (entry c.args.choice.now) (s.header c.args.scope)
    (n * entry c.args.often.now c.args.scope) (entry c.args.counts.now)) times
    (turn-walkable s turn.value turn.turns turn.path turn.total c.args.depth c.args.scope (entry c.args.best.now)
    (entry c.args.choice.now) (entry c.args.often.now) turn.start (entry c.args.counts.now) nest c.requires.scope
    c.requires.deep turn.turn some))

pub returns : goal.returns
returns c =
    let nest = tables-nest c.args.net.now c.args.tables.now c.requires.nested c.requires.tables in
    let s = plain c.args.net.now c.args.tables.now in
    let some : 0 < entry c.args.best.now (s.header c.args.scope) =
    omega (arith, ap (entry c.args.best.now) c.header-head.ensures, c.if-best-head-eq0.false) in
    let times : c.from.result ≡ s.bound c.args.scope - 1 = omega (arith, c.from.ensures, c.bound.ensures) in
    let walked : IsWalked s c.args.depth (entry c.args.choice.now) (s.header c.args.scope)
    ((s.bound c.args.scope - 1) * entry c.args.often.now c.args.scope) (entry c.args.counts.now)
    (entry c.walk.new.counts) =
    subst
    (λ (from : ℕ). IsWalked s c.args.depth (entry c.args.choice.now) from
    ((s.bound c.args.scope - 1) * entry c.args.often.now c.args.scope) (entry c.args.counts.now)
    (entry c.walk.new.counts)) c.header-head.ensures
    (subst
    (λ (n : ℕ). IsWalked s c.args.depth (entry c.args.choice.now) c.header-head.result
    (n * entry c.args.often.now c.args.scope) (entry c.args.counts.now) (entry c.walk.new.counts)) times
    c.walk.ensures.walked) in
    record {
      put = λ value turns start path total next at less between.
          turn-walked s value turns path total c.args.depth c.args.scope (entry c.args.best.now)
          (entry c.args.choice.now) (entry c.args.often.now) start (entry c.args.counts.now) nest c.requires.scope
          c.requires.deep at (entry c.walk.new.counts) next some walked less between;
    }
