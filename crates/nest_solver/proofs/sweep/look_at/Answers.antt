-- The arc read from the order is an arc, its source a place, and behind it there is room.
use Rattle.std.proofs.Common.{◌≡◌, ℕ, ◌+◌, ◌≤◌, length, set, arith, subst, ap}
use Rattle.ipet_program.specs.Programs.{crude_limit}
use Rattle.nest_solver.specs.Nets.{entry, round_by}
use Rattle.nest_solver.specs.Plain.{plain}
use Rattle.nest_solver.specs.Shape.{Shape}
use Rattle.nest_solver.specs.Ways.{reach}
use Rattle.nest_solver.proofs.Plains.{order-arc, tables-behind}
use Rattle.nest_solver.proofs.Puts.{Puts, puts-set}
use Rattle.nest_solver.proofs.Sources.{source-within}
use Rattle.nest_solver.proofs.Sweeping.{room-behind, so_far-better, so_far-pass}
use Rattle.nest_solver.proofs.sweep.look_at.Goals as goal

pub returns-then-rest-eq0 : goal.returns-then-rest-eq0
returns-then-rest-eq0 c =
    let net = c.args.net.now in
    let tables = c.args.tables.now in
    let arc = c.index-arc.result.now in
    let found = order-arc net tables c.args.at arc c.requires.tables c.requires.at c.index-arc.ensures in
    let s : Shape = plain net tables in
    let round = round_by net (entry c.args.up.now) in
    let weight = entry c.args.weights.now in
    let best = entry c.args.best.now in
    let choice = entry c.args.choice.now in
    let position = entry tables.order.positions.items in
    let rest : c.behind-rest.result ≡ reach s c.args.depth round best arc = c.behind-rest.ensures.behind in
    record {
      far = so_far-pass s c.args.depth round weight best choice position crude_limit c.args.at arc
          (tables-behind net tables c.requires.tables) found.0 found.1 (λ some. absurd (omega (arith, some, rest, c.if-rest-eq0.true)))
          c.requires.far;
    }

pub offset_bounds-weights-arc : goal.offset_bounds-weights-arc
offset_bounds-weights-arc c =
    let net = c.args.net.now in
    let tables = c.args.tables.now in
    let arc = c.index-arc.result.now in
    let found = order-arc net tables c.args.at arc c.requires.tables c.requires.at c.index-arc.ensures in
    omega (arith, found.0, c.requires.few.arcs)

pub bounds-weights-arc : goal.bounds-weights-arc
bounds-weights-arc c =
    let net = c.args.net.now in
    let tables = c.args.tables.now in
    let arc = c.index-arc.result.now in
    let found = order-arc net tables c.args.at arc c.requires.tables c.requires.at c.index-arc.ensures in
    omega (arith, found.0, c.requires.weights)

pub overflow_add-way : goal.overflow_add-way
overflow_add-way c =
    let net = c.args.net.now in
    let tables = c.args.tables.now in
    let arc = c.index-arc.result.now in
    let found = order-arc net tables c.args.at arc c.requires.tables c.requires.at c.index-arc.ensures in
    let s : Shape = plain net tables in
    let round = round_by net (entry c.args.up.now) in
    let weight = entry c.args.weights.now in
    let best = entry c.args.best.now in
    let choice = entry c.args.choice.now in
    let position = entry tables.order.positions.items in
    let rest : c.behind-rest.result ≡ reach s c.args.depth round best arc = c.behind-rest.ensures.behind in
    omega (
      arith,
      rest,
      room-behind s c.args.depth round weight best choice position crude_limit c.args.at arc c.requires.far found.0
          (omega (arith, rest, c.if-rest-eq0.false)),
      c.requires.far.room.small (s.from arc),
    )

pub source-from-requires : goal.source-from-requires
source-from-requires c =
    let net = c.args.net.now in
    let tables = c.args.tables.now in
    let arc = c.index-arc.result.now in
    let found = order-arc net tables c.args.at arc c.requires.tables c.requires.at c.index-arc.ensures in
    found.0

pub offset_bounds-best-from : goal.offset_bounds-best-from
offset_bounds-best-from c =
    let net = c.args.net.now in
    let tables = c.args.tables.now in
    let arc = c.index-arc.result.now in
    let found = order-arc net tables c.args.at arc c.requires.tables c.requires.at c.index-arc.ensures in
    let within : c.source-from.result ≤ length net.places =
    omega (arith, c.source-from.ensures, source-within net c.requires.nested arc found.0) in
    omega (arith, within, c.requires.few.places)

pub offset_bounds-best-from-2 : goal.offset_bounds-best-from-2
offset_bounds-best-from-2 c =
    let net = c.args.net.now in
    let tables = c.args.tables.now in
    let arc = c.index-arc.result.now in
    let found = order-arc net tables c.args.at arc c.requires.tables c.requires.at c.index-arc.ensures in
    let within : c.source-from.result ≤ length net.places =
    omega (arith, c.source-from.ensures, source-within net c.requires.nested arc found.0) in
    omega (arith, within, c.requires.few.places)

pub offset_bounds-choice-from : goal.offset_bounds-choice-from
offset_bounds-choice-from c =
    let net = c.args.net.now in
    let tables = c.args.tables.now in
    let arc = c.index-arc.result.now in
    let found = order-arc net tables c.args.at arc c.requires.tables c.requires.at c.index-arc.ensures in
    let within : c.source-from.result ≤ length net.places =
    omega (arith, c.source-from.ensures, source-within net c.requires.nested arc found.0) in
    omega (arith, within, c.requires.few.places)

pub bounds-best-from : goal.bounds-best-from
bounds-best-from c =
    let net = c.args.net.now in
    let tables = c.args.tables.now in
    let arc = c.index-arc.result.now in
    let found = order-arc net tables c.args.at arc c.requires.tables c.requires.at c.index-arc.ensures in
    let within : c.source-from.result ≤ length net.places =
    omega (arith, c.source-from.ensures, source-within net c.requires.nested arc found.0) in
    omega (arith, within, c.requires.best)

pub bounds-best-from-2 : goal.bounds-best-from-2
bounds-best-from-2 c =
    let net = c.args.net.now in
    let tables = c.args.tables.now in
    let arc = c.index-arc.result.now in
    let found = order-arc net tables c.args.at arc c.requires.tables c.requires.at c.index-arc.ensures in
    let within : c.source-from.result ≤ length net.places =
    omega (arith, c.source-from.ensures, source-within net c.requires.nested arc found.0) in
    omega (arith, within, c.requires.best)

pub bounds-choice-from : goal.bounds-choice-from
bounds-choice-from c =
    let net = c.args.net.now in
    let tables = c.args.tables.now in
    let arc = c.index-arc.result.now in
    let found = order-arc net tables c.args.at arc c.requires.tables c.requires.at c.index-arc.ensures in
    let within : c.source-from.result ≤ length net.places =
    omega (arith, c.source-from.ensures, source-within net c.requires.nested arc found.0) in
    omega (arith, within, c.requires.choice)

pub returns-then-way-best : goal.returns-then-way-best
returns-then-way-best c =
    let net = c.args.net.now in
    let tables = c.args.tables.now in
    let arc = c.index-arc.result.now in
    let found = order-arc net tables c.args.at arc c.requires.tables c.requires.at c.index-arc.ensures in
    let s : Shape = plain net tables in
    let round = round_by net (entry c.args.up.now) in
    let weight = entry c.args.weights.now in
    let best = entry c.args.best.now in
    let choice = entry c.args.choice.now in
    let position = entry tables.order.positions.items in
    let rest : c.behind-rest.result ≡ reach s c.args.depth round best arc = c.behind-rest.ensures.behind in
    record {
      far = so_far-pass s c.args.depth round weight best choice position crude_limit c.args.at arc
          (tables-behind net tables c.requires.tables) found.0 found.1
          (λ some. omega (arith, rest, c.if-way-best.true, ap best c.source-from.ensures)) c.requires.far;
    }

pub returns : goal.returns
returns c =
    let net = c.args.net.now in
    let tables = c.args.tables.now in
    let arc = c.index-arc.result.now in
    let found = order-arc net tables c.args.at arc c.requires.tables c.requires.at c.index-arc.ensures in
    let s : Shape = plain net tables in
    let round = round_by net (entry c.args.up.now) in
    let weight = entry c.args.weights.now in
    let best = entry c.args.best.now in
    let choice = entry c.args.choice.now in
    let position = entry tables.order.positions.items in
    let rest : c.behind-rest.result ≡ reach s c.args.depth round best arc = c.behind-rest.ensures.behind in
    let within : c.source-from.result ≤ length net.places =
    omega (arith, c.source-from.ensures, source-within net c.requires.nested arc found.0) in
    let way = weight arc + c.behind-rest.result in
    let from = c.source-from.result in
    let best2 = set c.args.best.now from way in
    let choice2 = set c.args.choice.now from arc in
    record {
      far = so_far-better s c.args.depth round weight best (entry best2) choice (entry choice2) position crude_limit c.args.at arc
          (tables-behind net tables c.requires.tables) found.0 found.1
          (omega (arith, rest, c.if-rest-eq0.false))
          (omega (arith, rest, c.if-way-best.false, ap best c.source-from.ensures))
          (subst (λ (p : ℕ). Puts best (entry best2) p (weight arc + reach s c.args.depth round best arc))
          c.source-from.ensures
          (subst (λ (r : ℕ). Puts best (entry best2) from (weight arc + r)) rest
          (puts-set c.args.best.now from way (omega (arith, within, c.requires.best)))))
          (subst (λ (p : ℕ). Puts choice (entry choice2) p arc) c.source-from.ensures
          (puts-set c.args.choice.now from arc (omega (arith, within, c.requires.choice))))
          c.requires.far;
    }
