use Rattle.std.proofs.Common.{ℕ, ◌+◌, ◌<◌, length, set, sym, ◌∙◌, arith, subst}
use Rattle.nest_solver.specs.Nets.{entry}
use Rattle.nest_solver.specs.Orders.{arcs_of}
use Rattle.nest_solver.proofs.Latest.{latest-more, latest-rises}
use Rattle.nest_solver.proofs.Plains.{order-arc, tables-behind}
use Rattle.nest_solver.proofs.Puts.{Puts, puts-set}
use Rattle.nest_solver.proofs.Sources.{source-within}
use Rattle.nest_solver.proofs.base.note_latest.Goals as goal

pub loop-at-preserved : goal.loop-at-preserved
loop-at-preserved c =
    let net = c.args.net.now in
    let tables = c.args.tables.now in
    let a = arcs_of net tables.backs.items in
    let position = entry tables.order.positions.items in
    let at = c.loop-at.at in
    let arc = c.index-arc.result.now in
    let low : at < length tables.order.arcs.items =
    omega (arith, c.loop-at-test.true, c.len-at-end.ensures, tables.order.arcs.ok.0) in
    let found = order-arc net tables at arc c.requires.tables low c.index-arc.ensures in
    let behind = tables-behind net tables c.requires.tables in
    latest-more a position (entry c.loop-at.latest) (entry (set c.loop-at.latest c.source.result (at + 1))) at arc found.0
    found.1 (λ i u e. behind.one i arc u found.0 (e ∙ sym found.1)) c.loop-at.invariant
    (subst (λ (p : ℕ). Puts (entry c.loop-at.latest) (entry (set c.loop-at.latest c.source.result (at + 1))) p (at + 1))
    c.source.ensures
    (puts-set c.loop-at.latest c.source.result (at + 1)
    (omega (
      arith,
      c.source.ensures,
      source-within net c.requires.nested arc found.0,
      c.requires.room,
      c.loop-at.auto.latest,
    ))))

pub returns : goal.returns
returns c =
    let net = c.args.net.now in
    let tables = c.args.tables.now in
    record {
      ranks = record {
        small = λ p. omega (
          arith,
          c.loop-at.invariant.low p,
          c.requires.tables.order.short,
          c.loop-at.auto.at-end,
          c.len-at-end.ensures,
          tables.order.arcs.ok.0,
        );
        rises = latest-rises net tables (entry c.loop-at.latest) c.loop-at.at c.requires.tables
            (omega (arith, c.requires.tables.order.short, c.loop-at.auto.at-end, c.len-at-end.ensures, tables.order.arcs.ok.0))
            (λ i u. omega (
              arith,
              c.requires.tables.order.all i u,
              c.loop-at-test.false,
              c.len-at-end.ensures,
              tables.order.arcs.ok.0,
            ))
            c.loop-at.invariant;
      };
    }
