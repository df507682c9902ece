use Rattle.std.proofs.Common.{subst, sym}
use Rattle.unit_graph.specs.Rows.{AreRows, Rise}
use Rattle.unit_graph.proofs.Exploring.{IsProgram-explored}
use Rattle.unit_graph.proofs.program.explore.Goals as goal

pub returning_of-requires : goal.returning_of-requires
returning_of-requires c =
    (c.args.image.now, c.args.entry, subst (AreRows c.args.image.now c.args.entry) (sym c.deref.ensures.value) c.in_ok-rows.ensures)

pub led_from-requires-clause-rising : goal.led_from-requires-clause-rising
led_from-requires-clause-rising c = subst Rise (sym c.deref-2.ensures.value) c.in_ok-rows.ensures.rising

pub led_from-requires-clause-each : goal.led_from-requires-clause-each
led_from-requires-clause-each c =
    (c.args.image.now, (subst (AreRows c.args.image.now c.args.entry) (sym c.deref-2.ensures.value) c.in_ok-rows.ensures).each)

pub functions_of-requires : goal.functions_of-requires
functions_of-requires c = subst Rise (sym c.deref-3.ensures.value) c.in_ok-rows.ensures.rising

pub returns : goal.returns
returns c =
    let parts = IsProgram-explored c.args.image.now c.args.entry c.in_ok-rows.rows.items c.in_ok-returning.returning.keys
    c.in_ok-led.led.keys c.in_ok-code.code.items c.in_ok-functions.functions.items
    c.in_ok-rows.ensures c.deref.result.now c.deref.ensures.value c.in_ok-returning.ensures
    c.deref-2.result.now c.deref-2.ensures.value c.in_ok-led.ensures c.in_ok-code.ensures
    c.deref-3.result.now c.deref-3.ensures.value c.deref-4.result.now c.deref-4.ensures.value c.in_ok-functions.ensures in
    record {
      rows = parts.rows_are;
      returning = parts.returning_are;
      code = parts.code_is;
      functions = parts.functions_are;
    }
