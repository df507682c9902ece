-- The rows of all loop instances have the terms of all arcs.
use Rattle.std.proofs.Common.{ℕ, false, length, ◌∙◌, arith}
use Rattle.ipet_program.specs.Rows.{loop_row}
use Rattle.ipet_program.specs.Tables.{empty_row}
use Rattle.ipet_program.proofs.Growth.{rows-back, rows-count}
use Rattle.ipet_program.proofs.LoopRows.{loop_rows-whole}
use Rattle.ipet_program.proofs.loops.loop_rows.Goals as goal

pub add_arcs-requires-clause-count : goal.add_arcs-requires-clause-count
add_arcs-requires-clause-count c =
    rows-count (λ (number : ℕ). empty_row false) c.deref_mut.result.now c.in_ok-rows.rows.items c.as_slice.result.now
    c.args.net.now.loops c.deref_mut.ensures.value c.in_ok-rows.ensures.rows c.as_slice.ensures

pub returns : goal.returns
returns c = record {
  rows =
      let net = c.args.net.now in
      rows-back (loop_row net) c.in_ok-rows.rows.len (length net.loops) (length net.loops) c.add_arcs.new.rows _
      (omega (arith, c.add_arcs.auto.rows, c.deref_mut.ensures.len))
      (c.in_ok-add_arcs.ensures.rows ∙ loop_rows-whole net (length net.loops))
      (λ _. length net.loops);
}
