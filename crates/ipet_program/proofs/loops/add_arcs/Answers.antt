-- Each arc is added to the row of its end's loop instance.
use Rattle.std.proofs.Common.{◌≡◌, ℕ, ◌+◌, length, get_or, subst, sym, ◌∙◌}
use Rattle.flow_net.specs.declared.net.NetArc.{NetArc}
use Rattle.ipet_program.specs.Sums.{numbered}
use Rattle.ipet_program.specs.Tables.{loop_row_to}
use Rattle.ipet_program.proofs.Numbered.{item-read}
use Rattle.ipet_program.proofs.LoopRows.{loop_rows-next}
use Rattle.ipet_program.proofs.loops.add_arcs.Goals as goal

pub loop-index-preserved : goal.loop-index-preserved
loop-index-preserved c =
    let net = c.args.net.now in
    let index = c.loop-index.index in
    let none : NetArc = record { from = 0; to = 0 } in
    let rows = c.loop-index.rows in
    let kept : length rows ≡ length net.loops = c.loop-index.auto.rows ∙ c.requires.count in
    let known : rows ≡ numbered (loop_row_to net index) (length rows) =
    subst (λ (n : ℕ). rows ≡ numbered (loop_row_to net index) n) (sym kept)
    c.loop-index.invariant in
    let next : c.add_arc.new.rows ≡ numbered (loop_row_to net (index + 1)) (length rows) =
    c.in_ok-add_arc.ensures.rows (loop_row_to net index) known
    ∙ loop_rows-next net index (length rows) (get_or c.as_slice-arcs.result.now index none)
    (item-read net.arcs c.as_slice-arcs.result.now index none (sym c.as_slice-arcs.ensures) c.loop-index-test.true) in
    subst (λ (n : ℕ). c.add_arc.new.rows ≡ numbered (loop_row_to net (index + 1)) n) kept next
