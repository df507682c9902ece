-- Each arc is taken off in the row of the loop instance that it enters.
use Rattle.std.proofs.Common.{◌≡◌, ℕ, ◌+◌, negsuc, length, get_or, subst, sym, ap, ◌∙◌, arith}
use Rattle.flow_net.specs.declared.net.NetArc.{NetArc}
use Rattle.ipet_program.specs.StageTables.{entering_row}
use Rattle.ipet_program.specs.Sums.{numbered}
use Rattle.ipet_program.specs.Tables.{grown}
use Rattle.ipet_program.proofs.ArcRows.{entering_rows-next}
use Rattle.ipet_program.proofs.Numbered.{item-read, length-numbered}
use Rattle.ipet_program.proofs.arc_rows.add_entering.Goals as goal

pub add_at-requires : goal.add_at-requires
add_at-requires c =
    let net = c.args.net.now in
    let long : length c.loop-index.rows ≡ length net.loops =
    ap length c.loop-index.invariant ∙ length-numbered (entering_row net c.loop-index.index) (length net.loops) in
    record { number = omega (arith, long, c.entered_by-scope.ensures.entered.within) }

pub loop-index-preserved : goal.loop-index-preserved
loop-index-preserved c =
    let net = c.args.net.now in
    let index = c.loop-index.index in
    let none : NetArc = record { from = 0; to = 0 } in
    let rows = c.loop-index.rows in
    let long : length net.loops ≡ length rows =
    sym (ap length c.loop-index.invariant ∙ length-numbered (entering_row net index) (length net.loops)) in
    let known : rows ≡ numbered (entering_row net index) (length rows) =
    subst (λ (n : ℕ). rows ≡ numbered (entering_row net index) n) long c.loop-index.invariant in
    subst (λ (n : ℕ). c.add_at.new.rows ≡ numbered (grown (entering_row net index) c.entered_by-scope.result (index + 1) (negsuc 0)) n)
    (sym long) (c.in_ok-add_at.ensures.rows (entering_row net index) known)
    ∙ entering_rows-next net index (get_or c.as_slice-arcs.result.now index none) c.entered_by-scope.result
    c.entered_by-scope.ensures.entered
    (item-read net.arcs c.as_slice-arcs.result.now index none (sym c.as_slice-arcs.ensures) c.loop-index-test.true)
