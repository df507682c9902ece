-- Each arc is taken off in the row of its end.
use Rattle.std.proofs.Common.{◌≡◌, ℕ, ◌+◌, length, get_or, refl, subst, sym, ◌∙◌}
use Rattle.flow_net.specs.declared.net.NetArc.{NetArc}
use Rattle.ipet_program.specs.StageTables.{into_row}
use Rattle.ipet_program.specs.Sums.{numbered}
use Rattle.ipet_program.proofs.ArcRows.{into_rows-next}
use Rattle.ipet_program.proofs.Numbered.{item-read}
use Rattle.ipet_program.proofs.arc_rows.add_into.Goals as goal

pub loop-index-preserved : goal.loop-index-preserved
loop-index-preserved c =
    let arcs = c.args.arcs.now in
    let index = c.loop-index.index in
    let none : NetArc = record { from = 0; to = 0 } in
    let rows = c.loop-index.rows in
    let kept : length rows ≡ length c.args.rows.now = c.loop-index.auto.rows in
    let known : rows ≡ numbered (into_row arcs index) (length rows) =
    subst (λ (n : ℕ). rows ≡ numbered (into_row arcs index) n) (sym kept) c.loop-index.invariant in
    let next : c.add_at.new.rows ≡ numbered (into_row arcs (index + 1)) (length rows) =
    c.in_ok-add_at.ensures.rows (into_row arcs index) known
    ∙ into_rows-next arcs index (length rows) (get_or arcs index none)
    (item-read arcs arcs index none refl c.loop-index-test.true) in
    subst (λ (n : ℕ). c.add_at.new.rows ≡ numbered (into_row arcs (index + 1)) n) kept next
