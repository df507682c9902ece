-- Each arc is added to the rows of its ends.
use Rattle.std.proofs.Common.{◌≡◌, ℕ, ◌+◌, length, get_or, refl, subst, sym, ◌∙◌}
use Rattle.flow_net.specs.declared.net.NetArc.{NetArc}
use Rattle.ipet_program.specs.Sums.{numbered}
use Rattle.ipet_program.specs.Tables.{place_row_to}
use Rattle.ipet_program.proofs.Numbered.{item-read}
use Rattle.ipet_program.proofs.PlaceRows.{place_rows-next}
use Rattle.ipet_program.proofs.places.add_arcs.Goals as goal

pub loop-index-preserved : goal.loop-index-preserved
loop-index-preserved c =
    let arcs = c.args.arcs.now in
    let index = c.loop-index.index in
    let none : NetArc = record { from = 0; to = 0 } in
    let rows = c.loop-index.rows in
    let kept : length rows ≡ length c.args.rows.now = c.loop-index.auto.rows in
    let known : rows ≡ numbered (place_row_to arcs index) (length rows) =
    subst (λ (n : ℕ). rows ≡ numbered (place_row_to arcs index) n) (sym kept) c.loop-index.invariant in
    let next : c.add_arc.new.rows ≡ numbered (place_row_to arcs (index + 1)) (length rows) =
    c.in_ok-add_arc.ensures.rows (place_row_to arcs index) known
    ∙ place_rows-next arcs index (length rows) (get_or arcs index none)
    (item-read arcs arcs index none refl c.loop-index-test.true) in
    subst (λ (n : ℕ). c.add_arc.new.rows ≡ numbered (place_row_to arcs (index + 1)) n) kept next
