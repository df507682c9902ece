-- The three kinds of rows of a stage stand behind the rows before them.
use Rattle.std.proofs.Common.{◌≡◌, ◌≤◌, ◌++◌, ◌∷◌, [], List, length, map, refl, sym, ap, ◌∙◌}
use Rattle.std.proofs.lemmas.Result.{on_ok_weaker}
use Rattle.ipet_program.specs.StageRows.{chain_row, first_row, zero_rows}
use Rattle.ipet_program.specs.StageTables.{entering_row, into_row}
use Rattle.ipet_program.specs.declared.program.Row.{Row}
use Rattle.ipet_program.proofs.ArcRows.{three-kinds}
use Rattle.ipet_program.proofs.Growth.{rows-made}
use Rattle.ipet_program.proofs.stage_rows.add_stage.Goals as goal

pub returns : goal.returns
returns c =
    on_ok_weaker c.add_firsts.result
    (λ made net some has.
    let stage = c.args.stage.now in
    let column = c.args.column in
    let into = rows-made (into_row net.arcs (length net.arcs)) (length net.places) c.args.into.now c.args.into.now refl has.into in
    let entering = rows-made (entering_row net (length net.arcs)) (length net.loops) c.args.entering.now c.args.entering.now refl has.entering in
    let row : c.in_ok-chain_row.field-0 ≡ chain_row net.arcs stage.place stage.before column = c.in_ok-chain_row.ensures net.arcs into in
    let chained : c.push.new.self.items ≡ c.args.rows.now.items ++ chain_row net.arcs stage.place stage.before column ∷ [] =
    c.in_ok-push.ensures.items ∙ ap (λ (r : Row). c.args.rows.now.items ++ r ∷ []) row in
    three-kinds c.args.rows.now.items c.push.new.self.items c.add_zero.new.rows.items c.add_firsts.new.rows.items
    (zero_rows stage.never column) (map (first_row net column) stage.firsts)
    (chain_row net.arcs stage.place stage.before column) chained c.in_ok-add_zero.ensures
    (made net some entering ∙ ap (λ scopes. c.add_zero.new.rows.items ++ map (first_row net column) scopes) c.as_slice.ensures))
    c.add_firsts.ensures
