-- The arcs into the stage's place are those of its row.
use Rattle.std.proofs.Common.{◌≡◌, pos, ap, ◌∙◌}
use Rattle.std.proofs.lemmas.Result.{IfOk-weaker}
use Rattle.ipet_program.specs.Tables.{with_term}
use Rattle.ipet_program.specs.declared.program.Row.{Row}
use Rattle.ipet_program.proofs.ArcRows.{chain-first}
use Rattle.ipet_program.proofs.stage_rows.chain_row.Goals as goal

pub returns-then-stage-eq0 : goal.returns-then-stage-eq0
returns-then-stage-eq0 c =
    IfOk-weaker c.with_column.result (λ (made : Row). made ≡ with_term c.index-into-stage.result c.args.column (pos 1)) _
    (λ row made arcs known. made ∙ ap (λ (r : Row). with_term r c.args.column (pos 1)) c.index-into-stage.is
    ∙ chain-first arcs c.args.into.now c.args.stage.now.place c.args.stage.now.before c.args.column
    c.index-into-stage.result c.requires c.if-stage-eq0.true known)
    c.with_column.ensures
