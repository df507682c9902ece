-- The arcs that enter the scope are those of its row; arc 1 enters the run.
use Rattle.std.proofs.Common.{◌≡◌, ℕ, List, [], pos, ap, ◌∙◌, arith}
use Rattle.std.proofs.lemmas.Result.{IfOk-weaker}
use Rattle.flow_net.specs.declared.net.NetArc.{NetArc}
use Rattle.ipet_program.specs.StageRows.{chain_row}
use Rattle.ipet_program.specs.Tables.{with_term}
use Rattle.ipet_program.specs.declared.program.Row.{Row}
use Rattle.ipet_program.proofs.ArcRows.{first-loop, first-run}
use Rattle.ipet_program.proofs.stage_rows.first_row.Goals as goal

pub returns-then-scope-eq0 : goal.returns-then-scope-eq0
returns-then-scope-eq0 c =
    IfOk-weaker c.after_row.result (λ (row : Row). (arcs : List NetArc) (place : ℕ) → row ≡ chain_row arcs place 1 c.args.column) _
    (λ row made net some known. made [] 0 ∙ first-run net c.args.column c.args.scope some c.if-scope-eq0.true)
    c.after_row.ensures

pub returns : goal.returns
returns c =
    IfOk-weaker c.with_column.result (λ (made : Row). made ≡ with_term c.index-entering-scope.result c.args.column (pos 1)) _
    (λ row made net some known. made ∙ ap (λ (r : Row). with_term r c.args.column (pos 1)) c.index-entering-scope.is
    ∙ first-loop net c.args.entering.now c.args.scope c.args.column c.index-entering-scope.result (omega arith) c.requires known)
    c.with_column.ensures
