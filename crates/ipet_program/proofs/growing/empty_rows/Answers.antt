-- Each row stands behind those before it.
use Rattle.std.proofs.Common.{ℕ, List, pos, ap}
use Rattle.ipet_program.specs.declared.program.Term.{Term}
use Rattle.ipet_program.specs.Tables.{empty_row}
use Rattle.ipet_program.proofs.Numbered.{numbered-push}
use Rattle.ipet_program.proofs.growing.empty_rows.Goals as goal

pub loop-preserved : goal.loop-preserved
loop-preserved c =
    numbered-push (λ (number : ℕ). empty_row c.args.equal) c.loop.counter c.loop.rows.items c.push.new.self.items _
    c.loop.invariant c.in_ok-push.ensures.items
    (ap (λ (terms : List Term). record { equal = c.args.equal; terms = terms; right = pos 0 }) c.new.ensures)
