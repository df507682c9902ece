-- The term of arc 1 is the only one.
use Rattle.std.proofs.Common.{◌∙◌, ap, ◌∷◌, ◌++◌, [], List, pos}
use Rattle.ipet_program.specs.declared.program.Term.{Term}
use Rattle.ipet_program.proofs.EntryRow.{entry-row}
use Rattle.ipet_program.proofs.rows.entry_row.Goals as goal

pub returns : goal.returns
returns c = record {
  row = λ columns some.
      entry-row c.push.new.self columns
      (c.in_ok-push.ensures.ok
      ∙ ap (λ (terms : List Term). terms ++ record { column = 1; factor = pos 1 } ∷ []) c.new-terms.ensures)
      some;
}
