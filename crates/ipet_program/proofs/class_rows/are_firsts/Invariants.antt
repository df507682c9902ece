-- The entries so far name scopes that hold the place.
use Rattle.std.proofs.Common.{All, take}
use Rattle.flow_net.specs.declared.letter.Level2.{Level2}
use Rattle.age_model.specs.Classes.{NamesHolding}
use Rattle.ipet_program.proofs.class_rows.are_firsts.Given as goal

abbrev pub invariant-loop-entry : goal.invariant-loop-entry
invariant-loop-entry l = All (λ (entry : Level2). NamesHolding l.net l.place entry.class) (take l.entry-index l.row)
