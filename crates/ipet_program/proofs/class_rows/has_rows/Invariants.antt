-- Where the accesses that are left have their rows, all have.
use Rattle.std.proofs.Common.{drop}
use Rattle.std.specs.List.{AllZip}
use Rattle.age_model.specs.Classes.{HasRows, IsRowOf}
use Rattle.ipet_program.proofs.class_rows.has_rows.Given as goal

abbrev pub invariant-loop-index : goal.invariant-loop-index
invariant-loop-index l =
    AllZip (IsRowOf l.net l.profile.levels) (drop l.index l.accesses) (drop l.index l.rows) → HasRows l.net l.profile.levels l.classes
