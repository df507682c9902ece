-- The factors and the right side are small.
use Rattle.std.proofs.Common.{FitsSigned, true, refl, ◌∙◌, rules}
use Rattle.std.specs.Int.{w64}
use Rattle.std.proofs.lemmas.Int.{to_z-of_z}
use Rattle.cert_check.proofs.CheckedProgram.{small-row}
use Rattle.cert_check.proofs.tests.checks.row_of.Goals as goal

pub returns : goal.returns
returns c =
    let first : FitsSigned w64 c.args.first = search rules in
    let second : FitsSigned w64 c.args.second = search rules in
    let right : FitsSigned w64 c.args.right = search rules in
    let terms = simp to_z-of_z at (c.from_vec.ensures ∙ c.in_ok-terms.ensures.items) in
    simp to_z-of_z
    (small-row (record { equal = true; terms = c.from_vec.result; right = c.args.right }) c.args.first
    c.args.second c.args.right terms refl c.requires.first c.requires.second c.requires.right)
