-- The rows, values and caps are those that are written.
use Rattle.std.proofs.Common.{◌∙◌}
use Rattle.cert_check.proofs.CheckedProgram.{checkable-program}
use Rattle.cert_check.proofs.tests.checks.program.Goals as goal

pub returns : goal.returns
returns c =
    checkable-program c.from_vec.result c.from_vec-2.result c.from_vec-3.result c.new.result c.in_ok-entry.entry
    c.in_ok-place.place (c.from_vec.ensures ∙ c.in_ok-rows.ensures.items)
    (c.from_vec-2.ensures ∙ c.in_ok-value.ensures.items) (c.from_vec-3.ensures ∙ c.in_ok-caps.ensures.items)
    c.in_ok-entry.ensures c.in_ok-place.ensures
