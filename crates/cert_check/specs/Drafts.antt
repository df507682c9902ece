-- A certificate as far as it is read.
use Rattle.std.specs.Prelude.{[], ◌∷◌, ◌++◌}
use Rattle.cert_check.specs.declared.draft.Draft.{Draft}
use Rattle.cert_check.specs.declared.line.Line.{Line}
use Rattle.cert_check.specs.declared.line.Line.TheVariants.{Bound, Reached, Value, Tree, Last}

-- It with what a line says.
abbrev pub with_line : Draft → Line → Draft
with_line draft (Bound bound) = record draft { bound = bound }
with_line draft (Reached reached) = record draft { reached = reached }
with_line draft (Value count) = record draft { counts = draft.counts ++ count ∷ [] }
with_line draft (Tree node) = record draft { tree = draft.tree ++ node ∷ [] }
with_line draft Last = draft
