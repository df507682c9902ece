-- The rows of further stages.
use Rattle.std.specs.Prelude.{ℕ, zero, suc, ◌==◌, Bool, true, false, ℤ, pos, negsuc, ◌-ℤ◌, List, [], ◌∷◌, ◌++◌, length, map, Option, Some, None, if◌then◌else◌}
use Rattle.flow_net.specs.Numbers.{item_at}
use Rattle.flow_net.specs.Scopes.{holds_of}
use Rattle.flow_net.specs.declared.net.LoopInst.{LoopInst}
use Rattle.flow_net.specs.declared.net.Net.{Net}
use Rattle.flow_net.specs.declared.net.NetArc.{NetArc}
use Rattle.ipet_program.specs.Rows.{comes_to, is_entering, one_if, term_of, terms_of}
use Rattle.ipet_program.specs.declared.program.Row.{Row}
use Rattle.ipet_program.specs.declared.program.Stage.{Stage}
use Rattle.ipet_program.specs.declared.program.Term.{Term}

-- A column less the arcs that a test picks is at most 0: it counts at most as often as they are taken.
abbrev pub at_most_arcs : (arcs : ℕ) → (picks : ℕ → Bool) → (column : ℕ) → Row
at_most_arcs arcs picks column =
    record {
      equal = false;
      terms = terms_of (λ arc. pos 0 -ℤ one_if (picks arc)) arcs ++ term_of column (pos 1);
      right = pos 0;
    }

-- An access goes on to a stage at most as often as it comes to the one before. To the first one it comes by each arc
-- into its place.
abbrev pub chain_row : List NetArc → (place before column : ℕ) → Row
chain_row arcs place zero column = at_most_arcs (length arcs) (λ arc. comes_to place (item_at arc arcs)) column
chain_row arcs place (suc before) column =
    record {
      equal = false;
      terms = term_of (suc before) (negsuc 0) ++ term_of column (pos 1);
      right = pos 0;
    }

-- Where it never goes on, the stage doesn't count.
abbrev pub zero_row : (column : ℕ) → Row
zero_row column = record { equal = false; terms = term_of column (pos 1); right = pos 0 }

abbrev pub zero_rows : (never : Bool) → (column : ℕ) → List Row
zero_rows never column = if never then zero_row column ∷ [] else []

-- Whether the arc of this number enters the scope: the run is entered by arc 1. (The test tells `Enters`:
-- `test-enters` of proofs/Entries.antt.)
abbrev pub enters_loop : Net → (scope : ℕ) → Option LoopInst → (arc : ℕ) → Bool
enters_loop net scope None arc = false
enters_loop net scope (Some inst) arc = is_entering (holds_of net scope) inst.header (item_at arc net.arcs)

abbrev pub enters_by : Net → (scope arc : ℕ) → Bool
enters_by net zero arc = arc == 1
enters_by net (suc index) arc = enters_loop net (suc index) (item_at (suc index) net.loops) arc

-- A first miss comes at most as often as its scope is entered.
abbrev pub first_row : Net → (column scope : ℕ) → Row
first_row net column scope = at_most_arcs (length net.arcs) (enters_by net scope) column

-- The rows of a stage with this column: that of its chain, that of an access that never goes on, and those of its first
-- misses.
abbrev pub rows_for : Net → (column : ℕ) → Stage → List Row
rows_for net column stage =
    chain_row net.arcs stage.place stage.before column
    ∷ zero_rows stage.never column ++ map (first_row net column) stage.firsts

-- The rows of these stages, whose columns are those from the given one on.
abbrev pub stage_rows : Net → (column : ℕ) → List Stage → List Row
stage_rows net column [] = []
stage_rows net column (stage ∷ more) = rows_for net column stage ++ stage_rows net (suc column) more
