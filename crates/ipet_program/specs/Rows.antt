-- The rows of the program of a net.
use Rattle.std.specs.Prelude.{ℕ, zero, suc, ◌==◌, ◌&&◌, not, Bool, true, false, ℤ, pos, ◌-ℤ◌, ◌*ℤ◌, List, [], ◌∷◌, ◌++◌, length, Option, Some, None, if◌then◌else◌}
use Rattle.flow_net.specs.Numbers.{item_at}
use Rattle.flow_net.specs.Scopes.{holds_of}
use Rattle.flow_net.specs.declared.net.LoopInst.{LoopInst}
use Rattle.flow_net.specs.declared.net.Net.{Net}
use Rattle.flow_net.specs.declared.net.NetArc.{NetArc}
use Rattle.ipet_program.specs.Sums.{numbered}
use Rattle.ipet_program.specs.declared.program.Row.{Row}
use Rattle.ipet_program.specs.declared.program.Term.{Term}

-- A factor of 0 gives no term.
abbrev pub term_of : ℕ → ℤ → List Term
term_of column (pos zero) = []
term_of column factor = record { column = column; factor = factor } ∷ []

-- The terms of the columns 1 to n with these factors, by rising column.
abbrev pub terms_of : (ℕ → ℤ) → ℕ → List Term
terms_of factor zero = []
terms_of factor (suc n) = terms_of factor n ++ term_of (suc n) (factor (suc n))

-- 1 where a test holds, else 0.
abbrev pub one_if : Bool → ℤ
one_if holds = if holds then pos 1 else pos 0

abbrev pub comes_to : ℕ → Option NetArc → Bool
comes_to place None = false
comes_to place (Some arc) = arc.to == place

abbrev pub goes_from : ℕ → Option NetArc → Bool
goes_from place None = false
goes_from place (Some arc) = arc.from == place

-- Whether the arc enters the loop instance: it goes to the header from a place that isn't held, or from 0. (The test
-- tells `Enters`: `is_entering-enters` of proofs/Entering.antt.)
abbrev pub is_entering : (held : ℕ → Bool) → (header : ℕ) → Option NetArc → Bool
is_entering held header None = false
is_entering held header (Some arc) = (arc.to == header) && not (held arc.from)

-- The run is entered once: arc 1 = 1.
abbrev pub entry_row : ℕ → Row
entry_row columns =
    record { equal = true; terms = terms_of (λ column. one_if (column == 1)) columns; right = pos 1 }

-- A place is left as often as it is come to: arcs in - arcs out = 0. An arc from a place to itself
-- cancels.
abbrev pub place_factor : List NetArc → ℕ → ℕ → ℤ
place_factor arcs place column =
    one_if (comes_to place (item_at column arcs)) -ℤ one_if (goes_from place (item_at column arcs))

abbrev pub place_row : List NetArc → ℕ → Row
place_row arcs place =
    record { equal = true; terms = terms_of (place_factor arcs place) (length arcs); right = pos 0 }

-- A header is come to at most bound times as often as its loop is entered:
-- arcs into the header - bound times entering arcs <= 0.
abbrev pub loop_factor : List NetArc → (ℕ → Bool) → LoopInst → ℕ → ℤ
loop_factor arcs held inst column =
    one_if (comes_to inst.header (item_at column arcs))
    -ℤ pos inst.bound *ℤ one_if (is_entering held inst.header (item_at column arcs))

abbrev pub loop_row_of : List NetArc → (ℕ → Bool) → Option LoopInst → Row
loop_row_of arcs held None = record { equal = false; terms = []; right = pos 0 }
loop_row_of arcs held (Some inst) =
    record { equal = false; terms = terms_of (loop_factor arcs held inst) (length arcs); right = pos 0 }

abbrev pub loop_row : Net → (scope : ℕ) → Row
loop_row net scope = loop_row_of net.arcs (holds_of net scope) (item_at scope net.loops)

-- The rows in their order: the entry's, one for each place, one for each loop instance.
abbrev pub rows_of : Net → List Row
rows_of net =
    entry_row (length net.arcs)
    ∷ numbered (place_row net.arcs) (length net.places) ++ numbered (loop_row net) (length net.loops)
