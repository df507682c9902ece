-- The program of a net keeps the limits that the check of a certificate asks of it.
use Rattle.std.proofs.Common.{◌≡◌, ℕ, zero, suc, ◌-◌, ◌^◌, ◌<◌, ◌≤◌, ◌==◌, Bool, true, false, ℤ, pos, negsuc, ◌-ℤ◌, ◌*ℤ◌, ◌≤ℤ◌, List, [], ◌++◌, length, All, Option, Some, None, refl, sym, ◌∙◌, subst, arith}
use Rattle.std.proofs.lemmas.Int.{ints}
use Rattle.std.proofs.lemmas.List.{length-append}
use Rattle.std.proofs.lemmas.List.Elements.{All-append, All-cons, All-nil, All-same}
use Rattle.flow_net.specs.Numbers.{item_at}
use Rattle.flow_net.specs.Scopes.{holds_of}
use Rattle.flow_net.specs.declared.net.LoopInst.{LoopInst}
use Rattle.flow_net.specs.declared.net.Net.{Net}
use Rattle.flow_net.specs.declared.net.NetArc.{NetArc}
use Rattle.flow_net.proofs.Numbers.{item_at-all}
use Rattle.ipet_program.specs.Programs.{IsCheckable, IsSmall, IsSmallRow}
use Rattle.ipet_program.specs.Programs.IsSmall.{above, below}
use Rattle.ipet_program.specs.Rows.{comes_to, entry_row, goes_from, is_entering, loop_factor, loop_row, loop_row_of, one_if, place_factor, place_row, rows_of, term_of, terms_of}
use Rattle.ipet_program.specs.Sums.{numbered}
use Rattle.ipet_program.specs.declared.program.Program.{Program}
use Rattle.ipet_program.specs.declared.program.Row.{Row}
use Rattle.ipet_program.specs.declared.program.Term.{Term}
use Rattle.ipet_program.proofs.Numbered.{numbered-all}

small-from : (z : ℤ) → z ≤ℤ pos (2 ^ 33) → negsuc (2 ^ 33 - 1) ≤ℤ z → IsSmall z
small-from (pos n) high low = above n (omega (arith, ints, high))
small-from (negsuc n) high low = below n (omega (arith, ints, low))

-- A term of the columns 1 to a number.
abbrev pub IsTerm : (columns : ℕ) → Term → Type 0
IsTerm columns term = (1 ≤ term.column) × (term.column ≤ columns) × IsSmall term.factor

pub small-term : (columns column : ℕ) (factor : ℤ) → 1 ≤ column → column ≤ columns → IsSmall factor →
    All (IsTerm columns) (term_of column factor)
small-term columns column (pos zero) low high small = All-nil (IsTerm columns)
small-term columns column (pos (suc n)) low high small =
    All-cons (IsTerm columns) (record { column = column; factor = pos (suc n) }) [] (low, high, small)
    (All-nil (IsTerm columns))
small-term columns column (negsuc n) low high small =
    All-cons (IsTerm columns) (record { column = column; factor = negsuc n }) [] (low, high, small)
    (All-nil (IsTerm columns))

pub small-terms : (columns : ℕ) (factor : ℕ → ℤ) (n : ℕ) → n ≤ columns →
    ((column : ℕ) → IsSmall (factor column)) → All (IsTerm columns) (terms_of factor n)
small-terms columns factor zero high small = All-nil (IsTerm columns)
small-terms columns factor (suc n) high small =
    All-append (IsTerm columns) (terms_of factor n) (term_of (suc n) (factor (suc n)))
    (small-terms columns factor n (omega arith) small)
    (small-term columns (suc n) (factor (suc n)) (omega arith) high (small (suc n)))

pub one-term : (column : ℕ) (factor : ℤ) → length (term_of column factor) ≤ 1
one-term column (pos zero) = omega arith
one-term column (pos (suc n)) = omega arith
one-term column (negsuc n) = omega arith

pub few-terms : (factor : ℕ → ℤ) (n : ℕ) → length (terms_of factor n) ≤ n
few-terms factor zero = omega arith
few-terms factor (suc n) =
    omega (
      arith,
      length-append (terms_of factor n) (term_of (suc n) (factor (suc n))),
      few-terms factor n,
      one-term (suc n) (factor (suc n)),
    )

small-one : (b : Bool) → IsSmall (one_if b)
small-one true = above 1 (omega arith)
small-one false = above 0 (omega arith)

small-place : (a b : Bool) → IsSmall (one_if a -ℤ one_if b)
small-place true true = above 0 (omega arith)
small-place true false = above 1 (omega arith)
small-place false true = below 0 (omega arith)
small-place false false = above 0 (omega arith)

small-loop : (bound : ℕ) (a b : Bool) → bound < 2 ^ 32 → IsSmall (one_if a -ℤ pos bound *ℤ one_if b)
small-loop bound true true h = small-from (pos 1 -ℤ pos bound *ℤ pos 1) (omega (arith, ints)) (omega (arith, ints))
small-loop bound true false h = small-from (pos 1 -ℤ pos bound *ℤ pos 0) (omega (arith, ints)) (omega (arith, ints))
small-loop bound false true h = small-from (pos 0 -ℤ pos bound *ℤ pos 1) (omega (arith, ints)) (omega (arith, ints))
small-loop bound false false h = small-from (pos 0 -ℤ pos bound *ℤ pos 0) (omega (arith, ints)) (omega (arith, ints))

small-row : (equal : Bool) (factor : ℕ → ℤ) (n right : ℕ) → n ≤ 2 ^ 28 → right ≤ 1 →
    ((column : ℕ) → IsSmall (factor column)) →
    IsSmallRow n (record { equal = equal; terms = terms_of factor n; right = pos right })
small-row equal factor n right few low small =
    record {
      terms = small-terms n factor n (omega arith) small;
      short = omega (arith, few-terms factor n);
      right = above right (omega arith);
    }

small-loop_row : (arcs : List NetArc) (held : ℕ → Bool) (found : Option LoopInst) → length arcs ≤ 2 ^ 28 →
    ((inst : LoopInst) → found ≡ Some inst → inst.bound < 2 ^ 32) → IsSmallRow (length arcs)
    (loop_row_of arcs held found)
small-loop_row arcs held None few bounds =
    record {
      terms = All-nil (IsTerm (length arcs));
      short = omega arith;
      right = above 0 (omega arith);
    }
small-loop_row arcs held (Some inst) few bounds =
    small-row false (loop_factor arcs held inst) (length arcs) 0 few (omega arith)
    (λ column. small-loop inst.bound (comes_to inst.header (item_at column arcs))
    (is_entering held inst.header (item_at column arcs)) (bounds inst refl))

pub small-rows : (net : Net) → length net.arcs ≤ 2 ^ 28 →
    All (λ (inst : LoopInst). inst.bound < 2 ^ 32) net.loops → All (IsSmallRow (length net.arcs)) (rows_of net)
small-rows net few bounds =
    let small : Row → Type 0 = IsSmallRow (length net.arcs) in
    let places = numbered (place_row net.arcs) (length net.places) in
    let loops = numbered (loop_row net) (length net.loops) in
    All-cons small (entry_row (length net.arcs)) (places ++ loops)
    (small-row true (λ column. one_if (column == 1)) (length net.arcs) 1 few (omega arith)
    (λ column. small-one (column == 1)))
    (All-append small places loops
    (numbered-all small (place_row net.arcs) (length net.places)
    (λ place low high. small-row true (place_factor net.arcs place) (length net.arcs) 0 few (omega arith)
    (λ column. small-place (comes_to place (item_at column net.arcs)) (goes_from place (item_at column net.arcs)))))
    (numbered-all small (loop_row net) (length net.loops)
    (λ scope low high. small-loop_row net.arcs (holds_of net scope) (item_at scope net.loops) few
    (λ inst there. item_at-all (λ (i : LoopInst). i.bound < 2 ^ 32) net.loops scope inst bounds there))))

pub is-checkable : (net : Net) (program : Program) → length net.arcs ≤ 2 ^ 28 →
    All (λ (inst : LoopInst). inst.bound < 2 ^ 32) net.loops → program.columns ≡ length net.arcs →
    program.rows ≡ rows_of net → All IsSmall program.value → length program.value ≡ length net.arcs →
    length program.caps ≡ length net.arcs → IsCheckable program
is-checkable net program few bounds columns rows small values caps =
    record {
      few = omega (arith, columns);
      rows = subst (λ (n : ℕ). All (IsSmallRow n) program.rows) (sym columns)
          (All-same (IsSmallRow (length net.arcs)) program.rows (rows_of net) rows
          (small-rows net few bounds));
      values = small;
      value = values ∙ sym columns;
      caps = caps ∙ sym columns;
    }
