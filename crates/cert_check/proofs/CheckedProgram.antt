-- The program of the tests keeps what a check asks of it.
use Rattle.std.proofs.Common.{◌≡◌, ℕ, ◌≤◌, ℤ, pos, negsuc, List, [], ◌∷◌, length, unsigned_abs, sym, ap, subst, arith}
use Rattle.std.proofs.lemmas.List.Elements.{All-cons, All-nil, All-same}
use Rattle.ipet_program.specs.Programs.{IsCheckable, IsSmall, IsSmallRow}
use Rattle.ipet_program.specs.Programs.IsSmall.{above, below}
use Rattle.ipet_program.specs.declared.program.Row.{Row}
use Rattle.ipet_program.specs.declared.program.Stage.{Stage}
use Rattle.ipet_program.specs.declared.program.Term.{Term}

small-number : (z : ℤ) → unsigned_abs z ≤ 8 → IsSmall z
small-number (pos n) h = above n (omega arith)
small-number (negsuc n) h = below n (omega arith)

abbrev IsSmallTerm : Term → Type 0
IsSmallTerm term = (1 ≤ term.column) × (term.column ≤ 2) × IsSmall term.factor

abbrev term_of : ℕ → ℤ → Term
term_of column factor = record { column = column; factor = factor }

pub small-row : (row : Row) (first second right : ℤ) → row.terms ≡ term_of 1 first ∷ term_of 2 second ∷ [] →
    row.right ≡ right → unsigned_abs first ≤ 8 → unsigned_abs second ≤ 8 → unsigned_abs right ≤ 8 →
    IsSmallRow 2 row
small-row row first second right terms side one two three =
    record {
      terms = All-same IsSmallTerm row.terms (term_of 1 first ∷ term_of 2 second ∷ []) terms
          (All-cons IsSmallTerm (term_of 1 first) (term_of 2 second ∷ [])
          (omega arith, omega arith, small-number first one)
          (All-cons IsSmallTerm (term_of 2 second) [] (omega arith, omega arith, small-number second two)
          (All-nil IsSmallTerm)));
      short = omega (arith, ap length terms);
      right = subst IsSmall (sym side) (small-number right three);
    }

pub checkable-program : (rows : List Row) (values : List ℤ) (caps : List ℕ) (stages : List Stage)
    (entry place : Row) → rows ≡ entry ∷ place ∷ [] → values ≡ pos 22 ∷ pos 0 ∷ [] → caps ≡ 1 ∷ 1 ∷ [] →
    IsSmallRow 2 entry → IsSmallRow 2 place →
    IsCheckable (record { columns = 2; rows = rows; value = values; caps = caps; stages = stages })
checkable-program rows values caps stages entry place are costs ends one two =
    record {
      few = omega arith;
      rows = All-same (IsSmallRow 2) rows (entry ∷ place ∷ []) are
          (All-cons (IsSmallRow 2) entry (place ∷ []) one
          (All-cons (IsSmallRow 2) place [] two (All-nil (IsSmallRow 2))));
      values = All-same IsSmall values (pos 22 ∷ pos 0 ∷ []) costs
          (All-cons IsSmall (pos 22) (pos 0 ∷ []) (above 22 (omega arith))
          (All-cons IsSmall (pos 0) [] (above 0 (omega arith)) (All-nil IsSmall)));
      value = ap length costs;
      caps = ap length ends;
    }
