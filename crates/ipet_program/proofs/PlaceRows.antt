-- The rows of places get a further arc.
use Rattle.std.proofs.Common.{◌≡◌, ℕ, ◌+◌, ◌==◌, Bool, true, false, pos, negsuc, ◌-ℤ◌, List, Option, Some, refl, sym, ◌∙◌, ap, ◌++◌}
use Rattle.std.specs.Prelude.{if◌then◌else◌}
use Rattle.std.proofs.lemmas.Bool.Decides.{Decides-eqb}
use Rattle.flow_net.specs.Numbers.{item_at}
use Rattle.flow_net.specs.declared.net.NetArc.{NetArc}
use Rattle.ipet_program.specs.Rows.{comes_to, goes_from, one_if, place_factor, term_of, terms_of}
use Rattle.ipet_program.specs.Sums.{numbered}
use Rattle.ipet_program.specs.Tables.{grown, place_part, place_row_to, with_term}
use Rattle.ipet_program.specs.declared.program.Row.{Row}
use Rattle.ipet_program.specs.declared.program.Term.{Term}
use Rattle.ipet_program.proofs.Growth.{terms_of-more, with_term-zero}
use Rattle.ipet_program.proofs.Numbered.{numbered-same}

-- A term for the arc's end, and one for its start.
both_ends : (row : Row) (column : ℕ) (to from : Bool) → (to ≡ true → from ≡ true → ⊥) →
    (if from then with_term (if to then with_term row column (pos 1) else row) column (negsuc 0)
    else (if to then with_term row column (pos 1) else row))
    ≡ with_term row column (one_if to -ℤ one_if from)
both_ends row column true true apart = absurd (apart refl refl)
both_ends row column true false apart = refl
both_ends row column false true apart = refl
both_ends row column false false apart = sym (with_term-zero row column)

-- Rows that got both terms of an arc between two places.
pub grown-ends : (row : ℕ → Row) (column n : ℕ) (arc : NetArc) → (arc.from ≡ arc.to → ⊥) →
    numbered (grown (grown row arc.to column (pos 1)) arc.from column (negsuc 0)) n
    ≡ numbered (λ place. with_term (row place) column (place_part arc place)) n
grown-ends row column n arc differ =
    numbered-same (grown (grown row arc.to column (pos 1)) arc.from column (negsuc 0))
    (λ place. with_term (row place) column (place_part arc place)) n
    (λ place low high. both_ends (row place) column (arc.to == place) (arc.from == place)
    (λ to from. differ ((Decides-eqb arc.from place).0 from ∙ sym ((Decides-eqb arc.to place).0 to))))

no_end : (row : Row) (column : ℕ) (b : Bool) → row ≡ with_term row column (one_if b -ℤ one_if b)
no_end row column true = sym (with_term-zero row column)
no_end row column false = sym (with_term-zero row column)

-- An arc from a place to itself has no terms.
pub same-ends : (row : ℕ → Row) (column n : ℕ) (arc : NetArc) → arc.from ≡ arc.to →
    numbered row n ≡ numbered (λ place. with_term (row place) column (place_part arc place)) n
same-ends row column n arc same =
    numbered-same row (λ place. with_term (row place) column (place_part arc place)) n
    (λ place low high. no_end (row place) column (arc.to == place)
    ∙ ap (λ (from : ℕ). with_term (row place) column (one_if (arc.to == place) -ℤ one_if (from == place))) (sym same))

-- The rows by one more arc.
pub place_rows-next : (arcs : List NetArc) (index n : ℕ) (arc : NetArc) → item_at (index + 1) arcs ≡ Some arc →
    numbered (λ place. with_term (place_row_to arcs index place) (index + 1) (place_part arc place)) n
    ≡ numbered (place_row_to arcs (index + 1)) n
place_rows-next arcs index n arc there =
    numbered-same (λ place. with_term (place_row_to arcs index place) (index + 1) (place_part arc place))
    (place_row_to arcs (index + 1)) n
    (λ place low high. ap (λ (terms : List Term). record { equal = true; terms = terms; right = pos 0 })
    (ap (λ (found : Option NetArc). terms_of (place_factor arcs place) index
    ++ term_of (index + 1) (one_if (comes_to place found) -ℤ one_if (goes_from place found))) (sym there)
    ∙ sym (terms_of-more (place_factor arcs place) index)))
