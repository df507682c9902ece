-- The row of the entry has the term of arc 1 alone.
use Rattle.std.proofs.Common.{◌≡◌, ℕ, zero, suc, ◌≤◌, ◌==◌, Bool, true, pos, List, [], ◌∷◌, ◌++◌, refl, sym, ◌∙◌, ap, arith}
use Rattle.std.proofs.lemmas.Bool.Decides.{Decides-eqb}
use Rattle.std.proofs.lemmas.List.{append-nil}
use Rattle.ipet_program.specs.Rows.{entry_row, one_if, term_of, terms_of}
use Rattle.ipet_program.specs.declared.program.Term.{Term}
use Rattle.ipet_program.proofs.Told.{not_told}

entry_terms : (n : ℕ) → terms_of (λ column. one_if (column == 1)) (suc n) ≡ record { column = 1; factor = pos 1 } ∷ []
entry_terms zero = refl
entry_terms (suc n) =
    ap (λ (b : Bool). terms_of (λ column. one_if (column == 1)) (suc n) ++ term_of (suc (suc n)) (one_if b))
    (not_told (suc (suc n) == 1) (λ e. omega (arith, (Decides-eqb (suc (suc n)) 1).0 e)))
    ∙ append-nil (terms_of (λ column. one_if (column == 1)) (suc n)) ∙ entry_terms n

pub entry-row : (terms : List Term) (columns : ℕ) → terms ≡ record { column = 1; factor = pos 1 } ∷ [] → 1 ≤ columns →
    record { equal = true; terms = terms; right = pos 1 } ≡ entry_row columns
entry-row terms zero same some = absurd (omega arith)
entry-row terms (suc n) same some =
    ap (λ (ts : List Term). record { equal = true; terms = ts; right = pos 1 }) (same ∙ sym (entry_terms n))
