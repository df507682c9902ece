-- Rows with the picked arcs taken off get a further arc.
use Rattle.std.proofs.Common.{◌≡◌, ℕ, zero, suc, ◌+◌, ◌-◌, ◌≤◌, ◌==◌, Bool, true, false, pos, negsuc, ◌-ℤ◌, List, [], ◌∷◌, ◌++◌, length, get_or, Option, Some, None, refl, sym, ◌∙◌, ap, subst, arith}
use Rattle.std.specs.Prelude.{if◌then◌else◌}
use Rattle.std.proofs.lemmas.Bool.Decides.{Decides-eqb}
use Rattle.std.proofs.lemmas.List.{append-nil, append_assoc}
use Rattle.flow_net.specs.Numbers.{item_at, IsNumberOf}
use Rattle.flow_net.specs.Scopes.{holds_of}
use Rattle.flow_net.specs.declared.net.LoopInst.{LoopInst}
use Rattle.flow_net.specs.declared.net.Net.{Net}
use Rattle.flow_net.specs.declared.net.NetArc.{NetArc}
use Rattle.flow_net.proofs.Numbers.{item_at-there}
use Rattle.ipet_program.specs.Rows.{comes_to, is_entering, one_if, term_of, terms_of}
use Rattle.ipet_program.specs.StageRows.{at_most_arcs, chain_row, enters_by, enters_loop, first_row}
use Rattle.ipet_program.specs.StageTables.{IsEnteredBy, entering_row, into_row, less_arcs}
use Rattle.ipet_program.specs.Sums.{numbered}
use Rattle.ipet_program.specs.Tables.{grown, with_term}
use Rattle.ipet_program.specs.declared.program.Row.{Row}
use Rattle.ipet_program.specs.declared.program.Term.{Term}
use Rattle.ipet_program.proofs.Growth.{terms_of-more}
use Rattle.ipet_program.proofs.Numbered.{numbered-get, numbered-same}
use Rattle.ipet_program.proofs.Told.{not_told}

abbrev row_of_terms : List Term → Row
row_of_terms terms = record { equal = false; terms = terms; right = pos 0 }

-- A row has the further arc where the test picks it.
less_arcs-next : (picks : ℕ → Bool) (index : ℕ) (b : Bool) → picks (index + 1) ≡ b →
    (if b then with_term (less_arcs picks index) (index + 1) (negsuc 0) else less_arcs picks index)
    ≡ less_arcs picks (index + 1)
less_arcs-next picks index true same =
    ap row_of_terms
    (ap (λ (c : Bool). terms_of (λ arc. pos 0 -ℤ one_if (picks arc)) index ++ term_of (index + 1) (pos 0 -ℤ one_if c)) (sym same)
    ∙ sym (terms_of-more (λ arc. pos 0 -ℤ one_if (picks arc)) index))
less_arcs-next picks index false same =
    ap row_of_terms
    (sym (append-nil (terms_of (λ arc. pos 0 -ℤ one_if (picks arc)) index))
    ∙ ap (λ (c : Bool). terms_of (λ arc. pos 0 -ℤ one_if (picks arc)) index ++ term_of (index + 1) (pos 0 -ℤ one_if c)) (sym same)
    ∙ sym (terms_of-more (λ arc. pos 0 -ℤ one_if (picks arc)) index))

-- The rows of places by one more arc.
pub into_rows-next : (arcs : List NetArc) (index n : ℕ) (arc : NetArc) → item_at (index + 1) arcs ≡ Some arc →
    numbered (grown (into_row arcs index) arc.to (index + 1) (negsuc 0)) n ≡ numbered (into_row arcs (index + 1)) n
into_rows-next arcs index n arc there =
    numbered-same (grown (into_row arcs index) arc.to (index + 1) (negsuc 0)) (into_row arcs (index + 1)) n
    (λ place low high. less_arcs-next (λ a. comes_to place (item_at a arcs)) index (arc.to == place)
    (ap (comes_to place) there))

-- Whether the arc enters a loop instance is told by the one that it enters.
entered-by : (net : Net) (arc : NetArc) (number index : ℕ) → IsEnteredBy net arc number →
    item_at index net.arcs ≡ Some arc → (scope : ℕ) → 1 ≤ scope → scope ≤ length net.loops →
    enters_by net scope index ≡ (number == scope)
entered-by net arc number index is there zero low high = absurd (omega arith)
entered-by net arc number index is there (suc k) low high =
    let inst : LoopInst = get_or net.loops (suc k - 1) (record { header = 0; bound = 0; outer = 0 }) in
    let found : item_at (suc k) net.loops ≡ Some inst =
    item_at-there net.loops (suc k) (record { header = 0; bound = 0; outer = 0 })
    (record { from_one = low; within = high }) in
    ap (λ (loop : Option LoopInst). enters_loop net (suc k) loop index) found
    ∙ ap (is_entering (holds_of net (suc k)) inst.header) there ∙ is.only (suc k) inst found

-- The rows of loop instances by one more arc.
pub entering_rows-next : (net : Net) (index : ℕ) (arc : NetArc) (number : ℕ) → IsEnteredBy net arc number →
    item_at (index + 1) net.arcs ≡ Some arc →
    numbered (grown (entering_row net index) number (index + 1) (negsuc 0)) (length net.loops)
    ≡ numbered (entering_row net (index + 1)) (length net.loops)
entering_rows-next net index arc number is there =
    numbered-same (grown (entering_row net index) number (index + 1) (negsuc 0)) (entering_row net (index + 1))
    (length net.loops)
    (λ scope low high. less_arcs-next (enters_by net scope) index (number == scope)
    (entered-by net arc number (index + 1) is there scope low high))

-- ---- The rows with a further column.
row-read : (row : ℕ → Row) (rows : List Row) (number : ℕ) (d : Row) → 1 ≤ number → number ≤ length rows →
    rows ≡ numbered row (length rows) → get_or rows (number - 1) d ≡ row number
row-read row rows number d low high known =
    subst (λ (made : List Row). get_or made (number - 1) d ≡ row number) (sym known)
    (numbered-get row (length rows) number d low high)

-- That of a chain whose stage before it is the first one.
pub chain-first : (arcs : List NetArc) (into : List Row) (place before column : ℕ) (d : Row) → IsNumberOf into place → before ≡ 0 →
    into ≡ numbered (into_row arcs (length arcs)) (length into) →
    with_term (get_or into (place - 1) d) column (pos 1) ≡ chain_row arcs place before column
chain-first arcs into place before column d number first known =
    ap (λ (row : Row). with_term row column (pos 1)) (row-read (into_row arcs (length arcs)) into place d number.from_one number.within known)
    ∙ ap (λ (b : ℕ). chain_row arcs place b column) (sym first)

-- Those of first misses in a loop instance and in the run.
pub first-loop : (net : Net) (entering : List Row) (scope column : ℕ) (d : Row) → 1 ≤ scope → scope ≤ length entering →
    entering ≡ numbered (entering_row net (length net.arcs)) (length entering) →
    with_term (get_or entering (scope - 1) d) column (pos 1) ≡ first_row net column scope
first-loop net entering scope column d low high known =
    ap (λ (row : Row). with_term row column (pos 1)) (row-read (entering_row net (length net.arcs)) entering scope d low high known)

run_terms : (n : ℕ) → terms_of (λ arc. pos 0 -ℤ one_if (arc == 1)) (suc n) ≡ record { column = 1; factor = negsuc 0 } ∷ []
run_terms zero = refl
run_terms (suc n) =
    ap (λ (b : Bool). terms_of (λ arc. pos 0 -ℤ one_if (arc == 1)) (suc n) ++ term_of (suc (suc n)) (pos 0 -ℤ one_if b))
    (not_told (suc (suc n) == 1) (λ e. omega (arith, (Decides-eqb (suc (suc n)) 1).0 e)))
    ∙ append-nil (terms_of (λ arc. pos 0 -ℤ one_if (arc == 1)) (suc n)) ∙ run_terms n

run_by : (arcs column : ℕ) → 1 ≤ arcs → chain_row [] 0 1 column ≡ at_most_arcs arcs (λ arc. arc == 1) column
run_by zero column some = absurd (omega arith)
run_by (suc n) column some =
    ap (λ (terms : List Term). row_of_terms (terms ++ term_of column (pos 1))) (sym (run_terms n))

pub first-run : (net : Net) (column scope : ℕ) → 1 ≤ length net.arcs → scope ≡ 0 → chain_row [] 0 1 column ≡ first_row net column scope
first-run net column scope some run =
    run_by (length net.arcs) column some ∙ ap (first_row net column) (sym run)

-- The rows of a stage stand behind those before it: that of its chain, and the other two kinds.
pub three-kinds : (before chained zeroed after zeros firsts : List Row) (row : Row) → chained ≡ before ++ row ∷ [] →
    zeroed ≡ chained ++ zeros → after ≡ zeroed ++ firsts → after ≡ before ++ row ∷ (zeros ++ firsts)
three-kinds before chained zeroed after zeros firsts row first second third =
    third ∙ ap (λ (xs : List Row). xs ++ firsts) (second ∙ ap (λ (xs : List Row). xs ++ zeros) first)
    ∙ append_assoc (before ++ row ∷ []) zeros firsts ∙ append_assoc before (row ∷ []) (zeros ++ firsts)
