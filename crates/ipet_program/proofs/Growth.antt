-- Rows that get a further term.
use Rattle.std.proofs.Common.{◌≡◌, ℕ, ◌+◌, ◌-◌, ◌≤◌, ◌==◌, Bool, true, false, ℤ, pos, List, ◌++◌, length, get_or, set, take, refl, sym, ◌∙◌, ap, subst, arith, add-one}
use Rattle.std.specs.Prelude.{if◌then◌else◌}
use Rattle.std.proofs.lemmas.Bool.Decides.{Decides-eqb}
use Rattle.std.proofs.lemmas.List.{append-nil, take_at}
use Rattle.ipet_program.specs.Rows.{term_of, terms_of}
use Rattle.ipet_program.specs.Sums.{numbered}
use Rattle.ipet_program.specs.Tables.{grown, with_term}
use Rattle.ipet_program.specs.declared.program.Row.{Row}
use Rattle.ipet_program.specs.declared.program.Term.{Term}
use Rattle.ipet_program.proofs.Numbered.{length-numbered, numbered-get, numbered-same, numbered-set}
use Rattle.ipet_program.proofs.Told.{not_told}

-- A factor of 0 gives no term.
pub with_term-zero : (row : Row) (column : ℕ) → with_term row column (pos 0) ≡ row
with_term-zero row column =
    ap (λ (terms : List Term). record { equal = row.equal; terms = terms; right = row.right }) (append-nil row.terms)

pub terms_of-more : (factor : ℕ → ℤ) (n : ℕ) →
    terms_of factor (n + 1) ≡ terms_of factor n ++ term_of (n + 1) (factor (n + 1))
terms_of-more factor n = rw add-one refl

eqb-same : (a b : ℕ) → a ≡ b → (a == b) ≡ true
eqb-same a b e = (Decides-eqb a b).1 e

eqb-other : (a b : ℕ) → (a ≡ b → ⊥) → (a == b) ≡ false
eqb-other a b differ = not_told (a == b) (λ e. differ ((Decides-eqb a b).0 e))

pub grown-there : (row : ℕ → Row) (number column : ℕ) (factor : ℤ) →
    grown row number column factor number ≡ with_term (row number) column factor
grown-there row number column factor =
    ap (λ (b : Bool). if b then with_term (row number) column factor else row number) (eqb-same number number refl)

pub grown-other : (row : ℕ → Row) (number column : ℕ) (factor : ℤ) (j : ℕ) → (j ≡ number → ⊥) →
    row j ≡ grown row number column factor j
grown-other row number column factor j differ =
    sym (ap (λ (b : Bool). if b then with_term (row j) column factor else row j)
    (eqb-other number j (λ e. differ (sym e))))

-- A write of the row with its further term.
pub grown-write : (row : ℕ → Row) (number column : ℕ) (factor : ℤ) (before after : List Row) (d : Row) →
    1 ≤ number → number ≤ length before →
    after ≡ set before (number - 1) (with_term (get_or before (number - 1) d) column factor) →
    before ≡ numbered row (length before) → after ≡ numbered (grown row number column factor) (length before)
grown-write row number column factor before after d low high written known =
    let n = length before in
    let read : get_or before (number - 1) d ≡ row number =
    subst (λ (rows : List Row). get_or rows (number - 1) d ≡ row number) (sym known)
    (numbered-get row n number d low high) in
    let there : with_term (get_or before (number - 1) d) column factor ≡ grown row number column factor number =
    ap (λ (r : Row). with_term r column factor) read ∙ sym (grown-there row number column factor) in
    written ∙ ap (λ (r : Row). set before (number - 1) r) there
    ∙ ap (λ (rows : List Row). set rows (number - 1) (grown row number column factor number)) known
    ∙ numbered-set row (grown row number column factor) n number low high
    (λ j least most differ. grown-other row number column factor j differ)

-- No row has the number 0.
pub grown-none : (row : ℕ → Row) (number column : ℕ) (factor : ℤ) (rows : List Row) → number ≡ 0 →
    rows ≡ numbered row (length rows) → rows ≡ numbered (grown row number column factor) (length rows)
grown-none row number column factor rows none known =
    known ∙ numbered-same row (grown row number column factor) (length rows)
    (λ j low high. grown-other row number column factor j (λ e. omega (arith, e, none, low)))

-- Rows that were made for each item of a list.
pub rows-count : {T : Type 0} (row : ℕ → Row) (rows made : List Row) (given all : List T) → rows ≡ made →
    made ≡ numbered row (length given) → given ≡ all → length rows ≡ length all
rows-count row rows made given all same known whole =
    ap length same ∙ ap length known ∙ length-numbered row (length given) ∙ ap length whole

pub rows-made : (row : ℕ → Row) (n : ℕ) (rows made : List Row) → rows ≡ made → made ≡ numbered row n →
    rows ≡ numbered row (length rows)
rows-made row n rows made same known =
    let count : n ≡ length rows = sym (ap length same ∙ ap length known ∙ length-numbered row n) in
    subst (λ (m : ℕ). rows ≡ numbered row m) count (same ∙ known)

-- A vector of rows that were changed as a slice.
pub rows-back : (row : ℕ → Row) (len m n : ℕ) (after rest : List Row) → length after ≡ len →
    after ≡ numbered row m → m ≡ n → take len (after ++ rest) ≡ numbered row n
rows-back row len m n after rest whole known count =
    take_at after rest len whole ∙ subst (λ (k : ℕ). after ≡ numbered row k) count known
