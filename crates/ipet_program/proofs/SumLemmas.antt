-- Adding parts to the columns' sums, one list of parts behind another.
use Rattle.std.proofs.Common.{◌≡◌, ℕ, ◌+◌, ◌-◌, ◌≤◌, ◌<◌, Bool, true, false, cond, List, [], ◌∷◌, ◌++◌, length, take, drop, get_or, map, Some, refl, sym, ap, ◌∙◌, subst, inl, inr, arith}
use Rattle.std.specs.Prelude.{◌==◌, filter, slice_set}
use Rattle.std.proofs.lemmas.Bool.{cases_eq}
use Rattle.std.proofs.lemmas.Bool.Decides.{nat_tests}
use Rattle.std.proofs.lemmas.Int.{ints}
use Rattle.std.proofs.lemmas.List.{get_or-set_other, get_or-set_same, map-append, take-append-drop, take_more}
use Rattle.std.proofs.lemmas.List.Elements.{filter-append}
use lib.IntN.{ℤ, pos, ◌+ℤ◌, ◌*ℤ◌, +ℤ_assoc, +ℤ_idr}
use Rattle.ipet_program.specs.Adding.{AreAdded, Fit, HaveRoom, IsTaken, sum_in, terms_parts}
use Rattle.ipet_program.specs.Leaves.{cut_row, FitFrom, total}
use Rattle.ipet_program.specs.declared.leaf.Side2.{Side2}
use Rattle.ipet_program.specs.declared.program.Row.{Row}
use Rattle.ipet_program.specs.declared.program.Term.{Term}
use Rattle.ipet_program.proofs.Exchange.{total-append}

-- Sums of first parts fit one list behind another.
pub fit-join : (sum : ℤ) (parts others : List ℤ) → FitFrom sum parts → FitFrom (sum +ℤ total parts) others →
    FitFrom sum (parts ++ others)
fit-join sum [] others fit then =
    let e : sum +ℤ pos 0 ≡ sum = +ℤ_idr sum in
    subst (λ (s : ℤ). FitFrom s others) e then
fit-join sum (part ∷ parts) others fit then = (
  fit.0,
  fit.1,
  fit-join (sum +ℤ part) parts others fit.2
      (subst (λ (s : ℤ). FitFrom s others) (sym (+ℤ_assoc sum part (total parts))) then),
)

pub fit-front : (sum : ℤ) (parts others : List ℤ) → FitFrom sum (parts ++ others) → FitFrom sum parts
fit-front sum [] others fit = tt
fit-front sum (part ∷ parts) others fit = (fit.0, fit.1, fit-front (sum +ℤ part) parts others fit.2)

pub fit-behind : (sum : ℤ) (parts others : List ℤ) → FitFrom sum (parts ++ others) →
    FitFrom (sum +ℤ total parts) others
fit-behind sum [] others fit =
    let e : sum +ℤ pos 0 ≡ sum = +ℤ_idr sum in
    subst (λ (s : ℤ). FitFrom s others) (sym e) fit
fit-behind sum (part ∷ parts) others fit =
    subst (λ (s : ℤ). FitFrom s others) (+ℤ_assoc sum part (total parts))
    (fit-behind (sum +ℤ part) parts others fit.2)

-- Parts that a list of things gives to each column: what two lists give stands one behind the other.
abbrev pub Appends : {X : Type 0} → (List X → ℕ → List ℤ) → Type 0
Appends {X} parts = (xs ys : List X) (column : ℕ) → parts (xs ++ ys) column ≡ parts xs column ++ parts ys column

pub room-join : {X : Type 0} (parts : List X → ℕ → List ℤ) → Appends parts → (columns : ℕ)
    (first middle last : List ℤ) (xs ys : List X) → HaveRoom columns first middle (parts xs) →
    HaveRoom columns middle last (parts ys) → HaveRoom columns first last (parts (xs ++ ys))
room-join parts appends columns first middle last xs ys one other =
    record {
      fit = λ column low high. subst (FitFrom (sum_in first column)) (sym (appends xs ys column))
          (fit-join (sum_in first column) (parts xs column) (parts ys column) (one.fit column low high)
          (subst (λ (s : ℤ). FitFrom s (parts ys column)) (one.added column low high) (other.fit column low high)));
      added = λ column low high.
          let a = one.added column low high in
          let b = other.added column low high in
          let sum : total (parts (xs ++ ys) column) ≡ total (parts xs column) +ℤ total (parts ys column) =
          ap total (appends xs ys column) ∙ total-append (parts xs column) (parts ys column) in
          omega (arith, ints);
    }

pub fit-later : {X : Type 0} (parts : List X → ℕ → List ℤ) → Appends parts → (columns : ℕ)
    (first middle : List ℤ) (xs ys : List X) → AreAdded columns first middle (parts xs) →
    Fit columns first (parts (xs ++ ys)) → Fit columns middle (parts ys)
fit-later parts appends columns first middle xs ys added fit column low high =
    subst (λ (s : ℤ). FitFrom s (parts ys column)) (sym (added column low high))
    (fit-behind (sum_in first column) (parts xs column) (parts ys column)
    (subst (FitFrom (sum_in first column)) (appends xs ys column) (fit column low high)))

pub fit-first : {X : Type 0} (parts : List X → ℕ → List ℤ) → Appends parts → (columns : ℕ)
    (first : List ℤ) (xs ys : List X) → Fit columns first (parts (xs ++ ys)) → Fit columns first (parts xs)
fit-first parts appends columns first xs ys fit column low high =
    fit-front (sum_in first column) (parts xs column) (parts ys column)
    (subst (FitFrom (sum_in first column)) (appends xs ys column) (fit column low high))

-- ---- Terms.
pub terms-append : (times : ℤ) → Appends (λ (terms : List Term) (column : ℕ). terms_parts column times terms)
terms-append times xs ys column =
    ap (map (λ (term : Term). times *ℤ term.factor)) (filter-append (λ (t : Term). t.column == column) xs ys)
    ∙ map-append (λ (term : Term). times *ℤ term.factor) (filter (λ (t : Term). t.column == column) xs)
    (filter (λ (t : Term). t.column == column) ys)

own-parts : (times : ℤ) (term : Term) → terms_parts term.column times (term ∷ []) ≡ (times *ℤ term.factor) ∷ []
own-parts times term =
    let e : (term.column == term.column) ≡ true = grind (arith, nat_tests) in
    ap (λ (test : Bool). map (λ (t : Term). times *ℤ t.factor) (cond test (term ∷ []) [])) e

other-parts : (times : ℤ) (term : Term) (column : ℕ) → (column ≡ term.column → ⊥) →
    terms_parts column times (term ∷ []) ≡ []
other-parts times term column differ =
    let e : (term.column == column) ≡ false = grind (arith, nat_tests) in
    ap (λ (test : Bool). map (λ (t : Term). times *ℤ t.factor) (cond test (term ∷ []) [])) e

-- One term has been added to the sum of its column.
term-fit : (sums : List ℤ) (times : ℤ) (term : Term) →
    FitFrom (sum_in sums term.column) ((times *ℤ term.factor) ∷ []) → (column : ℕ) →
    FitFrom (sum_in sums column) (terms_parts column times (term ∷ []))
term-fit sums times term fit column =
    elim (cases_eq column term.column)
    as (λ _. FitFrom (sum_in sums column) (terms_parts column times (term ∷ []))) [
      | inl same ↦ subst (λ (c : ℕ). FitFrom (sum_in sums c) (terms_parts c times (term ∷ []))) (sym same)
          (subst (FitFrom (sum_in sums term.column)) (sym (own-parts times term)) fit)
      | inr differ ↦ subst (FitFrom (sum_in sums column)) (sym (other-parts times term column differ)) tt
    ]

term-sum : (sums : List ℤ) (times : ℤ) (term : Term) (value : ℤ) → term.column - 1 < length sums →
    1 ≤ term.column → value ≡ sum_in sums term.column +ℤ times *ℤ term.factor → (column : ℕ) → 1 ≤ column →
    sum_in (slice_set sums (term.column - 1) value) column
    ≡ sum_in sums column +ℤ total (terms_parts column times (term ∷ []))
term-sum sums times term value less from is column low =
    elim (cases_eq column term.column)
    as (λ _. sum_in (slice_set sums (term.column - 1) value) column
    ≡ sum_in sums column +ℤ total (terms_parts column times (term ∷ []))) [
      | inl same ↦ subst (λ (c : ℕ). sum_in (slice_set sums (term.column - 1) value) c
          ≡ sum_in sums c +ℤ total (terms_parts c times (term ∷ []))) (sym same)
          (
          let read = get_or-set_same sums (term.column - 1) value (pos 0) less in
          let parts : total (terms_parts term.column times (term ∷ [])) ≡ times *ℤ term.factor +ℤ pos 0 =
          ap total (own-parts times term) in
          omega (arith, ints)
          )
      | inr differ ↦
          let read = get_or-set_other sums (term.column - 1) (column - 1) value (pos 0)
          (λ e. differ (omega (arith, e))) in
          let parts : total (terms_parts column times (term ∷ [])) ≡ pos 0 =
          ap total (other-parts times term column differ) in
          omega (arith, ints)
    ]

pub term-added : (columns : ℕ) (sums : List ℤ) (times : ℤ) (term : Term) (value : ℤ) → columns ≤ length sums →
    1 ≤ term.column → term.column ≤ columns →
    FitFrom (sum_in sums term.column) ((times *ℤ term.factor) ∷ []) →
    value ≡ sum_in sums term.column +ℤ times *ℤ term.factor →
    HaveRoom columns sums (slice_set sums (term.column - 1) value) (λ column. terms_parts column times (term ∷ []))
term-added columns sums times term value long from to fit is =
    record {
      fit = λ column low high. term-fit sums times term fit column;
      added = λ column low high. term-sum sums times term value (omega arith) from is column low;
    }

-- A column that the program hasn't has no sum.
pub term-passed : (columns : ℕ) (sums : List ℤ) (times : ℤ) (term : Term) →
    (1 ≤ term.column → term.column ≤ columns → ⊥) →
    HaveRoom columns sums sums (λ column. terms_parts column times (term ∷ []))
term-passed columns sums times term outside =
    let differ : (column : ℕ) → 1 ≤ column → column ≤ columns → column ≡ term.column → ⊥ =
    λ column low high same. outside (omega (arith, low, same)) (omega (arith, high, same)) in
    record {
      fit = λ column low high. subst (FitFrom (sum_in sums column))
          (sym (other-parts times term column (differ column low high))) tt;
      added = λ column low high.
          let parts : total (terms_parts column times (term ∷ [])) ≡ pos 0 =
          ap total (other-parts times term column (differ column low high)) in
          omega (arith, ints);
    }

-- ---- A loop's step, for parts that a list of things gives.
pub room-more : {X : Type 0} (parts : List X → ℕ → List ℤ) → Appends parts → (columns : ℕ)
    (first middle last : List ℤ) (xs : List X) (i : ℕ) (d : X) → i < length xs →
    HaveRoom columns first middle (parts (take i xs)) → HaveRoom columns middle last (parts (get_or xs i d ∷ [])) →
    HaveRoom columns first last (parts (take (i + 1) xs))
room-more {X = X} parts appends columns first middle last xs i d less one other =
    subst (λ (ys : List X). HaveRoom columns first last (parts ys)) (sym (take_more xs i d less))
    (room-join parts appends columns first middle last (take i xs) (get_or xs i d ∷ []) one other)

pub fit-at : {X : Type 0} (parts : List X → ℕ → List ℤ) → Appends parts → (columns : ℕ)
    (first middle : List ℤ) (xs : List X) (i : ℕ) (d : X) → i < length xs →
    HaveRoom columns first middle (parts (take i xs)) → Fit columns first (parts xs) →
    Fit columns middle (parts (get_or xs i d ∷ []))
fit-at {X = X} parts appends columns first middle xs i d less one fit =
    let split : xs ≡ take (i + 1) xs ++ drop (i + 1) xs = sym (take-append-drop (i + 1) xs) in
    let front = fit-first parts appends columns first (take (i + 1) xs) (drop (i + 1) xs)
    (subst (λ (ys : List X). Fit columns first (parts ys)) split fit) in
    fit-later parts appends columns first middle (take i xs) (get_or xs i d ∷ []) one.added
    (subst (λ (ys : List X). Fit columns first (parts ys)) (take_more xs i d less) front)

pub fit-fails : {X : Type 0} (parts : List X → ℕ → List ℤ) → Appends parts → (columns : ℕ)
    (first middle : List ℤ) (xs : List X) (i : ℕ) (d : X) → i < length xs →
    HaveRoom columns first middle (parts (take i xs)) → (Fit columns middle (parts (get_or xs i d ∷ [])) → ⊥) →
    Fit columns first (parts xs) → ⊥
fit-fails parts appends columns first middle xs i d less one wide fit =
    wide (fit-at parts appends columns first middle xs i d less one fit)

-- ---- Rows.
pub row-taken : (columns : ℕ) (old new : List ℤ) (right times sum : ℤ) (row : Row) →
    HaveRoom columns old new (λ column. terms_parts column times row.terms) →
    FitFrom right ((times *ℤ row.right) ∷ []) → sum ≡ right +ℤ times *ℤ row.right →
    IsTaken columns old new right times (Some row) sum
row-taken columns old new right times sum row room fit is =
    record {
      may = record { left = room.fit; other = fit };
      added = room.added;
      total_right = omega (arith, ints);
    }

pub cut-taken : (columns : ℕ) (old new : List ℤ) (right times sum : ℤ) (cut : Side2) (terms : List Term) (side : ℤ) →
    (cut_row cut).terms ≡ terms → (cut_row cut).right ≡ side →
    HaveRoom columns old new (λ column. terms_parts column times terms) →
    FitFrom right ((times *ℤ side) ∷ []) → sum ≡ right +ℤ times *ℤ side →
    IsTaken columns old new right times (Some (cut_row cut)) sum
cut-taken columns old new right times sum cut terms side same also room fit is =
    row-taken columns old new right times sum (cut_row cut)
    (subst (λ (ts : List Term). HaveRoom columns old new (λ column. terms_parts column times ts)) (sym same) room)
    (subst (λ (z : ℤ). FitFrom right ((times *ℤ z) ∷ [])) (sym also) fit)
    (is ∙ ap (λ (z : ℤ). right +ℤ times *ℤ z) (sym also))
