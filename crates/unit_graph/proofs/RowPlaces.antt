-- The place of an address among rising rows, and what a search for it says.
use Rattle.std.proofs.Common.{◌≡◌, ℕ, ◌<◌, ◌≤◌, true, false, List, length, get_or, sym, subst, ap, ◌∙◌, arith, inl, inr, ◌⊎◌, nat_lt}
use Rattle.std.specs.List.Sorted.{IsNonDecreasingBy, IsPartitionPoint}
use Rattle.std.proofs.lemmas.Bool.{cases_lt, ltb-false, ltb-true}
use Rattle.std.proofs.lemmas.List.{get_or_default}
use Rattle.unit_graph.specs.Rows.{HasRow, Rise}
use Rattle.unit_graph.specs.declared.rows.Row.{Row}

pub rows_ordered : (rows : List Row) → Rise rows → IsNonDecreasingBy (λ (row : Row). row.address) rows
rows_ordered rows rising i j d some inside = by_case (cases_lt i j)
  where
    by_case : (i < j) ⊎ (j ≤ i) → (get_or rows i d).address ≤ (get_or rows j d).address
    by_case (inl l) = let less = rising i j d l inside in omega arith
    by_case (inr m) = let same : i ≡ j = omega arith in
        subst (λ (k : ℕ). (get_or rows i d).address ≤ (get_or rows k d).address) same (omega arith)

-- The rows before the place stand below the address, those from it on don't.
abbrev pub IsPlaceOf : List Row → ℕ → ℕ → Type 0
IsPlaceOf rows address place =
    IsPartitionPoint (λ (row : Row). nat_lt row.address address ≡ true) (λ (row : Row). nat_lt row.address address ≡ false) rows place

-- A row of the address stands at the place.
at_place : (rows : List Row) (address place : ℕ) → Rise rows → IsPlaceOf rows address place → (has : HasRow rows address) →
    (k : ℕ) → k < length rows → get_or rows k has.row ≡ has.row → (place ≤ k) × ((place < k) → (get_or rows place has.row).address < address)
at_place rows address place rising split has k inside e = (
  by_case (cases_lt k place),
  λ l. subst (λ (a : ℕ). (get_or rows place has.row).address < a) here (rising place k has.row l inside),
)
  where
    here : (get_or rows k has.row).address ≡ address
    here = ap (λ (row : Row). row.address) e ∙ has.same

    by_case : (k < place) ⊎ (place ≤ k) → place ≤ k
    by_case (inr l) = l
    by_case (inl l) =
        let below = ltb-true (get_or rows k has.row).address address (split.0 k has.row (omega arith) l) in
        absurd (omega (arith, below, here))

pub none_past : (rows : List Row) (address place : ℕ) → Rise rows → IsPlaceOf rows address place → length rows ≤ place →
    HasRow rows address → ⊥
none_past rows address place rising split end has =
    let (k, inside, e) = has.listed in
    let at = at_place rows address place rising split has k inside e in
    omega (arith, at.0)

pub none_other : (rows : List Row) (address place : ℕ) (row : Row) → Rise rows → IsPlaceOf rows address place →
    place < length rows → get_or rows place row ≡ row → (row.address ≡ address → ⊥) → HasRow rows address → ⊥
none_other rows address place row rising split there is differ has =
    let (k, inside, e) = has.listed in
    let at = at_place rows address place rising split has k inside e in
    by_case k inside e at (cases_lt place k)
  where
    same : get_or rows place has.row ≡ row
    same = get_or_default rows place has.row row there ∙ is

    by_case : (k : ℕ) → k < length rows → get_or rows k has.row ≡ has.row →
        (place ≤ k) × ((place < k) → (get_or rows place has.row).address < address) → (place < k) ⊎ (k ≤ place) → ⊥
    by_case k inside e at (inl l) =
        let below = at.1 l in
        let above = ltb-false (get_or rows place has.row).address address (split.1 place has.row (omega arith) there) in
        omega arith
    by_case k inside e at (inr m) =
        let one : k ≡ place = omega (arith, at.0) in
        let found : has.row ≡ row = sym e ∙ subst (λ (i : ℕ). get_or rows i has.row ≡ row) (sym one) same in
        differ (ap (λ (r : Row). r.address) (sym found) ∙ has.same)
