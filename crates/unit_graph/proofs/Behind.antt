-- What is seen behind a unit, once it is known which functions can return.
use Rattle.std.proofs.Common.{◌≡◌, ℕ, ◌+◌, ◌<◌, List, [], ◌∷◌, ◌++◌, get_or, length, refl, sym, subst, ap, ◌∙◌, arith, inl, inr, ◌⊎◌}
use Rattle.std.specs.Prelude.{Contains}
use Rattle.std.proofs.lemmas.Bool.{cases_order}
use Rattle.std.proofs.lemmas.List.{get_or_default}
use Rattle.std.proofs.lemmas.List.Elements.{Contains-push_cases}
use Rattle.unit_graph.specs.Flow.{ComesBack, Follows, Leads, LeadsFrom, SomeReturns}
use Rattle.unit_graph.specs.Rows.{HasRow, Rise}
use Rattle.unit_graph.specs.Search.{Gains, Sees}
use Rattle.unit_graph.specs.declared.flow.Reach.{Reach}
use Rattle.unit_graph.specs.declared.flow.Reach.TheVariants.{Function, Program}
use Rattle.unit_graph.specs.declared.rows.Row.{Row}
use Rattle.code_units.proofs.Lists.{in_none}
use Rattle.unit_graph.proofs.Gaining.{Gains-none, Gains-same}
use Rattle.unit_graph.proofs.Seen.{Sees-none, Sees-same, Sees-then}

pub some_none : (returning : List ℕ) → SomeReturns returning [] → ⊥
some_none returning some = in_none some.callee some.called

pub some_more : (returning before : List ℕ) (callee : ℕ) → (SomeReturns returning before → ⊥) →
    (Contains returning callee → ⊥) → SomeReturns returning (before ++ callee ∷ []) → ⊥
some_more returning before callee none not some =
    elim (Contains-push_cases before callee some.callee some.called) as (λ _. ⊥) [
      | inl p ↦ none (record { callee = some.callee; called = p; returns = some.returns })
      | inr e ↦ not (subst (Contains returning) (sym e) some.returns)
    ]

pub some_here : (returning calls : List ℕ) (k : ℕ) → k < length calls → Contains returning (get_or calls k 0) →
    SomeReturns returning calls
some_here returning calls k inside h = record {
  callee = get_or calls k 0;
  called = (k, inside, get_or_default calls k (get_or calls k 0) 0 inside);
  returns = h;
}

-- None of the functions can return.
pub behind_not : (returning : List ℕ) (row : Row) (seen waiting : List ℕ) → (SomeReturns returning row.calls → ⊥) →
    Sees (ComesBack returning row) seen waiting seen waiting
behind_not returning row seen waiting none =
    Sees-none (ComesBack returning row) seen waiting (λ x h. absurd (none h.0)) (λ x h. absurd (none h.0))

pub behind_one : (returning : List ℕ) (row : Row) (seen waiting later_seen later_waiting : List ℕ) → SomeReturns returning row.calls →
    Sees (λ x. row.address + 8 ≡ x) seen waiting later_seen later_waiting →
    Sees (ComesBack returning row) seen waiting later_seen later_waiting
behind_one returning row seen waiting later_seen later_waiting some sees =
    Sees-same (λ x. row.address + 8 ≡ x) (ComesBack returning row) seen waiting later_seen later_waiting
    (λ x h. (some, h)) (λ x h. h.1) sees

pub behind_none : (returning : List ℕ) (row : Row) (keys : List ℕ) → (SomeReturns returning row.calls → ⊥) →
    Gains (ComesBack returning row) keys keys
behind_none returning row keys none = Gains-none (ComesBack returning row) keys (λ x h. absurd (none h.0))

pub behind_added : (returning : List ℕ) (row : Row) (keys later : List ℕ) → SomeReturns returning row.calls →
    Gains (λ x. row.address + 8 ≡ x) keys later → Gains (ComesBack returning row) keys later
behind_added returning row keys later some gains =
    Gains-same (λ x. row.address + 8 ≡ x) (ComesBack returning row) keys later (λ x h. (some, h)) (λ x h. h.1) gains

pub some_called : (returning calls : List ℕ) → SomeReturns returning calls → 0 < length calls
some_called returning calls some = let (k, inside, e) = some.called in omega arith

-- In a function nothing that is called is seen.
pub row_alone : (returning : List ℕ) (reach : Reach) (row : Row) (seen waiting later_seen later_waiting : List ℕ) → reach ≡ Function →
    Sees (Follows returning row) seen waiting later_seen later_waiting →
    Sees (LeadsFrom returning reach row) seen waiting later_seen later_waiting
row_alone returning reach row seen waiting later_seen later_waiting e sees =
    Sees-same (Follows returning row) (LeadsFrom returning reach row) seen waiting later_seen later_waiting
    (λ x h. inl h)
    (λ x h. elim h [ inl p ↦ p | inr q ↦ absurd (apart (sym e ∙ q.0)) ])
    sees
  where
    apart : Function ≡ Program → ⊥
    apart e = cc

pub row_program : (returning : List ℕ) (reach : Reach) (row : Row) (calls seen waiting seen1 waiting1 seen2 waiting2 : List ℕ) →
    (reach ≡ Function → ⊥) → calls ≡ row.calls →
    Sees (Follows returning row) seen waiting seen1 waiting1 → Sees (Contains calls) seen1 waiting1 seen2 waiting2 →
    Sees (LeadsFrom returning reach row) seen waiting seen2 waiting2
row_program returning reach row calls seen waiting seen1 waiting1 seen2 waiting2 not e f g =
    Sees-same (λ x. Follows returning row x ⊎ Contains row.calls x) (LeadsFrom returning reach row) seen waiting seen2 waiting2
    (λ x h. elim h [ inl p ↦ inl p | inr q ↦ inr (is_program reach not, q) ])
    (λ x h. elim h [ inl p ↦ inl p | inr q ↦ inr q.1 ])
    (Sees-then (Follows returning row) (Contains row.calls) seen waiting seen1 waiting1 seen2 waiting2 f
    (subst (λ (xs : List ℕ). Sees (Contains xs) seen1 waiting1 seen2 waiting2) e g))
  where
    is_program : (r : Reach) → (r ≡ Function → ⊥) → r ≡ Program
    is_program Function differ = absurd (differ refl)
    is_program Program differ = refl

-- The unit of an address is that of its one row.
pub same_row : (rows : List Row) (row other : Row) → Rise rows → Contains rows row → Contains rows other → row.address ≡ other.address →
    other ≡ row
same_row rows row other rising (i, hi, ei) (j, hj, ej) same = by_case (cases_order i j)
  where
    at_i : get_or rows i row ≡ row
    at_i = ei

    at_j : get_or rows j row ≡ other
    at_j = get_or_default rows j row other hj ∙ ej

    by_case : (i ≡ j) ⊎ ((i < j) ⊎ (j < i)) → other ≡ row
    by_case (inl e) = sym at_j ∙ subst (λ (k : ℕ). get_or rows k row ≡ row) e at_i
    by_case (inr (inl l)) =
        let less = rising i j row l hj in
        absurd (omega (arith, less, same, ap (λ (r : Row). r.address) at_i, ap (λ (r : Row). r.address) at_j))
    by_case (inr (inr l)) =
        let less = rising j i row l hi in
        absurd (omega (arith, less, same, ap (λ (r : Row). r.address) at_i, ap (λ (r : Row). r.address) at_j))

pub leads_nowhere : (rows : List Row) (returning : List ℕ) (reach : Reach) (address : ℕ) (seen waiting : List ℕ) →
    (HasRow rows address → ⊥) → Sees (Leads rows returning reach address) seen waiting seen waiting
leads_nowhere rows returning reach address seen waiting none =
    Sees-none (Leads rows returning reach address) seen waiting (λ x h. absurd (no x h)) (λ x h. absurd (no x h))
  where
    no : (x : ℕ) → Leads rows returning reach address x → ⊥
    no x h = none (record { row = h.row; listed = h.listed; same = h.same })

pub leads_row : (rows : List Row) (returning : List ℕ) (reach : Reach) (address : ℕ) (row : Row) (seen waiting later_seen later_waiting : List ℕ) →
    Rise rows → Contains rows row → row.address ≡ address →
    Sees (LeadsFrom returning reach row) seen waiting later_seen later_waiting →
    Sees (Leads rows returning reach address) seen waiting later_seen later_waiting
leads_row rows returning reach address row seen waiting later_seen later_waiting rising listed same sees =
    Sees-same (LeadsFrom returning reach row) (Leads rows returning reach address) seen waiting later_seen later_waiting
    (λ x h. record { row = row; listed = listed; same = same; leads = h })
    (λ x h. subst (λ (r : Row). LeadsFrom returning reach r x)
    (same_row rows row h.row rising listed h.listed (same ∙ sym h.same)) h.leads)
    sees
