-- What is seen behind a unit, and what its row says of the unit.
use Rattle.std.proofs.Common.{◌≡◌, ℕ, ◌+◌, ◌<◌, ◌^◌, List, [], ◌∷◌, length, refl, sym, subst, ap, arith, inl, inr, ◌⊎◌}
use Rattle.std.specs.Prelude.{Contains}
use Rattle.std.proofs.lemmas.List.Elements.{All-contains}
use Rattle.elf_mips.specs.declared.image.Image.{Image}
use Rattle.net_model.specs.declared.unit.Content.{Content}
use Rattle.net_model.specs.declared.unit.Content.TheVariants.{Unit as Stands, Fault}
use Rattle.code_units.specs.Sets.{IsSetOf}
use Rattle.unit_graph.specs.Rows.{IsRow, MayLead, MayLeadAt, calls_of_content, ways_of_content}
use Rattle.unit_graph.specs.Search.{Sees}
use Rattle.code_units.specs.Ways.{IfPlaced}
use Rattle.unit_graph.specs.declared.rows.Row.{Row}
use Rattle.unit_graph.proofs.Seen.{Sees-same, Sees-then}

empty_if : (xs : List ℕ) → length xs ≡ 0 → xs ≡ []
empty_if [] e = refl
empty_if (x ∷ xs) e = absurd (omega arith)

both : (row : Row) (onward calls seen waiting seen1 waiting1 seen2 waiting2 : List ℕ) → onward ≡ row.onward → calls ≡ row.calls →
    Sees (Contains onward) seen waiting seen1 waiting1 → Sees (Contains calls) seen1 waiting1 seen2 waiting2 →
    Sees (λ x. Contains row.onward x ⊎ Contains row.calls x) seen waiting seen2 waiting2
both row onward calls seen waiting seen1 waiting1 seen2 waiting2 e f g h =
    Sees-then (Contains row.onward) (Contains row.calls) seen waiting seen1 waiting1 seen2 waiting2
    (subst (λ (xs : List ℕ). Sees (Contains xs) seen waiting seen1 waiting1) e g)
    (subst (λ (xs : List ℕ). Sees (Contains xs) seen1 waiting1 seen2 waiting2) f h)

-- It calls nothing.
pub Sees-no_calls : (row : Row) (onward calls seen waiting seen1 waiting1 seen2 waiting2 : List ℕ) → onward ≡ row.onward →
    calls ≡ row.calls → Sees (Contains onward) seen waiting seen1 waiting1 → Sees (Contains calls) seen1 waiting1 seen2 waiting2 →
    length row.calls ≡ 0 → Sees (MayLead row) seen waiting seen2 waiting2
Sees-no_calls row onward calls seen waiting seen1 waiting1 seen2 waiting2 e f g h none =
    Sees-same (λ x. Contains row.onward x ⊎ Contains row.calls x) (MayLead row) seen waiting seen2 waiting2
    (λ x w. elim w [ inl p ↦ inl p | inr q ↦ inr (inl q) ])
    (λ x w. elim w [ inl p ↦ inl p | inr q ↦ elim q [ inl r ↦ inr r | inr s ↦ absurd (s.0 (empty_if row.calls none)) ] ])
    (both row onward calls seen waiting seen1 waiting1 seen2 waiting2 e f g h)

-- It calls something, so that it may come back.
pub Sees-calls : (row : Row) (onward calls seen waiting seen1 waiting1 seen2 waiting2 seen3 waiting3 : List ℕ) →
    onward ≡ row.onward → calls ≡ row.calls →
    Sees (Contains onward) seen waiting seen1 waiting1 → Sees (Contains calls) seen1 waiting1 seen2 waiting2 →
    Sees (λ x. row.address + 8 ≡ x) seen2 waiting2 seen3 waiting3 →
    (row.calls ≡ [] → ⊥) → Sees (MayLead row) seen waiting seen3 waiting3
Sees-calls row onward calls seen waiting seen1 waiting1 seen2 waiting2 seen3 waiting3 e f g h k some =
    Sees-same (λ x. (Contains row.onward x ⊎ Contains row.calls x) ⊎ (row.address + 8 ≡ x)) (MayLead row) seen waiting seen3 waiting3
    (λ x w. elim w [ inl p ↦ elim p [ inl r ↦ inl r | inr s ↦ inr (inl s) ] | inr q ↦ inr (inr (some, sym q)) ])
    (λ x w. elim w [ inl p ↦ inl (inl p) | inr q ↦ elim q [ inl r ↦ inl (inr r) | inr s ↦ inr (sym s.1) ] ])
    (Sees-then (λ x. Contains row.onward x ⊎ Contains row.calls x) (λ x. row.address + 8 ≡ x) seen waiting seen2 waiting2 seen3 waiting3
    (both row onward calls seen waiting seen1 waiting1 seen2 waiting2 e f g h) k)

-- Behind a unit that calls something no address wraps.
pub low_calls : (image : Image) (row : Row) → IsRow image row → (row.calls ≡ [] → ⊥) → row.address + 8 < 2 ^ 32
low_calls image row is some = by_case row.content is.placed is.calls
  where
    none : (xs : List ℕ) → IsSetOf [] xs → xs ≡ []
    none [] set = refl
    none (x ∷ xs) set =
        let (k, inside, e) = set.sound 0 x (omega arith) in absurd (omega arith)

    by_case : (content : Content) → IfPlaced content row.address → IsSetOf (calls_of_content image content row.address) row.calls →
        row.address + 8 < 2 ^ 32
    by_case (Stands unit) placed set = placed.low
    by_case (Fault kind place) placed set = absurd (some (none row.calls set))

some_of : (xs : List ℕ) → (xs ≡ [] → ⊥) → (x : ℕ) × Contains xs x
some_of [] some = absurd (some refl)
some_of (x ∷ xs) some = (x, (0, omega arith, refl))

pub not_empty : (xs : List ℕ) (x : ℕ) → Contains xs x → xs ≡ [] → ⊥
not_empty [] x (k, inside, e) f = omega arith
not_empty (y ∷ xs) x h f = cc

-- What the row's unit may lead to is what the unit at its address may lead to.
pub far_by : (image : Image) (row : Row) (later : ℕ) → IsRow image row → MayLead row later → MayLeadAt image row.address later
far_by image row later is may =
    subst (λ (content : Content). Contains (ways_of_content image content row.address) later
    ⊎ (Contains (calls_of_content image content row.address) later
    ⊎ ((callee : ℕ) × Contains (calls_of_content image content row.address) callee × (later ≡ row.address + 8)))) is.content
    (elim may [
      | inl p ↦ inl (All-contains (Contains (ways_of_content image row.content row.address)) row.onward later is.onward.sound p)
      | inr q ↦ elim q [
        | inl r ↦ inr (inl (All-contains (Contains (calls_of_content image row.content row.address)) row.calls later is.calls.sound r))
        | inr s ↦
            let one = some_of row.calls s.0 in
            inr (inr (one.0, All-contains (Contains (calls_of_content image row.content row.address)) row.calls one.0 is.calls.sound one.1, s.1))
      ]
    ])

pub far_back : (image : Image) (row : Row) (later : ℕ) → IsRow image row → MayLeadAt image row.address later → MayLead row later
far_back image row later is may =
    by (subst (λ (content : Content). Contains (ways_of_content image content row.address) later
    ⊎ (Contains (calls_of_content image content row.address) later
    ⊎ ((callee : ℕ) × Contains (calls_of_content image content row.address) callee × (later ≡ row.address + 8)))) (sym is.content) may)
  where
    by : Contains (ways_of_content image row.content row.address) later
        ⊎ (Contains (calls_of_content image row.content row.address) later
        ⊎ ((callee : ℕ) × Contains (calls_of_content image row.content row.address) callee × (later ≡ row.address + 8))) →
        MayLead row later
    by (inl p) = inl (All-contains (Contains row.onward) (ways_of_content image row.content row.address) later is.onward.whole p)
    by (inr (inl r)) = inr (inl (All-contains (Contains row.calls) (calls_of_content image row.content row.address) later is.calls.whole r))
    by (inr (inr (callee, there, e))) =
        inr (inr (not_empty row.calls callee (All-contains (Contains row.calls) (calls_of_content image row.content row.address) callee is.calls.whole there), e))

pub low_some : (image : Image) (row : Row) → IsRow image row → 0 < length row.calls → row.address + 8 < 2 ^ 32
low_some image row is some =
    low_calls image row is (λ e. omega (arith, ap (λ (xs : List ℕ). length xs) e))
