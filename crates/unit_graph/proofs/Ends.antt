-- The return units that are seen.
use Rattle.std.proofs.Common.{◌≡◌, ℕ, true, false, List, [], ◌∷◌, ◌++◌, sym, subst, inl, inr, ◌⊎◌}
use Rattle.std.specs.Prelude.{Contains}
use Rattle.std.proofs.lemmas.List.Elements.{Contains-append_left, Contains-push, Contains-push_cases}
use Rattle.unit_graph.specs.Inference.{IsEnd, returns_at}
use Rattle.unit_graph.specs.Search.{Sees}
use Rattle.unit_graph.specs.declared.rows.Row.{Row}
use Rattle.code_units.proofs.Lists.{alone, in_none, itself}
use Rattle.unit_graph.proofs.Seen.{Sees-none, Sees-same, Sees-then}

pub ends_nobody : (seen waiting : List ℕ) → Sees (IsEnd []) seen waiting seen waiting
ends_nobody seen waiting =
    Sees-none (IsEnd []) seen waiting (λ x h. absurd (in_none h.row h.listed)) (λ x h. absurd (in_none h.row h.listed))

-- It doesn't return.
pub ends_not : (row : Row) (seen waiting : List ℕ) → returns_at row.content ≡ false →
    Sees (IsEnd (row ∷ [])) seen waiting seen waiting
ends_not row seen waiting e = Sees-none (IsEnd (row ∷ [])) seen waiting (λ x h. absurd (no x h)) (λ x h. absurd (no x h))
  where
    no : (x : ℕ) → IsEnd (row ∷ []) x → ⊥
    no x h = let f = subst (λ (r : Row). returns_at r.content ≡ true) (sym (alone row h.row h.listed)) h.returns in cc

pub ends_one : (row : Row) (seen waiting later_seen later_waiting : List ℕ) → returns_at row.content ≡ true →
    Sees (λ x. row.address ≡ x) seen waiting later_seen later_waiting → Sees (IsEnd (row ∷ [])) seen waiting later_seen later_waiting
ends_one row seen waiting later_seen later_waiting e sees =
    Sees-same (λ x. row.address ≡ x) (IsEnd (row ∷ [])) seen waiting later_seen later_waiting
    (λ x h. record { row = row; listed = itself row; returns = e; same = h })
    (λ x h. subst (λ (r : Row). r.address ≡ x) (sym (alone row h.row h.listed)) h.same)
    sees

pub ends_more : (before : List Row) (row : Row) (seen waiting seen1 waiting1 seen2 waiting2 : List ℕ) →
    Sees (IsEnd before) seen waiting seen1 waiting1 → Sees (IsEnd (row ∷ [])) seen1 waiting1 seen2 waiting2 →
    Sees (IsEnd (before ++ row ∷ [])) seen waiting seen2 waiting2
ends_more before row seen waiting seen1 waiting1 seen2 waiting2 f g =
    Sees-same (λ x. IsEnd before x ⊎ IsEnd (row ∷ []) x) (IsEnd (before ++ row ∷ [])) seen waiting seen2 waiting2
    (λ x h. elim h [
      | inl p ↦ record { row = p.row; listed = Contains-append_left before (row ∷ []) p.row p.listed; returns = p.returns; same = p.same }
      | inr q ↦ record { row = q.row; listed = subst (Contains (before ++ row ∷ [])) (alone row q.row q.listed) (Contains-push before row); returns = q.returns; same = q.same }
    ])
    (λ x h. elim (Contains-push_cases before row h.row h.listed) [
      | inl p ↦ inl (record { row = h.row; listed = p; returns = h.returns; same = h.same })
      | inr q ↦ inr (record { row = h.row; listed = subst (Contains (row ∷ [])) q (itself row); returns = h.returns; same = h.same })
    ])
    (Sees-then (IsEnd before) (IsEnd (row ∷ [])) seen waiting seen1 waiting1 seen2 waiting2 f g)
