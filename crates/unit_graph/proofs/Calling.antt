-- What the units at some addresses call.
use Rattle.std.proofs.Common.{◌≡◌, ℕ, List, [], ◌∷◌, ◌++◌, sym, subst, ◌∙◌, inl, inr, ◌⊎◌}
use Rattle.std.specs.Prelude.{Contains}
use Rattle.std.proofs.lemmas.List.Elements.{Contains-append_left, Contains-push, Contains-push_cases}
use Rattle.unit_graph.specs.Program.{CalledFrom, RowCalls}
use Rattle.unit_graph.specs.Rows.{HasRow, Rise}
use Rattle.unit_graph.specs.Search.{Gains}
use Rattle.unit_graph.specs.declared.rows.Row.{Row}
use Rattle.unit_graph.proofs.Behind.{same_row}
use Rattle.code_units.proofs.Lists.{in_none}
use Rattle.unit_graph.proofs.Gaining.{Gains-none, Gains-same, Gains-then}

pub calls_nowhere : (rows : List Row) (address : ℕ) (keys : List ℕ) → (HasRow rows address → ⊥) →
    Gains (RowCalls rows address) keys keys
calls_nowhere rows address keys none = Gains-none (RowCalls rows address) keys (λ x h. absurd (nowhere x h))
  where
    nowhere : (x : ℕ) → RowCalls rows address x → ⊥
    nowhere x h = none (record { row = h.row; listed = h.listed; same = h.same })

pub calls_row : (rows : List Row) (address : ℕ) (row : Row) (keys later : List ℕ) → Rise rows →
    Contains rows row → row.address ≡ address → Gains (Contains row.calls) keys later →
    Gains (RowCalls rows address) keys later
calls_row rows address row keys later rising listed same gains =
    Gains-same (Contains row.calls) (RowCalls rows address) keys later
    (λ x h. record { row = row; listed = listed; same = same; calls = h })
    (λ x h. subst (λ (r : Row). Contains r.calls x)
    (same_row rows row h.row rising listed h.listed (same ∙ sym h.same)) h.calls)
    gains

pub from_nobody : (rows : List Row) (keys : List ℕ) → Gains (CalledFrom rows []) keys keys
from_nobody rows keys = Gains-none (CalledFrom rows []) keys (λ x h. absurd (in_none h.address h.among))

pub from_more : (rows : List Row) (before : List ℕ) (address : ℕ) (keys keys1 keys2 : List ℕ) →
    Gains (CalledFrom rows before) keys keys1 → Gains (RowCalls rows address) keys1 keys2 →
    Gains (CalledFrom rows (before ++ address ∷ [])) keys keys2
from_more rows before address keys keys1 keys2 f g =
    Gains-same (λ x. CalledFrom rows before x ⊎ RowCalls rows address x)
    (CalledFrom rows (before ++ address ∷ [])) keys keys2
    (λ x h. elim h [
      | inl p ↦ record {
        address = p.address;
        among = Contains-append_left before (address ∷ []) p.address p.among;
        calls = p.calls;
      }
      | inr q ↦ record { address = address; among = Contains-push before address; calls = q }
    ])
    (λ x h. elim (Contains-push_cases before address h.address h.among) [
      | inl p ↦ inl (record { address = h.address; among = p; calls = h.calls })
      | inr e ↦ inr (subst (λ (a : ℕ). RowCalls rows a x) (sym e) h.calls)
    ])
    (Gains-then (CalledFrom rows before) (RowCalls rows address) keys keys1 keys2 f g)
