-- How lists of rules grow.
use Rattle.std.proofs.Common.{◌≡◌, ℕ, ◌+◌, List, [], ◌∷◌, ◌++◌, Some, None, sym, subst, inl, inr, ◌⊎◌}
use Rattle.std.specs.Prelude.{Contains}
use Rattle.std.proofs.lemmas.List.Elements.{Contains-append_left, Contains-push, Contains-push_cases}
use Rattle.code_units.proofs.Lists.{alone, in_none, itself}
use Rattle.unit_graph.specs.Inference.{Adds, IsAnyRule, IsCallRule, IsOnwardRule, IsRuleOf}
use Rattle.unit_graph.specs.declared.inference.Rule.{Rule}
use Rattle.unit_graph.specs.declared.rows.Row.{Row}

pub Adds-none : (these : Rule → Type 0) (items : List Rule) → ((rule : Rule) → these rule → ⊥) → Adds these items items
Adds-none these items none = record {
  kept = λ rule h. h;
  there = λ rule h. absurd (none rule h);
  only = λ rule h. inl h;
}

pub Adds-one : (items : List Rule) (one : Rule) → Adds (λ rule. rule ≡ one) items (items ++ one ∷ [])
Adds-one items one = record {
  kept = λ rule h. Contains-append_left items (one ∷ []) rule h;
  there = λ rule e. subst (Contains (items ++ one ∷ [])) (sym e) (Contains-push items one);
  only = λ rule h. elim (Contains-push_cases items one rule h) [ inl p ↦ inl p | inr e ↦ inr (sym e) ];
}

pub Adds-then : (these others : Rule → Type 0) (items middle later : List Rule) → Adds these items middle →
    Adds others middle later → Adds (λ rule. these rule ⊎ others rule) items later
Adds-then these others items middle later f g = record {
  kept = λ rule h. g.kept rule (f.kept rule h);
  there = λ rule h. elim h [ inl p ↦ g.kept rule (f.there rule p) | inr q ↦ g.there rule q ];
  only = λ rule h. elim (g.only rule h) [
    | inl p ↦ elim (f.only rule p) [ inl q ↦ inl q | inr r ↦ inr (inl r) ]
    | inr r ↦ inr (inr r)
  ];
}

pub Adds-same : (these others : Rule → Type 0) (items later : List Rule) → ((rule : Rule) → these rule → others rule) →
    ((rule : Rule) → others rule → these rule) → Adds these items later → Adds others items later
Adds-same these others items later into back f = record {
  kept = f.kept;
  there = λ rule h. f.there rule (back rule h);
  only = λ rule h. elim (f.only rule h) [ inl p ↦ inl p | inr q ↦ inr (into rule q) ];
}

-- One way more.
pub no_onward : (address : ℕ) (rule : Rule) → IsOnwardRule address [] rule → ⊥
no_onward address rule is = in_none is.later is.goes

pub onward_more : (address : ℕ) (before : List ℕ) (later : ℕ) (items middle end : List Rule) →
    Adds (IsOnwardRule address before) items middle →
    end ≡ middle ++ record { given = later; other = None; then = address } ∷ [] →
    Adds (IsOnwardRule address (before ++ later ∷ [])) items end
onward_more address before later items middle end f e =
    let one : Rule = record { given = later; other = None; then = address } in
    subst (Adds (IsOnwardRule address (before ++ later ∷ [])) items) (sym e)
    (Adds-same (λ rule. IsOnwardRule address before rule ⊎ (rule ≡ one)) (IsOnwardRule address (before ++ later ∷ [])) items (middle ++ one ∷ [])
    (λ rule h. elim h [
      | inl p ↦ record { later = p.later; goes = Contains-append_left before (later ∷ []) p.later p.goes; same = p.same }
      | inr q ↦ record { later = later; goes = Contains-push before later; same = q }
    ])
    (λ rule h. elim (Contains-push_cases before later h.later h.goes) [
      | inl p ↦ inl (record { later = h.later; goes = p; same = h.same })
      | inr q ↦ inr (subst (λ (x : ℕ). rule ≡ record { given = x; other = None; then = address }) (sym q) h.same)
    ])
    (Adds-then (IsOnwardRule address before) (λ rule. rule ≡ one) items middle (middle ++ one ∷ []) f (Adds-one middle one)))

-- The two rules of one call.
pub call_rules : (address callee : ℕ) (items middle end : List Rule) →
    middle ≡ items ++ record { given = callee; other = Some (address + 8); then = address } ∷ [] →
    end ≡ middle ++ record { given = address + 8; other = Some callee; then = address } ∷ [] →
    Adds (IsCallRule address (callee ∷ [])) items end
call_rules address callee items middle end e f =
    let one : Rule = record { given = callee; other = Some (address + 8); then = address } in
    let two : Rule = record { given = address + 8; other = Some callee; then = address } in
    Adds-same (λ rule. (rule ≡ one) ⊎ (rule ≡ two)) (IsCallRule address (callee ∷ [])) items end
    (λ rule h. record { callee = callee; called = itself callee; same = h })
    (λ rule h. subst (λ (x : ℕ). (rule ≡ record { given = x; other = Some (address + 8); then = address })
    ⊎ (rule ≡ record { given = address + 8; other = Some x; then = address })) (sym (alone callee h.callee h.called)) h.same)
    (Adds-then (λ rule. rule ≡ one) (λ rule. rule ≡ two) items middle end
    (subst (Adds (λ rule. rule ≡ one) items) (sym e) (Adds-one items one))
    (subst (Adds (λ rule. rule ≡ two) middle) (sym f) (Adds-one middle two)))

-- One call more.
pub no_calls : (address : ℕ) (rule : Rule) → IsCallRule address [] rule → ⊥
no_calls address rule is = in_none is.callee is.called

pub calls_more : (address : ℕ) (before : List ℕ) (callee : ℕ) (items middle end : List Rule) →
    Adds (IsCallRule address before) items middle → Adds (IsCallRule address (callee ∷ [])) middle end →
    Adds (IsCallRule address (before ++ callee ∷ [])) items end
calls_more address before callee items middle end f g =
    Adds-same (λ rule. IsCallRule address before rule ⊎ IsCallRule address (callee ∷ []) rule) (IsCallRule address (before ++ callee ∷ [])) items end
    (λ rule h. elim h [
      | inl p ↦ record { callee = p.callee; called = Contains-append_left before (callee ∷ []) p.callee p.called; same = p.same }
      | inr q ↦ record { callee = q.callee; called = subst (Contains (before ++ callee ∷ [])) (alone callee q.callee q.called) (Contains-push before callee); same = q.same }
    ])
    (λ rule h. elim (Contains-push_cases before callee h.callee h.called) [
      | inl p ↦ inl (record { callee = h.callee; called = p; same = h.same })
      | inr q ↦ inr (record { callee = h.callee; called = subst (Contains (callee ∷ [])) q (itself callee); same = h.same })
    ])
    (Adds-then (IsCallRule address before) (IsCallRule address (callee ∷ [])) items middle end f g)

-- One row more.
pub no_rows : (rule : Rule) → IsAnyRule [] rule → ⊥
no_rows rule is = in_none is.row is.listed

pub rows_more : (before : List Row) (row : Row) (items middle end : List Rule) →
    Adds (IsAnyRule before) items middle → Adds (IsRuleOf row) middle end → Adds (IsAnyRule (before ++ row ∷ [])) items end
rows_more before row items middle end f g =
    Adds-same (λ rule. IsAnyRule before rule ⊎ IsRuleOf row rule) (IsAnyRule (before ++ row ∷ [])) items end
    (λ rule h. elim h [
      | inl p ↦ record { row = p.row; listed = Contains-append_left before (row ∷ []) p.row p.listed; is = p.is }
      | inr q ↦ record { row = row; listed = Contains-push before row; is = q }
    ])
    (λ rule h. elim (Contains-push_cases before row h.row h.listed) [
      | inl p ↦ inl (record { row = h.row; listed = p; is = h.is })
      | inr q ↦ inr (subst (λ (r : Row). IsRuleOf r rule) (sym q) h.is)
    ])
    (Adds-then (IsAnyRule before) (IsRuleOf row) items middle end f g)
