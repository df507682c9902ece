-- The scopes round a scope, from one of them inward: they are found by the chain outward.
use Rattle.std.proofs.Common.{◌≡◌, ℕ, zero, suc, ◌+◌, ◌-◌, ◌<◌, ◌≤◌, ◌==◌, Bool, true, false, List, [], ◌∷◌, ◌++◌, length, get_or, reverse, All, Option, Some, None, refl, sym, ◌∙◌, ap, subst, inl, inr, arith, true≢false}
use Rattle.std.specs.Prelude.{if◌then◌else◌}
use Rattle.std.proofs.lemmas.Bool.Decides.{Decides-eqb}
use Rattle.std.proofs.lemmas.List.{append_assoc, reverse-append}
use Rattle.std.proofs.lemmas.Option.{none-some}
use Rattle.flow_net.specs.Numbers.{item_at, IsNumberOrZero}
use Rattle.flow_net.specs.Scopes.{ChainsEnd, IsWithin, after_outer, scopes_to}
use Rattle.flow_net.specs.Scopes.IsWithin.{here, out}
use Rattle.flow_net.specs.declared.net.LoopInst.{LoopInst}
use Rattle.flow_net.proofs.Chains.{IsShort, chains-short, within-zero}
use Rattle.flow_net.proofs.Numbers.{item_at-all, item_at-there, item_at-within}
use Rattle.flow_net.proofs.Within.{within-cases, within-next}
use Rattle.ipet_program.specs.Stages.{from_scope}
use Rattle.ipet_program.proofs.Numbered.{item-number}
use Rattle.ipet_program.proofs.Told.{not_told}

-- Whether a scope is listed.
abbrev is_in : ℕ → List ℕ → Bool
is_in scope [] = false
is_in scope (own ∷ more) = if own == scope then true else is_in scope more

test_same : (a b : ℕ) → a ≡ b → (a == b) ≡ true
test_same a b e = (Decides-eqb a b).1 e

test_other : (a b : ℕ) → (a ≡ b → ⊥) → (a == b) ≡ false
test_other a b differ = not_told (a == b) (λ e. differ ((Decides-eqb a b).0 e))

-- ---- Lists that go on.
from_in_by : (scope own : ℕ) (xs ys : List ℕ) → (is_in scope xs ≡ true → from_scope scope (xs ++ ys) ≡ from_scope scope xs ++ ys) →
    (b : Bool) → (if b then true else is_in scope xs) ≡ true →
    (if b then own ∷ (xs ++ ys) else from_scope scope (xs ++ ys)) ≡ (if b then own ∷ xs else from_scope scope xs) ++ ys
from_in_by scope own xs ys rest true e = refl
from_in_by scope own xs ys rest false e = rest e

from-in : (scope : ℕ) (xs ys : List ℕ) → is_in scope xs ≡ true → from_scope scope (xs ++ ys) ≡ from_scope scope xs ++ ys
from-in scope [] ys e = absurd (true≢false (sym e))
from-in scope (own ∷ xs) ys e = from_in_by scope own xs ys (from-in scope xs ys) (own == scope) e

from_out_by : (scope own : ℕ) (xs ys : List ℕ) → (is_in scope xs ≡ false → from_scope scope (xs ++ ys) ≡ from_scope scope ys) →
    (b : Bool) → (if b then true else is_in scope xs) ≡ false →
    (if b then own ∷ (xs ++ ys) else from_scope scope (xs ++ ys)) ≡ from_scope scope ys
from_out_by scope own xs ys rest true e = absurd (true≢false e)
from_out_by scope own xs ys rest false e = rest e

from-out : (scope : ℕ) (xs ys : List ℕ) → is_in scope xs ≡ false → from_scope scope (xs ++ ys) ≡ from_scope scope ys
from-out scope [] ys e = refl
from-out scope (own ∷ xs) ys e = from_out_by scope own xs ys (from-out scope xs ys) (own == scope) e

in_front_by : (scope : ℕ) (xs ys : List ℕ) → (is_in scope xs ≡ true → is_in scope (xs ++ ys) ≡ true) → (b : Bool) →
    (if b then true else is_in scope xs) ≡ true → (if b then true else is_in scope (xs ++ ys)) ≡ true
in_front_by scope xs ys rest true e = refl
in_front_by scope xs ys rest false e = rest e

in-front : (scope : ℕ) (xs ys : List ℕ) → is_in scope xs ≡ true → is_in scope (xs ++ ys) ≡ true
in-front scope [] ys e = absurd (true≢false (sym e))
in-front scope (own ∷ xs) ys e = in_front_by scope xs ys (in-front scope xs ys) (own == scope) e

in_last_by : (b : Bool) (rest : Bool) → rest ≡ true → (if b then true else rest) ≡ true
in_last_by true rest e = refl
in_last_by false rest e = e

in-last : (scope : ℕ) (xs : List ℕ) → is_in scope (xs ++ scope ∷ []) ≡ true
in-last scope [] = ap (λ (b : Bool). if b then true else false) (test_same scope scope refl)
in-last scope (own ∷ xs) = in_last_by (own == scope) (is_in scope (xs ++ scope ∷ [])) (in-last scope xs)

out_last_by : (scope own : ℕ) (xs : List ℕ) (last : ℕ) →
    (is_in scope xs ≡ false → is_in scope (xs ++ last ∷ []) ≡ false) → (b : Bool) →
    (if b then true else is_in scope xs) ≡ false → (if b then true else is_in scope (xs ++ last ∷ [])) ≡ false
out_last_by scope own xs last rest true e = absurd (true≢false e)
out_last_by scope own xs last rest false e = rest e

out-last : (scope last : ℕ) (xs : List ℕ) → (last ≡ scope → ⊥) → is_in scope xs ≡ false →
    is_in scope (xs ++ last ∷ []) ≡ false
out-last scope last [] differ e = ap (λ (b : Bool). if b then true else false) (test_other last scope differ)
out-last scope last (own ∷ xs) differ e =
    out_last_by scope own xs last (out-last scope last xs differ) (own == scope) e

-- ---- The scopes round a scope.
module _ (loops : List LoopInst) (numbers : All (λ inst. IsNumberOrZero loops inst.outer) loops)
    (chains : IsShort loops) (run : (scope : ℕ) → IsNumberOrZero loops scope → IsWithin loops 0 scope) where
  outer_in : (scope : ℕ) (inst : LoopInst) → item_at scope loops ≡ Some inst → IsNumberOrZero loops inst.outer
  outer_in scope inst there = item_at-all (λ i. IsNumberOrZero loops i.outer) loops scope inst numbers there

  none_zero : (scope : ℕ) → IsNumberOrZero loops scope → item_at scope loops ≡ None → scope ≡ 0
  none_zero zero inside e = refl
  none_zero (suc below) inside e =
      absurd (none-some _ (sym e ∙ item_at-there loops (suc below)
      (record { header = 0; bound = 0; outer = 0 })
      (record { from_one = omega arith; within = inside })))

  shallow_zero : (scope : ℕ) → IsNumberOrZero loops scope → chains.depth scope ≤ 0 → scope ≡ 0
  shallow_zero zero inside small = refl
  shallow_zero (suc below) inside small =
      absurd (omega (
        arith,
        chains.falls (suc below) _ (item_at-there loops (suc below) (record { header = 0; bound = 0; outer = 0 })
            (record { from_one = omega arith; within = inside })),
        small,
      ))

  -- Further steps find no more.
  none_by : (more scope : ℕ) (found : Option LoopInst) → item_at scope loops ≡ found → chains.depth scope ≤ 0 →
      0 ∷ [] ≡ after_outer (scopes_to loops more) scope found
  none_by more scope None e small = refl
  none_by more scope (Some inst) e small = absurd (omega (arith, chains.falls scope inst e, small))

  same_by : (steps more scope : ℕ) (found : Option LoopInst) → item_at scope loops ≡ found →
      ((inst : LoopInst) → item_at scope loops ≡ Some inst → scopes_to loops steps inst.outer ≡ scopes_to loops more inst.outer) →
      after_outer (scopes_to loops steps) scope found ≡ after_outer (scopes_to loops more) scope found
  same_by steps more scope None e rest = refl
  same_by steps more scope (Some inst) e rest = ap (λ (xs : List ℕ). xs ++ scope ∷ []) (rest inst e)

  to-same : (steps more scope : ℕ) → chains.depth scope ≤ steps → steps ≤ more →
      scopes_to loops steps scope ≡ scopes_to loops more scope
  to-same zero zero scope small less = refl
  to-same zero (suc more) scope small less = none_by more scope (item_at scope loops) refl small
  to-same (suc steps) zero scope small less = absurd (omega arith)
  to-same (suc steps) (suc more) scope small less =
      same_by steps more scope (item_at scope loops) refl
      (λ inst there. to-same steps more inst.outer (omega (arith, chains.falls scope inst there, small)) (omega arith))

  -- A scope is listed among those round what is within it.
  here_by : (steps scope : ℕ) → IsNumberOrZero loops scope → (found : Option LoopInst) → item_at scope loops ≡ found →
      is_in scope (after_outer (scopes_to loops steps) scope found) ≡ true
  here_by steps scope inside None e =
      subst (λ (s : ℕ). is_in s (0 ∷ []) ≡ true) (sym (none_zero scope inside e)) refl
  here_by steps scope inside (Some inst) e = in-last scope (scopes_to loops steps inst.outer)

  here-in : (steps scope : ℕ) → IsNumberOrZero loops scope → chains.depth scope ≤ steps →
      is_in scope (scopes_to loops steps scope) ≡ true
  here-in zero scope inside small =
      subst (λ (s : ℕ). is_in s (0 ∷ []) ≡ true) (sym (shallow_zero scope inside small)) refl
  here-in (suc steps) scope inside small = here_by steps scope inside (item_at scope loops) refl

  within-in : (outer scope : ℕ) → IsWithin loops outer scope → (steps : ℕ) → IsNumberOrZero loops scope →
      chains.depth scope ≤ steps → is_in outer (scopes_to loops steps scope) ≡ true
  within-in outer _ here steps inside small = here-in steps outer inside small
  within-in outer _ (out scope inst there w) zero inside small =
      absurd (omega (arith, chains.falls scope inst there, small))
  within-in outer _ (out scope inst there w) (suc steps) inside small =
      subst (λ (found : Option LoopInst). is_in outer (after_outer (scopes_to loops steps) scope found) ≡ true) (sym there)
      (in-front outer (scopes_to loops steps inst.outer) (scope ∷ [])
      (within-in outer inst.outer w steps (outer_in scope inst there)
      (omega (arith, chains.falls scope inst there, small))))

  -- None is listed that is deeper.
  depth-within : (outer scope : ℕ) → IsWithin loops outer scope → chains.depth outer ≤ chains.depth scope
  depth-within outer _ here = omega arith
  depth-within outer _ (out scope inst there w) =
      omega (arith, depth-within outer inst.outer w, chains.falls scope inst there)

  out_run : (deep scope : ℕ) → IsNumberOrZero loops scope → chains.depth scope < chains.depth deep →
      is_in deep (0 ∷ []) ≡ false
  out_run deep scope inside less =
      ap (λ (b : Bool). if b then true else false) (test_other 0 deep (λ e.
      let low : chains.depth 0 ≡ chains.depth deep = ap chains.depth e in
      omega (arith, low, depth-within 0 scope (run scope inside), less)))

  out_by : (steps deep scope : ℕ) → IsNumberOrZero loops scope → chains.depth scope < chains.depth deep →
      (found : Option LoopInst) → item_at scope loops ≡ found →
      ((inst : LoopInst) → item_at scope loops ≡ Some inst → is_in deep (scopes_to loops steps inst.outer) ≡ false) →
      is_in deep (after_outer (scopes_to loops steps) scope found) ≡ false
  out_by steps deep scope inside less None e rest = out_run deep scope inside less
  out_by steps deep scope inside less (Some inst) e rest =
      out-last deep scope (scopes_to loops steps inst.outer)
      (λ same. let alike : chains.depth scope ≡ chains.depth deep = ap chains.depth same in omega (arith, alike, less))
      (rest inst e)

  deeper-out : (steps deep scope : ℕ) → IsNumberOrZero loops scope → chains.depth scope < chains.depth deep →
      is_in deep (scopes_to loops steps scope) ≡ false
  deeper-out zero deep scope inside less = out_run deep scope inside less
  deeper-out (suc steps) deep scope inside less =
      out_by steps deep scope inside less (item_at scope loops) refl
      (λ inst there. deeper-out steps deep inst.outer (outer_in scope inst there)
      (omega (arith, chains.falls scope inst there, less)))

  -- ---- The way outward: one step, and the end.
  outward_by : (steps scope : ℕ) (inst : LoopInst) → item_at scope loops ≡ Some inst → chains.depth scope ≤ steps →
      scopes_to loops steps scope ≡ scopes_to loops steps inst.outer ++ scope ∷ []
  outward_by zero scope inst there small = absurd (omega (arith, chains.falls scope inst there, small))
  outward_by (suc steps) scope inst there small =
      ap (after_outer (scopes_to loops steps) scope) there
      ∙ ap (λ (xs : List ℕ). xs ++ scope ∷ [])
      (to-same steps (suc steps) inst.outer (omega (arith, chains.falls scope inst there, small)) (omega arith))

  from_run : (scope : ℕ) → scope ≡ 0 → from_scope scope (0 ∷ []) ≡ scope ∷ []
  from_run scope e = subst (λ (s : ℕ). from_scope s (0 ∷ []) ≡ s ∷ []) (sym e) refl

  end_by : (steps scope : ℕ) → IsNumberOrZero loops scope → (found : Option LoopInst) → item_at scope loops ≡ found →
      from_scope scope (after_outer (scopes_to loops steps) scope found) ≡ scope ∷ []
  end_by steps scope inside None e = from_run scope (none_zero scope inside e)
  end_by steps scope inside (Some inst) e =
      from-out scope (scopes_to loops steps inst.outer) (scope ∷ [])
      (deeper-out steps scope inst.outer (outer_in scope inst e) (chains.falls scope inst e))
      ∙ ap (λ (b : Bool). if b then scope ∷ [] else []) (test_same scope scope refl)

  end_at : (steps scope : ℕ) → IsNumberOrZero loops scope → chains.depth scope ≤ steps →
      from_scope scope (scopes_to loops steps scope) ≡ scope ∷ []
  end_at zero scope inside small = from_run scope (shallow_zero scope inside small)
  end_at (suc steps) scope inside small = end_by steps scope inside (item_at scope loops) refl

  next_at : (scope around : ℕ) (inst : LoopInst) → item_at around loops ≡ Some inst → (around ≡ scope → ⊥) →
      IsNumberOrZero loops around → IsWithin loops scope around →
      from_scope scope (scopes_to loops (length loops) around)
      ≡ from_scope scope (scopes_to loops (length loops) inst.outer) ++ around ∷ []
  next_at scope around inst there differ inside within =
      ap (from_scope scope) (outward_by (length loops) around inst there (chains.small around inside))
      ∙ from-in scope (scopes_to loops (length loops) inst.outer) (around ∷ [])
      (within-in scope inst.outer (within-next loops scope around inst there differ within) (length loops)
      (outer_in around inst there)
      (chains.small inst.outer (outer_in around inst there)))

-- What is listed so far stands behind the scopes from the first one to where the chain has come.
pub record IsListing (loops : List LoopInst) (scope around : ℕ) (listed whole : List ℕ) : Type 0 where
  pub number : IsNumberOrZero loops around
  pub within : IsWithin loops scope around
  pub made : from_scope scope (scopes_to loops (length loops) around) ++ reverse listed ≡ whole

module _ (loops : List LoopInst) (numbers : All (λ inst. IsNumberOrZero loops inst.outer) loops) (ends : ChainsEnd loops) where
  pub listing-next : (scope around : ℕ) (inst : LoopInst) (listed whole : List ℕ) → item_at around loops ≡ Some inst →
      (around ≡ scope → ⊥) → IsListing loops scope around listed whole →
      IsListing loops scope inst.outer (listed ++ around ∷ []) whole
  listing-next scope around inst listed whole there differ listing = record {
    number = item_at-all (λ i. IsNumberOrZero loops i.outer) loops around inst numbers there;
    within = within-next loops scope around inst there differ listing.within;
    made = ap (λ (xs : List ℕ). from_scope scope (scopes_to loops (length loops) inst.outer) ++ xs) (reverse-append listed (around ∷ []))
        ∙ sym (append_assoc (from_scope scope (scopes_to loops (length loops) inst.outer)) (around ∷ []) (reverse listed))
        ∙ ap (λ (xs : List ℕ). xs ++ reverse listed)
        (sym (next_at loops numbers (chains-short loops numbers ends) (within-zero loops numbers ends) scope around inst there differ
        listing.number listing.within))
        ∙ listing.made;
  }

  pub listing-end : (scope : ℕ) (listed whole : List ℕ) → IsListing loops scope scope listed whole →
      reverse (listed ++ scope ∷ []) ≡ whole
  listing-end scope listed whole listing =
      let short = chains-short loops numbers ends in
      reverse-append listed (scope ∷ [])
      ∙ ap (λ (xs : List ℕ). xs ++ reverse listed)
      (sym (end_at loops numbers short (within-zero loops numbers ends) (length loops) scope listing.number
      (short.small scope listing.number)))
      ∙ listing.made

-- A scope inside another one is no run.
inside-some : (loops : List LoopInst) (scope around : ℕ) → IsWithin loops scope around → (around ≡ scope → ⊥) → 1 ≤ around
inside-some loops scope around within differ =
    elim (within-cases loops scope around within) as (λ _. 1 ≤ around) [
      | inl same ↦ absurd (differ same)
      | inr inside ↦ (item_at-within loops around inside.inst inside.there).from_one
    ]

-- The loop instance that is read there.
pub inside-there : (loops read : List LoopInst) (scope around : ℕ) (d : LoopInst) → read ≡ loops → IsWithin loops scope around →
    IsNumberOrZero loops around → (around ≡ scope → ⊥) → item_at around loops ≡ Some (get_or read (around - 1) d)
inside-there loops read scope around d same within inside differ =
    item-number loops read around d same (inside-some loops scope around within differ) inside
