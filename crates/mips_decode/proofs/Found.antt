-- What a search gives, when an item that passes its test stands in the list.
use Rattle.std.proofs.Common.{subst, ◌≡◌, ℕ, zero, suc, Bool, true, false, cond, List, [], ◌∷◌, refl, sym, ap, ◌∙◌}
use Rattle.std.specs.Prelude.{Some, is_some}
use Rattle.std.specs.List.{find}

-- The item at a place of a list.
abbrev pub StandsAt : {X : Type 0} → ℕ → List X → X → Type 0
StandsAt k [] x = ⊥
StandsAt zero (y ∷ ys) x = y ≡ x
StandsAt (suc k) (y ∷ ys) x = StandsAt k ys x

pub is_some-find : {X : Type 0} (test : X → Bool) (k : ℕ) (xs : List X) (x : X) → StandsAt k xs x → test x ≡ true →
    is_some (find test xs) ≡ true
is_some-find test k [] x at pass = absurd at
is_some-find test zero (y ∷ ys) x at pass =
    subst (λ b. is_some (cond b (Some y) (find test ys)) ≡ true) (sym (ap test at ∙ pass)) refl
is_some-find test (suc k) (y ∷ ys) x at pass =
    elim (test y) as (λ b. is_some (cond b (Some y) (find test ys)) ≡ true) [
      | true ↦ refl
      | false ↦ is_some-find test k ys x at pass
    ]
