-- A table with one entry more at its end.
use Rattle.std.proofs.Common.{◌≡◌, ℕ, ◌+◌, ◌<◌, List, [], ◌∷◌, ◌++◌, length, get_or, sym, subst, inl, inr, arith}
use Rattle.std.proofs.lemmas.Bool.{cases_eq}
use Rattle.std.proofs.lemmas.List.{get_or_append_left, get_or_push}

-- What holds of each entry holds of each after a push.
pub pushed-all : {T : Type 0} (table : List T) (value d : T) (P : ℕ → T → Type 0) (n : ℕ) → length table ≡ n →
    ((i : ℕ) → i < n → P i (get_or table i d)) → P n value →
    (i : ℕ) → i < n + 1 → P i (get_or (table ++ value ∷ []) i d)
pushed-all {T} table value d P n size were last i low =
    elim (cases_eq i n) as (λ _. P i (get_or (table ++ value ∷ []) i d)) [
      | inl e ↦ subst (λ (x : T). P i x) (sym (get_or_push table value d i (omega (arith, size, e))))
          (subst (λ (k : ℕ). P k value) (sym e) last)
      | inr differ ↦ subst (λ (x : T). P i x)
          (sym (get_or_append_left table (value ∷ []) d i (omega (arith, size, low, differ))))
          (were i (omega (arith, low, differ)))
    ]
