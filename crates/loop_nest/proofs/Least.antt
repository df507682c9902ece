-- The least number of which something holds.
use Rattle.std.proofs.Common.{◌≡◌, ℕ, ◌≤◌, Option, Some, None, refl, subst, arith, inl, inr, ◌⊎◌, min}
use Rattle.std.proofs.lemmas.Bool.{cases_lt}
use Rattle.std.proofs.lemmas.Option.{same_Some}
use Rattle.loop_nest.specs.Bounds.{IsLeastOf, lesser_of}

-- Of what holds as well.
pub least_equal : (P Q : ℕ → Type 0) (found : Option ℕ) → ((x : ℕ) → P x → Q x) → ((x : ℕ) → Q x → P x) →
    IsLeastOf P found → IsLeastOf Q found
least_equal P Q None on back least = λ x q. least x (back x q)
least_equal P Q (Some b) on back least = (on b least.0, λ x q. least.1 x (back x q))

-- Of what lies above numbers of which the first thing holds.
pub least_above : (P Q : ℕ → Type 0) (found : Option ℕ) → ((x : ℕ) → P x → Q x) → ((x : ℕ) → Q x → (y : ℕ) × P y × (y ≤ x)) →
    IsLeastOf P found → IsLeastOf Q found
least_above P Q None on down least = λ x q. let below = down x q in least below.0 below.1
least_above P Q (Some b) on down least =
    (on b least.0, λ x q. let below = down x q in omega (arith, least.1 below.0 below.1, below.2))

-- Of one number, if there is one.
pub least_just : (found : Option ℕ) → IsLeastOf (λ x. found ≡ Some x) found
least_just None = λ x e. cc
least_just (Some b) = (refl, λ x e. let same : b ≡ x = same_Some b x e in omega (arith, same))

-- Of either thing.
pub least_either : (P Q : ℕ → Type 0) (a b : Option ℕ) → IsLeastOf P a → IsLeastOf Q b →
    IsLeastOf (λ x. P x ⊎ Q x) (lesser_of a b)
least_either P Q None None none free = all
  where
    all : (x : ℕ) → P x ⊎ Q x → ⊥
    all x (inl p) = none x p
    all x (inr q) = free x q
least_either P Q None (Some y) none least = (inr least.0, all)
  where
    all : (x : ℕ) → P x ⊎ Q x → y ≤ x
    all x (inl p) = absurd (none x p)
    all x (inr q) = least.1 x q
least_either P Q (Some x) None least none = (inl least.0, all)
  where
    all : (z : ℕ) → P z ⊎ Q z → x ≤ z
    all z (inl p) = least.1 z p
    all z (inr q) = absurd (none z q)
least_either P Q (Some x) (Some y) one two = (which, all)
  where
    which : P (min x y) ⊎ Q (min x y)
    which = elim (cases_lt y x) as (λ _. P (min x y) ⊎ Q (min x y)) [
      | inl less ↦ inr (subst Q (let e : y ≡ min x y = omega (arith, less) in e) two.0)
      | inr more ↦ inl (subst P (let e : x ≡ min x y = omega (arith, more) in e) one.0)
    ]

    all : (z : ℕ) → P z ⊎ Q z → min x y ≤ z
    all z (inl p) = omega (arith, one.1 z p)
    all z (inr q) = omega (arith, two.1 z q)
