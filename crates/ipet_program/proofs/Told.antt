-- Tests of what can be told either way.
use Rattle.std.proofs.Common.{◌≡◌, Bool, true, false, refl, sym, inl, inr, ◌⊎◌}

-- What is told either way.
abbrev pub told : {P : Type 0} → P ⊎ (P → ⊥) → Bool
told (inl p) = true
told (inr p) = false

pub told-holds : {P : Type 0} (d : P ⊎ (P → ⊥)) → told d ≡ true → P
told-holds (inl p) e = p
told-holds (inr p) e = cc

pub holds-told : {P : Type 0} (d : P ⊎ (P → ⊥)) → P → told d ≡ true
holds-told (inl p) e = refl
holds-told (inr p) e = absurd (p e)

-- Tests that hold together are the same.
pub same_told : (a b : Bool) → (a ≡ true → b ≡ true) → (b ≡ true → a ≡ true) → a ≡ b
same_told true true f g = refl
same_told true false f g = sym (f refl)
same_told false true f g = g refl
same_told false false f g = refl

pub not_told : (a : Bool) → (a ≡ true → ⊥) → a ≡ false
not_told true f = absurd (f refl)
not_told false f = refl
