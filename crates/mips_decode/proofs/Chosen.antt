-- What holds of the instruction that a choice gives, if it gives one.
use Rattle.std.proofs.Common.{subst, ◌≡◌, ℕ, ◌==◌, Bool, true, false, cond, List, [], ◌∷◌, refl}
use Rattle.std.specs.Prelude.{Option, Some, None, IfSome}
use Rattle.std.specs.Bool.{then_some}
use Rattle.std.specs.List.{find}
use Rattle.std.specs.Option.{option_map_or, option_map}
use Rattle.std.proofs.lemmas.Bool.{eqb-true}

-- What a search finds passes its test.
IfSome-find : {X : Type 0} (test : X → Bool) (xs : List X) → IfSome (find test xs) (λ x. test x ≡ true)
IfSome-find test [] = tt
IfSome-find test (x ∷ xs) =
    elim (test x) as (λ b. test x ≡ b → IfSome (cond b (Some x) (find test xs)) (λ x. test x ≡ true)) [
      | true ↦ λ e. e
      | false ↦ λ e. IfSome-find test xs
    ] refl

-- What a look-up by number finds has that number.
pub IfSome-numbered : {X : Type 0} (number : X → ℕ) (n : ℕ) (xs : List X) (x : X) →
    find (λ op. n == number op) xs ≡ Some x → n ≡ number x
IfSome-numbered number n xs x e =
    eqb-true n (number x) (subst (λ o. IfSome o (λ op. (n == number op) ≡ true)) e (IfSome-find (λ op. n == number op) xs))

pub IfSome-cond : {X : Type 0} (P : X → Type 0) (b : Bool) (o p : Option X) →
    (b ≡ true → IfSome o P) → (b ≡ false → IfSome p P) → IfSome (cond b o p) P
IfSome-cond P true o p f g = f refl
IfSome-cond P false o p f g = g refl

pub IfSome-then_some : {X : Type 0} (P : X → Type 0) (b : Bool) (x : X) →
    (b ≡ true → P x) → IfSome (then_some b x) P
IfSome-then_some P true x f = f refl
IfSome-then_some P false x f = tt

pub IfSome-map_or : {X Y : Type 0} (P : Y → Type 0) (f : X → Option Y) (o : Option X) (d : Option Y) →
    ((x : X) → o ≡ Some x → IfSome (f x) P) → IfSome d P → IfSome (option_map_or f o d) P
IfSome-map_or P f None d g h = h
IfSome-map_or P f (Some x) d g h = g x refl

pub IfSome-map : {X Y : Type 0} (P : Y → Type 0) (f : X → Y) (o : Option X) →
    ((x : X) → o ≡ Some x → P (f x)) → IfSome (option_map f o) P
IfSome-map P f None g = tt
IfSome-map P f (Some x) g = g x refl
