-- Small facts about lists, options and pairs.
use Rattle.std.proofs.Common.{◌≡◌, ℕ, List, [], ◌∷◌, ◌++◌, length, Option, Some, None, refl, sym, ap, ◌∙◌, append_assoc, arith}
use Rattle.std.specs.Prelude.{flat_map}
use Rattle.std.proofs.lemmas.Grind.{flat_map-append}
use Rattle.std.proofs.lemmas.List.{append-nil}
use Rattle.std.proofs.lemmas.List.Concat.{flat_map-cons}

-- An item more gives its text at the end.
pub flat_push : {X : Type 0} (f : X → List ℕ) (xs : List X) (x : X) → flat_map f (xs ++ x ∷ []) ≡ flat_map f xs ++ f x
flat_push f xs x =
    flat_map-append f xs (x ∷ []) ∙ ap (λ (t : List ℕ). flat_map f xs ++ t) (flat_map-cons f x [] ∙ append-nil (f x))

-- An item in front gives its text in front.
pub flat_front : {X : Type 0} (f : X → List ℕ) (x : X) (xs : List X) (behind : List ℕ) →
    flat_map f (x ∷ xs) ++ behind ≡ f x ++ (flat_map f xs ++ behind)
flat_front f x xs behind =
    ap (λ (t : List ℕ). t ++ behind) (flat_map-cons f x xs) ∙ append_assoc (f x) (flat_map f xs) behind

pub some_same : {T : Type 0} (a b : T) → ◌≡◌ {A = Option T} (Some a) (Some b) → a ≡ b
some_same a b e = cc

pub none_some : {T : Type 0} (a : T) → ◌≡◌ {A = Option T} None (Some a) → ⊥
none_some a e = cc

pub first_same : {S T : Type 0} (a b : S) (x y : T) → ◌≡◌ {A = Option (S × T)} (Some (a, x)) (Some (b, y)) → a ≡ b
first_same {S = S} {T = T} a b x y e = ap (λ (p : S × T). p.0) (some_same (a, x) (b, y) e)

pub second_same : {S T : Type 0} (a b : S) (x y : T) → ◌≡◌ {A = Option (S × T)} (Some (a, x)) (Some (b, y)) → x ≡ y
second_same {S = S} {T = T} a b x y e = ap (λ (p : S × T). p.1) (some_same (a, x) (b, y) e)

pub head_same : {X : Type 0} {x y : X} {xs ys : List X} → x ∷ xs ≡ y ∷ ys → x ≡ y
head_same e = cc

pub tail_same : {X : Type 0} {x y : X} {xs ys : List X} → x ∷ xs ≡ y ∷ ys → xs ≡ ys
tail_same e = cc

pub pair_some : {S T : Type 0} (a b : S) (x y : T) → a ≡ b → x ≡ y → ◌≡◌ {A = Option (S × T)} (Some (a, x)) (Some (b, y))
pair_some a b x y p q = cc

pub no_bytes : (bytes : List ℕ) → length bytes ≡ 0 → bytes ≡ []
no_bytes [] e = refl
no_bytes (byte ∷ bytes) e = absurd (omega arith)
