-- Pairs of the items of a list, and lists whose items stand in pairs.
use Rattle.std.proofs.Common.{◌≡◌, ℕ, zero, suc, ◌⊎◌, inl, inr, List, [], ◌∷◌, ◌++◌, slice_get, All, AllPairs, Contains, Some, refl, subst, arith}
use Rattle.std.specs.List.{AllZip}
use Rattle.std.proofs.lemmas.List.Elements.{All-append, All-cons, All-contains_itself, All-head, All-nil, All-tail}
use Rattle.std.proofs.lemmas.List.Kept.{AllPairs-cons}
use Rattle.std.proofs.lemmas.Option.{none-some, same_Some}
use Rattle.loop_nest.proofs.Ordered.{cases-in, first-in, later-in, nothing-in, pairs-head, pairs-tail}

pub pairs-nil : {T : Type 0} (R : T → T → Type 0) → AllPairs R []
pairs-nil R = λ i j d less inside. absurd (omega arith)

pub pairs-one : {T : Type 0} (R : T → T → Type 0) (x : T) → AllPairs R (x ∷ [])
pairs-one R x = AllPairs-cons R x [] (All-nil (R x)) (pairs-nil R)

pub pairs-append : {T : Type 0} (R : T → T → Type 0) (xs ys : List T) → AllPairs R xs → AllPairs R ys →
    All (λ x. All (R x) ys) xs → AllPairs R (xs ++ ys)
pairs-append R [] ys front back cross = back
pairs-append R (x ∷ xs) ys front back cross =
    AllPairs-cons R x (xs ++ ys)
    (All-append (R x) xs ys (pairs-head R x xs front) (All-head (λ z. All (R z) ys) x xs cross))
    (pairs-append R xs ys (pairs-tail R x xs front) back (All-tail (λ z. All (R z) ys) x xs cross))

-- What holds of the items of one list is told of those of the other.
pub zip-all : {A B : Type 0} (P : A → B → Type 0) (Q : A → Type 0) (S : B → Type 0) (xs : List A) (ys : List B) → AllZip P xs ys →
    All Q xs → ((a : A) (b : B) → P a b → Q a → S b) → All S ys
zip-all P Q S [] [] zip each says = All-nil S
zip-all P Q S [] (y ∷ ys) zip each says = absurd zip
zip-all P Q S (x ∷ xs) [] zip each says = absurd zip
zip-all P Q S (x ∷ xs) (y ∷ ys) zip each says =
    All-cons S y ys (says x y zip.0 (All-head Q x xs each)) (zip-all P Q S xs ys zip.1 (All-tail Q x xs each) says)

pub zip-pairs : {A B : Type 0} (P : A → B → Type 0) (R : A → A → Type 0) (S : B → B → Type 0) (xs : List A) (ys : List B) → AllZip P xs ys →
    AllPairs R xs → ((a c : A) (b d : B) → P a b → P c d → R a c → S b d) → AllPairs S ys
zip-pairs P R S [] [] zip pairs says = pairs-nil S
zip-pairs P R S [] (y ∷ ys) zip pairs says = absurd zip
zip-pairs P R S (x ∷ xs) [] zip pairs says = absurd zip
zip-pairs P R S (x ∷ xs) (y ∷ ys) zip pairs says =
    AllPairs-cons S y ys
    (zip-all P (R x) (S y) xs ys zip.1 (pairs-head R x xs pairs) (λ a b here before. says x a y b zip.0 here before))
    (zip-pairs P R S xs ys zip.1 (pairs-tail R x xs pairs) says)

pub zip-whole : {A B : Type 0} (P : A → B → Type 0) (xs : List A) (ys : List B) (a : A) → AllZip P xs ys → Contains xs a →
    (b : B) × Contains ys b × P a b
zip-whole P [] ys a zip there = absurd (nothing-in a there)
zip-whole P (x ∷ xs) [] a zip there = absurd zip
zip-whole P (x ∷ xs) (y ∷ ys) a zip there =
    by_case (λ (later : Contains xs a). zip-whole P xs ys a zip.1 later) (cases-in x xs a there)
  where
    by_case : (Contains xs a → (b : _) × Contains ys b × P a b) → ((x ≡ a) ⊎ Contains xs a) → (b : _) × Contains (y ∷ ys) b × P a b
    by_case rest (inl same) = (y, first-in y ys, subst (λ z. P z y) same zip.0)
    by_case rest (inr later) = let (b, among, is) = rest later in (b, later-in y ys b among, is)

pub zip-sound : {A B : Type 0} (P : A → B → Type 0) (S : B → Type 0) (xs : List A) (ys : List B) → AllZip P xs ys →
    ((a : A) (b : B) → Contains xs a → P a b → S b) → All S ys
zip-sound P S xs ys zip says = zip-all P (Contains xs) S xs ys zip (All-contains_itself xs) (λ a b is among. says a b among is)

-- The partner of what stands at a place.
pub zip_left : {A B : Type 0} (R : A → B → Type 0) (xs : List A) (ys : List B) → AllZip R xs ys → (k : ℕ) (x : A) →
    slice_get xs k ≡ Some x → (y : B) × (slice_get ys k ≡ Some y) × R x y
zip_left R [] [] all k x h = absurd (none-some x h)
zip_left R [] (b ∷ ys) all k x h = absurd all
zip_left R (a ∷ xs) [] all k x h = absurd all
zip_left {A} R (a ∷ xs) (b ∷ ys) all zero x h = (b, refl, subst (λ (one : A). R one b) (same_Some a x h) all.0)
zip_left R (a ∷ xs) (b ∷ ys) all (suc k) x h = zip_left R xs ys all.1 k x h

pub zip_right : {A B : Type 0} (R : A → B → Type 0) (xs : List A) (ys : List B) → AllZip R xs ys → (k : ℕ) (y : B) →
    slice_get ys k ≡ Some y → (x : A) × (slice_get xs k ≡ Some x) × R x y
zip_right R [] [] all k y h = absurd (none-some y h)
zip_right R [] (b ∷ ys) all k y h = absurd all
zip_right R (a ∷ xs) [] all k y h = absurd all
zip_right {A} {B} R (a ∷ xs) (b ∷ ys) all zero y h = (a, refl, subst (λ (one : B). R a one) (same_Some b y h) all.0)
zip_right R (a ∷ xs) (b ∷ ys) all (suc k) y h = zip_right R xs ys all.1 k y h
