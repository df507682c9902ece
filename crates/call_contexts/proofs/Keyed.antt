-- Lists by the keys of their items, and lists whose items of each number are one.
use Rattle.std.proofs.Common.{◌≡◌, ℕ, zero, suc, List, [], ◌∷◌, map, get_or, slice_get, AllPairs, Contains, Option, Some, None, refl, sym, ap, subst, ◌∙◌, arith}
use Rattle.std.specs.Prelude.{option_map}
use Rattle.std.proofs.lemmas.List.{get_or-map, length-map}
use Rattle.std.proofs.lemmas.Option.{none-some, same_Some, slice_get-get_or, slice_get-map, slice_get_within}
use Rattle.flow_net.specs.Numbers.{item_at}

-- Keys in an order, as a list of their own.
pub keys-ordered : {T K : Type 0} (R : K → K → Type 0) (key : T → K) (items : List T) → AllPairs (λ (a b : T). R (key a) (key b)) items →
    AllPairs R (map key items)
keys-ordered R key [] order = λ i j d less inside. absurd (omega (arith, inside))
keys-ordered R key (one ∷ more) order = λ i j d less inside.
    let count = length-map (one ∷ more) key in
    subst (λ x. R x (get_or (map key (one ∷ more)) j d)) (sym (get_or-map key (one ∷ more) i one d (omega (arith, less, inside, count))))
    (subst (R (key (get_or (one ∷ more) i one))) (sym (get_or-map key (one ∷ more) j one d (omega (arith, inside, count))))
    (order i j one less (omega (arith, inside, count))))

-- The key of an item stands at its number.
pub key-item : {T K : Type 0} (key : T → K) (items : List T) (number : ℕ) (item : T) → item_at number items ≡ Some item →
    item_at number (map key items) ≡ Some (key item)
key-item key items zero item there = absurd (none-some item there)
key-item key items (suc n) item there = slice_get-map key items n ∙ ap (option_map key) there

item-keyed : {T K : Type 0} (key : T → K) (found : Option T) (k : K) → option_map key found ≡ Some k → (item : T) × (found ≡ Some item) × (key item ≡ k)
item-keyed key None k same = absurd (none-some k same)
item-keyed key (Some item) k same = (item, refl, same_Some (key item) k same)

pub key-at : {T K : Type 0} (key : T → K) (items : List T) (number : ℕ) (k : K) → item_at number (map key items) ≡ Some k →
    (item : T) × (item_at number items ≡ Some item) × (key item ≡ k)
key-at key items zero k there = absurd (none-some k there)
key-at key items (suc n) k there = item-keyed key (slice_get items n) k (sym (slice_get-map key items n) ∙ there)

pub contains-item : {T : Type 0} (items : List T) (number : ℕ) (item : T) → item_at number items ≡ Some item → Contains items item
contains-item items zero item there = absurd (none-some item there)
contains-item items (suc n) item there =
    (n, slice_get_within items n item there, same_Some _ item (sym (slice_get-get_or items n item (slice_get_within items n item there)) ∙ there))

pub item-contained : {T : Type 0} (items : List T) (item : T) → Contains items item → (number : ℕ) × (item_at number items ≡ Some item)
item-contained items item c = (suc c.0, slice_get-get_or items c.0 item c.1 ∙ ap Some c.2)

-- Options that are the same items are one.
pub same-option : {T : Type 0} (x y : Option T) → ((item : T) → x ≡ Some item → y ≡ Some item) →
    ((item : T) → y ≡ Some item → x ≡ Some item) → x ≡ y
same-option None None forward back = refl
same-option None (Some item) forward back = back item refl
same-option (Some item) y forward back = sym (forward item refl)

-- Lists of which each position is the same are one.
pub same-positions : {T : Type 0} (xs ys : List T) → ((i : ℕ) → slice_get xs i ≡ slice_get ys i) → xs ≡ ys
same-positions [] [] same = refl
same-positions [] (y ∷ ys) same = absurd (none-some y (same 0))
same-positions (x ∷ xs) [] same = absurd (none-some x (sym (same 0)))
same-positions (x ∷ xs) (y ∷ ys) same =
    ap (λ w. w ∷ xs) (same_Some x y (same 0)) ∙ ap (λ ws. y ∷ ws) (same-positions xs ys (λ i. same (suc i)))

-- Lists of which each number is the same are one.
pub same-numbers : {T : Type 0} (xs ys : List T) → ((n : ℕ) (item : T) → item_at n xs ≡ Some item → item_at n ys ≡ Some item) →
    ((n : ℕ) (item : T) → item_at n ys ≡ Some item → item_at n xs ≡ Some item) → xs ≡ ys
same-numbers xs ys forward back =
    same-positions xs ys (λ i. same-option (slice_get xs i) (slice_get ys i) (λ item there. forward (suc i) item there)
    (λ item there. back (suc i) item there))
