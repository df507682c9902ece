-- Numbers of the items with one key: all of them, in order, and no others.
use Rattle.std.specs.Prelude.{◌≡◌, ℕ, zero, suc, ◌+◌, ◌<◌, ◌≤◌, Bool, true, false, ◌==◌, if◌then◌else◌, List, [], ◌∷◌, ◌++◌, length, take, replicate, Some, slice_get, slice_set, refl}
use Rattle.std.proofs.Common.{◌∙◌, ◌⊎◌, ap, ap₂, arith, get_or, inl, inr, subst, sym}
use Rattle.std.proofs.lemmas.Bool.{cases_eq, eq-eqb, ne_eqb}
use Rattle.std.proofs.lemmas.List.{length-replicate, length-set, length-take-le, take_all, take_more}
use Rattle.std.proofs.lemmas.Option.{none-some, same_Some}
use Rattle.net_tables.specs.Numbers.{numbers_of, AreNumbers}

-- The number is in the list.
abbrev pub IsIn : ℕ → List ℕ → Type 0
IsIn number [] = ⊥
IsIn number (other ∷ others) = (number ≡ other) ⊎ IsIn number others

pub numbers_here : (key from other : ℕ) (others : List ℕ) → other ≡ key →
    numbers_of key from (other ∷ others) ≡ from ∷ numbers_of key (from + 1) others
numbers_here key from other others e =
    ap (λ (b : Bool). if b then from ∷ numbers_of key (from + 1) others else numbers_of key (from + 1) others) (eq-eqb other key e)

pub numbers_past : (key from other : ℕ) (others : List ℕ) → (other ≡ key → ⊥) →
    numbers_of key from (other ∷ others) ≡ numbers_of key (from + 1) others
numbers_past key from other others ne =
    ap (λ (b : Bool). if b then from ∷ numbers_of key (from + 1) others else numbers_of key (from + 1) others) (ne_eqb other key ne)

-- The number of each item with the key is there.
pub numbers_has : (key from : ℕ) (keys : List ℕ) (position : ℕ) → slice_get keys position ≡ Some key →
    IsIn (from + position) (numbers_of key from keys)
numbers_has key from [] position there = absurd (none-some key there)
numbers_has key from (other ∷ others) zero there =
    subst (IsIn (from + 0)) (sym (numbers_here key from other others (same_Some other key there))) (inl (omega arith))
numbers_has key from (other ∷ others) (suc position) there =
    let rest = numbers_has key (from + 1) others position there in
    let moved : IsIn (from + suc position) (numbers_of key (from + 1) others) =
    subst (λ (n : ℕ). IsIn n (numbers_of key (from + 1) others)) (omega arith) rest in
    elim (cases_eq other key) as (λ _. IsIn (from + suc position) (numbers_of key from (other ∷ others))) [
      | inl e ↦ subst (IsIn (from + suc position)) (sym (numbers_here key from other others e)) (inr moved)
      | inr ne ↦ subst (IsIn (from + suc position)) (sym (numbers_past key from other others ne)) moved
    ]

-- And each number there is that of an item with the key.
pub record IsNumberWith (key from : ℕ) (keys : List ℕ) (number : ℕ) : Type 0 where
  pub position : ℕ
  pub counted : number ≡ from + position
  pub there : slice_get keys position ≡ Some key

pub numbers_only : (key from : ℕ) (keys : List ℕ) (number : ℕ) → IsIn number (numbers_of key from keys) →
    IsNumberWith key from keys number
numbers_only key from [] number is = absurd is
numbers_only key from (other ∷ others) number is =
    elim (cases_eq other key) as (λ _. IsNumberWith key from (other ∷ others) number) [
      | inl e ↦ first e (subst (IsIn number) (numbers_here key from other others e) is)
          (λ rest. numbers_only key (from + 1) others number rest)
      | inr ne ↦ later (numbers_only key (from + 1) others number
          (subst (IsIn number) (numbers_past key from other others ne) is))
    ]
  where
    later : IsNumberWith key (from + 1) others number → IsNumberWith key from (other ∷ others) number
    later rest = record {
      position = suc rest.position;
      counted = omega (arith, rest.counted);
      there = rest.there;
    }

    first : other ≡ key → (number ≡ from) ⊎ IsIn number (numbers_of key (from + 1) others) →
        (IsIn number (numbers_of key (from + 1) others) → IsNumberWith key (from + 1) others number) →
        IsNumberWith key from (other ∷ others) number
    first e (inl here) rest = record {
      position = 0;
      counted = omega (arith, here);
      there = ap (λ (k : ℕ). Some k) e;
    }
    first e (inr more) rest = record {
      position = suc (rest more).position;
      counted = omega (arith, (rest more).counted);
      there = (rest more).there;
    }

-- One more item.
pub numbers_push : (key from : ℕ) (keys : List ℕ) (last : ℕ) → numbers_of key from (keys ++ last ∷ []) ≡
    (if last == key then numbers_of key from keys ++ (from + length keys) ∷ [] else numbers_of key from keys)
numbers_push key from [] last = ap (λ (n : ℕ). if last == key then n ∷ [] else []) (omega arith)
numbers_push key from (other ∷ others) last =
    elim (cases_eq other key) as (λ _. numbers_of key from (other ∷ others ++ last ∷ []) ≡
    (if last == key then numbers_of key from (other ∷ others) ++ (from + length (other ∷ others)) ∷ []
    else numbers_of key from (other ∷ others))) [
      | inl e ↦ numbers_here key from other (others ++ last ∷ []) e ∙
          ap (λ xs. from ∷ xs) (numbers_push key (from + 1) others last) ∙
          put (last == key) (sym (numbers_here key from other others e))
      | inr ne ↦ numbers_past key from other (others ++ last ∷ []) ne ∙
          numbers_push key (from + 1) others last ∙
          pass (last == key) (sym (numbers_past key from other others ne))
    ]
  where
    put : (b : Bool) → from ∷ numbers_of key (from + 1) others ≡ numbers_of key from (other ∷ others) →
        from ∷ (if b then numbers_of key (from + 1) others ++ (from + 1 + length others) ∷ [] else numbers_of key (from + 1) others) ≡
        (if b then numbers_of key from (other ∷ others) ++ (from + length (other ∷ others)) ∷ [] else numbers_of key from (other ∷ others))
    put true e = ap₂ (λ (xs : List ℕ) (n : ℕ). xs ++ n ∷ []) e (omega arith)
    put false e = e

    pass : (b : Bool) → numbers_of key (from + 1) others ≡ numbers_of key from (other ∷ others) →
        (if b then numbers_of key (from + 1) others ++ (from + 1 + length others) ∷ [] else numbers_of key (from + 1) others) ≡
        (if b then numbers_of key from (other ∷ others) ++ (from + length (other ∷ others)) ∷ [] else numbers_of key from (other ∷ others))
    pass true e = ap₂ (λ (xs : List ℕ) (n : ℕ). xs ++ n ∷ []) e (omega arith)
    pass false e = e

-- What stands in a list after a write.
pub slice_get-set_same : {X : Type 0} (xs : List X) (i : ℕ) (x : X) → i < length xs → slice_get (slice_set xs i x) i ≡ Some x
slice_get-set_same [] i x inside = absurd (omega (arith, inside))
slice_get-set_same (y ∷ ys) zero x inside = refl
slice_get-set_same (y ∷ ys) (suc i) x inside = slice_get-set_same ys i x (omega (arith, inside))

pub slice_get-set_other : {X : Type 0} (xs : List X) (i k : ℕ) (x : X) → (i ≡ k → ⊥) →
    slice_get (slice_set xs i x) k ≡ slice_get xs k
slice_get-set_other [] i k x ne = refl
slice_get-set_other (y ∷ ys) zero zero x ne = absurd (ne refl)
slice_get-set_other (y ∷ ys) zero (suc k) x ne = refl
slice_get-set_other (y ∷ ys) (suc i) zero x ne = refl
slice_get-set_other (y ∷ ys) (suc i) (suc k) x ne = slice_get-set_other ys i k x (λ e. ne (ap (λ (n : ℕ). suc n) e))

replicated : {X : Type 0} (count key : ℕ) (x : X) → key < count → slice_get (replicate count x) key ≡ Some x
replicated zero key x inside = absurd (omega (arith, inside))
replicated (suc count) zero x inside = refl
replicated (suc count) (suc key) x inside = replicated count key x (omega (arith, inside))

-- The lists before the first item, and after one more.
pub none_yet : (most : ℕ) → AreNumbers most [] (replicate (most + 1) [])
none_yet most = record {
  size = length-replicate {A = List ℕ} (most + 1) [];
  each = λ key inside. replicated (most + 1) key [] (omega (arith, inside));
}

pub one_more : (most : ℕ) (keys : List ℕ) (last : ℕ) (lists : List (List ℕ)) → last ≤ most → AreNumbers most keys lists →
    AreNumbers most (keys ++ last ∷ [])
    (slice_set lists last (numbers_of last 1 keys ++ (1 + length keys) ∷ []))
one_more most keys last lists inside are = record {
  size = length-set lists last (numbers_of last 1 keys ++ (1 + length keys) ∷ []) ∙ are.size;
  each = λ key within. elim (cases_eq last key)
      as (λ _. slice_get (slice_set lists last (numbers_of last 1 keys ++ (1 + length keys) ∷ [])) key ≡
      Some (numbers_of key 1 (keys ++ last ∷ []))) [
        | inl e ↦
            subst (λ (k : ℕ). slice_get (slice_set lists last (numbers_of last 1 keys ++ (1 + length keys) ∷ [])) k ≡
            Some (numbers_of k 1 (keys ++ last ∷ []))) e
            (slice_get-set_same lists last (numbers_of last 1 keys ++ (1 + length keys) ∷ []) (omega (arith, are.size, inside)) ∙
            ap (λ (l : List ℕ). Some l) (sym (numbers_push last 1 keys last ∙ taken (last == last) (eq-eqb last last refl))))
        | inr ne ↦
            slice_get-set_other lists last key (numbers_of last 1 keys ++ (1 + length keys) ∷ []) ne ∙
            are.each key within ∙
            ap (λ (l : List ℕ). Some l) (sym (numbers_push key 1 keys last ∙ passed key (last == key) (ne_eqb last key ne)))
      ];
}
  where
    taken : (b : Bool) → b ≡ true →
        (if b then numbers_of last 1 keys ++ (1 + length keys) ∷ [] else numbers_of last 1 keys) ≡
        numbers_of last 1 keys ++ (1 + length keys) ∷ []
    taken b e = ap (λ (c : Bool). if c then numbers_of last 1 keys ++ (1 + length keys) ∷ [] else numbers_of last 1 keys) e

    passed : (key : ℕ) (b : Bool) → b ≡ false →
        (if b then numbers_of key 1 keys ++ (1 + length keys) ∷ [] else numbers_of key 1 keys) ≡ numbers_of key 1 keys
    passed key b e = ap (λ (c : Bool). if c then numbers_of key 1 keys ++ (1 + length keys) ∷ [] else numbers_of key 1 keys) e

-- The next item's number goes to the list of its key.
pub next_number : (most : ℕ) (keys : List ℕ) (index : ℕ) (lists later : List (List ℕ)) → index < length keys →
    get_or keys index 0 ≤ most → AreNumbers most (take index keys) lists →
    ((list : List ℕ) → slice_get lists (get_or keys index 0) ≡ Some list →
    later ≡ slice_set lists (get_or keys index 0) (list ++ (index + 1) ∷ [])) →
    AreNumbers most (take (index + 1) keys) later
next_number most keys index lists later inside low are added =
    let key = get_or keys index 0 in
    let count : 1 + length (take index keys) ≡ index + 1 = omega (arith, length-take-le index keys (omega (arith, inside))) in
    subst (λ (xs : List ℕ). AreNumbers most xs later) (sym (take_more keys index 0 inside))
    (subst (AreNumbers most (take index keys ++ key ∷ []))
    (sym (added (numbers_of key 1 (take index keys)) (are.each key low) ∙
    ap (λ (n : ℕ). slice_set lists key (numbers_of key 1 (take index keys) ++ n ∷ [])) (sym count)))
    (one_more most (take index keys) key lists low are))

-- The lists behind the last item.
pub all_numbers : (most : ℕ) (keys : List ℕ) (index : ℕ) (lists : List (List ℕ)) → length keys ≤ index →
    AreNumbers most (take index keys) lists → AreNumbers most keys lists
all_numbers most keys index lists past are =
    subst (λ (xs : List ℕ). AreNumbers most xs lists) (take_all index keys past) are
