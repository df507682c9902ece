-- Strings up to a zero byte: how they are found, and when one is a given word.
use Rattle.std.proofs.Common.{◌≡◌, ℕ, ◌+◌, ◌<◌, ◌≤◌, Bool, true, false, not, ◌&&◌, ◌==◌, List, [], ◌∷◌, ◌++◌, length, take, Option, Some, None, option_map, zero, suc, refl, sym, ◌∙◌, ap, subst, cond, nat_lt, nat_le, nat_eq, arith, inl, inr, ◌⊎◌}
use Rattle.std.specs.Bool.{⊤}
use Rattle.std.specs.List.{position, position_or_len}
use Rattle.std.specs.Cmp.Lexicographic.{pointwise}
use Rattle.std.specs.Option.{option_map_or, option_and_then}
use Rattle.std.specs.Prelude.{bytes_eq, codes}
use Rattle.std.proofs.lemmas.Bool.{cases_lt, cases_eq, cond-true, cond-false, lt-ltb, le-ltb, eq-eqb, ne_eqb, le-leb, lt-leb}
use Rattle.elf_mips.specs.Strings.{front_string}
use Rattle.elf_mips.specs.Symbols.{name_of}

and_false : (b : Bool) → (b && false) ≡ false
and_false true = refl
and_false false = refl

-- The byte is zero.
abbrev is_zero : ℕ → Bool
is_zero b = b == 0

-- Where the first byte of one more that passes stands.
position_bits : (b : Bool) (m l : ℕ) → (m < l) ⊎ (l ≤ m) →
    cond (nat_lt (cond (not b) (1 + m) 0) (suc l)) (Some (cond (not b) (1 + m) 0)) None
    ≡ cond b (Some 0) (option_map (λ n. suc n) (cond (nat_lt m l) (Some m) None))
position_bits true m l h =
    cond-true (nat_lt 0 (suc l)) (Some 0) None (lt-ltb 0 (suc l) (omega arith))
position_bits false m l (inl h) =
    cond-true (nat_lt (1 + m) (suc l)) (Some (1 + m)) None (lt-ltb (1 + m) (suc l) (omega arith))
    ∙ ap (λ n. Some n) (let e : 1 + m ≡ suc m = omega arith in e)
    ∙ sym (ap (option_map (λ n. suc n)) (cond-true (nat_lt m l) (Some m) None (lt-ltb m l h)))
position_bits false m l (inr h) =
    cond-false (nat_lt (1 + m) (suc l)) (Some (1 + m)) None (le-ltb (1 + m) (suc l) (omega arith))
    ∙ sym (ap (option_map (λ n. suc n)) (cond-false (nat_lt m l) (Some m) None (le-ltb m l h)))

position-cons : (b : ℕ) (bytes : List ℕ) → position is_zero (b ∷ bytes)
    ≡ cond (b == 0) (Some 0) (option_map (λ n. suc n) (position is_zero bytes))
position-cons b bytes =
    position_bits (b == 0) (position_or_len is_zero bytes) (length bytes)
    (cases_lt (position_or_len is_zero bytes) (length bytes))

-- The place of the first zero among the first m bytes, and the string up to it: where there is no place, the
-- string has m bytes or more, or there is none.
abbrev pub IsTaken : ℕ → List ℕ → Option ℕ → Option (List ℕ) → Type 0
IsTaken m tail None None = ⊤
IsTaken m tail None (Some s) = m ≤ length s
IsTaken m tail (Some n) None = ⊥
IsTaken m tail (Some n) (Some s) = (s ≡ take n tail) × (length s ≡ n) × (n < m)

taken_step : (e : Bool) (b : ℕ) (bytes : List ℕ) (m : ℕ) (place : Option ℕ)
    (string : Option (List ℕ)) → IsTaken m bytes place string →
    IsTaken (suc m) (b ∷ bytes) (cond e (Some 0) (option_map (λ n. suc n) place))
    (cond e (Some []) (option_map (λ rest. b ∷ rest) string))
taken_step true b bytes m place string h = (refl, refl, omega arith)
taken_step false b bytes m None None h = tt
taken_step false b bytes m None (Some s) h = omega (arith, h)
taken_step false b bytes m (Some n) None h = absurd h
taken_step false b bytes m (Some n) (Some s) h =
    (ap (λ rest. b ∷ rest) h.0, omega (arith, h.1), omega (arith, h.2))

taken_none : (tail : List ℕ) (string : Option (List ℕ)) → IsTaken 0 tail None string
taken_none tail None = tt
taken_none tail (Some s) = omega arith

taken : (m : ℕ) (tail : List ℕ) →
    IsTaken m tail (position is_zero (take m tail)) (front_string tail)
taken zero tail = taken_none tail (front_string tail)
taken (suc m) [] = tt
taken (suc m) (b ∷ bytes) =
    subst (λ place. IsTaken (suc m) (b ∷ bytes) place (front_string (b ∷ bytes)))
    (sym (position-cons b (take m bytes)))
    (taken_step (b == 0) b bytes m (position is_zero (take m bytes)) (front_string bytes)
    (taken m bytes))

-- The name, by the place of the first zero byte.
name_long : (s : List ℕ) → 1025 ≤ length s → name_of s ≡ None
name_long s h =
    cond-false (nat_lt 0 (length s) && nat_le (length s) 1024) (Some s) None
    (ap (λ b. nat_lt 0 (length s) && b) (lt-leb (length s) 1024 (omega arith))
    ∙ and_false (nat_lt 0 (length s)))

name_some : (s : List ℕ) → 0 < length s → length s < 1025 → name_of s ≡ Some s
name_some s h k =
    cond-true (nat_lt 0 (length s) && nat_le (length s) 1024) (Some s) None
    (ap (λ b. b && nat_le (length s) 1024) (lt-ltb 0 (length s) h)
    ∙ le-leb (length s) 1024 (omega arith))

none_cases : (tail : List ℕ) (string : Option (List ℕ)) → IsTaken 1025 tail None string →
    option_and_then name_of string ≡ None
none_cases tail None h = refl
none_cases tail (Some s) h = name_long s h

pub no_name : (tail : List ℕ) → position is_zero (take 1025 tail) ≡ None →
    option_and_then name_of (front_string tail) ≡ None
no_name tail e =
    none_cases tail (front_string tail)
    (subst (λ place. IsTaken 1025 tail place (front_string tail)) e (taken 1025 tail))

some_cases : (tail : List ℕ) (n : ℕ) (string : Option (List ℕ)) → IsTaken 1025 tail (Some n) string →
    0 < n → option_and_then name_of string ≡ Some (take n tail)
some_cases tail n None h some = absurd h
some_cases tail n (Some s) h some =
    name_some s (omega (arith, h.1)) (omega (arith, h.1, h.2)) ∙ ap (λ t. Some t) h.0

pub one_name : (tail : List ℕ) (n : ℕ) → position is_zero (take 1025 tail) ≡ Some n → 0 < n →
    option_and_then name_of (front_string tail) ≡ Some (take n tail)
one_name tail n e some =
    some_cases tail n (front_string tail)
    (subst (λ place. IsTaken 1025 tail place (front_string tail)) e (taken 1025 tail)) some

-- A word without a zero byte is the string at the front where the word and a zero stand there.
abbrev HasNoZero : List ℕ → Type 0
HasNoZero [] = ⊤
HasNoZero (c ∷ word) = (c ≡ 0 → ⊥) × HasNoZero word

-- The string at the front is this word.
abbrev pub says : List ℕ → Option (List ℕ) → Bool
says word string = option_map_or (bytes_eq word) string false

says_more : (c t : ℕ) (word : List ℕ) (string : Option (List ℕ)) →
    says (c ∷ word) (option_map (λ rest. t ∷ rest) string) ≡ (nat_eq c t && says word string)
says_more c t word (Some s) = refl
says_more c t word None = sym (and_false (nat_eq c t))

says_step : (c t : ℕ) (word tail : List ℕ) → (c ≡ 0 → ⊥) →
    says word (front_string tail)
    ≡ pointwise nat_eq (word ++ 0 ∷ []) (take (length (word ++ 0 ∷ [])) tail) →
    (t ≡ 0) ⊎ (t ≡ 0 → ⊥) →
    says (c ∷ word) (front_string (t ∷ tail))
    ≡ (nat_eq c t && pointwise nat_eq (word ++ 0 ∷ []) (take (length (word ++ 0 ∷ [])) tail))
says_step c t word tail some later (inl e) =
    ap (says (c ∷ word))
    (cond-true (t == 0) (Some []) (option_map (λ rest. t ∷ rest) (front_string tail)) (eq-eqb t 0 e))
    ∙ sym (ap (λ b. b && pointwise nat_eq (word ++ 0 ∷ []) (take (length (word ++ 0 ∷ [])) tail))
    (ne_eqb c t (λ same. some (same ∙ e))))
says_step c t word tail some later (inr differ) =
    ap (says (c ∷ word))
    (cond-false (t == 0) (Some []) (option_map (λ rest. t ∷ rest) (front_string tail))
    (ne_eqb t 0 differ))
    ∙ says_more c t word (front_string tail)
    ∙ ap (λ b. nat_eq c t && b) later

nothing_more : (t : ℕ) (tail : List ℕ) → (t ≡ 0) ⊎ (t ≡ 0 → ⊥) →
    says [] (front_string (t ∷ tail)) ≡ (nat_eq 0 t && true)
nothing_more t tail (inl e) =
    ap (says [])
    (cond-true (t == 0) (Some []) (option_map (λ rest. t ∷ rest) (front_string tail)) (eq-eqb t 0 e))
    ∙ sym (ap (λ b. b && true) (eq-eqb 0 t (sym e)))
nothing_more t tail (inr differ) =
    ap (says [])
    (cond-false (t == 0) (Some []) (option_map (λ rest. t ∷ rest) (front_string tail))
    (ne_eqb t 0 differ))
    ∙ says_none (front_string tail)
    ∙ sym (ap (λ b. b && true) (ne_eqb 0 t (λ e. differ (sym e))))
  where
    says_none : (string : Option (List ℕ)) → says [] (option_map (λ rest. t ∷ rest) string) ≡ false
    says_none None = refl
    says_none (Some s) = refl

says_from : (word tail : List ℕ) → HasNoZero word → says word (front_string tail)
    ≡ pointwise nat_eq (word ++ 0 ∷ []) (take (length (word ++ 0 ∷ [])) tail)
says_from [] [] h = refl
says_from [] (t ∷ tail) h = nothing_more t tail (cases_eq t 0)
says_from (c ∷ word) [] h = refl
says_from (c ∷ word) (t ∷ tail) h =
    says_step c t word tail h.0 (says_from word tail h.1) (cases_eq t 0)

pub says_wcet : (tail : List ℕ) → says (codes ".wcet") (front_string tail)
    ≡ pointwise nat_eq (codes ".wcet" ++ 0 ∷ []) (take (length (codes ".wcet" ++ 0 ∷ [])) tail)
says_wcet tail =
    says_from (codes ".wcet") tail
    (λ e. omega arith, (λ e. omega arith, (λ e. omega arith, (λ e. omega arith, (λ e. omega arith, tt)))))
