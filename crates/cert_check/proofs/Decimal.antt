-- Numbers that stand at the front of bytes, digit by digit.
use Rattle.std.proofs.Common.{◌≡◌, ℕ, suc, zero, ◌<◌, ◌*◌, ◌+◌, ◌-◌, ◌^◌, ◌≤◌, ◌/◌, ◌%◌, List, [], ◌∷◌, ◌++◌, length, get_or, take, drop, refl, sym, ap, subst, ◌∙◌, arith, inl, inr}
use Rattle.std.specs.Fmt.{decimal}
use Rattle.std.specs.Str.Parse.{digits_value}
use Rattle.std.proofs.Math.ListN.{get_or-append}
use Rattle.std.proofs.Math.Seq.{get_or-append_seam}
use Rattle.std.proofs.lemmas.Bool.{cases_lt}
use Rattle.std.proofs.lemmas.Fmt.{decimal_is_IsNumeral_wide, decimal_digit, decimal_step_wide, decimal_by_steps_wide}
use Rattle.std.proofs.lemmas.Int.Digits.{digits_value_more}
use Rattle.std.proofs.lemmas.List.{take_more, take-append-le, take_at, drop_at, get_or_append_left, length-append, get_or-take}
use Rattle.std.proofs.lemmas.Str.{digit_value_digit}
use Rattle.std.proofs.lemmas.Str.Parse.{digit_at, digits_value-take-le}
use Rattle.cert_check.specs.Numbers.{IsDigit, IsNext, IsStop, Stands}

-- The bytes up to a place are a number; there is none at the place 0.
pub record Grows (bytes : List ℕ) (place number : ℕ) : Type 0 where
  pub none : place ≡ 0 → number ≡ 0
  pub some : 0 < place → decimal number ≡ take place bytes

small_enough : (n : ℕ) → n < 2 ^ 128 → n < 10 ^ 64
small_enough n small = omega arith

pub some_digit : (n : ℕ) → n < 2 ^ 128 → 0 < length (decimal n)
some_digit n small = (decimal_is_IsNumeral_wide n (small_enough n small)).0.0

-- Only 0 begins with a zero.
first_digit : (n : ℕ) → 0 < n → n < 2 ^ 128 → 48 < get_or (decimal n) 0 0
first_digit n some small =
    (decimal_by_steps_wide (λ m ds. (0 < length ds) × (0 < m → 48 < get_or ds 0 0)) (λ m l. (omega arith, λ a. omega arith))
    (λ m ds l h. (
      omega (arith, length-append ds ((48 + m % 10) ∷ [])),
      λ a. omega (arith, get_or-append ds ((48 + m % 10) ∷ []) 0 0 h.0, h.1 (omega arith)),
    )) n (small_enough n small)).1 some

decimal_same : (m n : ℕ) → m < 2 ^ 128 → n < 2 ^ 128 → decimal m ≡ decimal n → m ≡ n
decimal_same m n p q e =
    sym (decimal_is_IsNumeral_wide m (small_enough m p)).1
    ∙ ap (digits_value 10) e
    ∙ (decimal_is_IsNumeral_wide n (small_enough n q)).1

pub digit_in : (bytes : List ℕ) (n stop : ℕ) (rest : List ℕ) (i : ℕ) → n < 2 ^ 128 → Stands bytes n stop rest →
    i < length (decimal n) → IsDigit (get_or bytes i 0)
digit_in bytes n stop rest i small s lt =
    rw (s.is, get_or_append_left (decimal n) (stop ∷ rest) 0 i lt)
    (digit_at (decimal n) i (decimal_is_IsNumeral_wide n (small_enough n small)).0.1 lt)

-- Where the byte is a digit, the number goes on.
pub goes_on : (bytes : List ℕ) (n stop : ℕ) (rest : List ℕ) (place : ℕ) → Stands bytes n stop rest →
    place ≤ length (decimal n) → IsDigit (get_or bytes place 0) → place < length (decimal n)
goes_on bytes n stop rest place s le digit =
    elim (cases_lt place (length (decimal n))) [
      | inl lt ↦ lt
      | inr ge ↦
          let e : place ≡ length (decimal n) = omega arith in
          let here : get_or bytes place 0 ≡ stop = rw (s.is, e) (get_or-append_seam (decimal n) stop rest 0) in
          absurd (s.ends (subst IsDigit here digit))
    ]

-- Where it is none, the number ends.
pub ends : (bytes : List ℕ) (n stop : ℕ) (rest : List ℕ) (place : ℕ) → n < 2 ^ 128 → Stands bytes n stop rest →
    place ≤ length (decimal n) → IsStop (get_or bytes place 0) → place ≡ length (decimal n)
ends bytes n stop rest place small s le none =
    elim (cases_lt place (length (decimal n))) [
      | inl lt ↦ absurd (none (digit_in bytes n stop rest place small s lt))
      | inr ge ↦ omega arith
    ]

-- There are bytes behind the number.
pub inside : (bytes : List ℕ) (n stop : ℕ) (rest : List ℕ) → Stands bytes n stop rest →
    length (decimal n) < length bytes
inside bytes n stop rest s = rw s.is (omega (arith, length-append (decimal n) (stop ∷ rest)))

-- The bytes up to its end are the number, and those from there on are the stop and the rest.
pub whole : (bytes : List ℕ) (n m stop : ℕ) (rest : List ℕ) (place : ℕ) → n < 2 ^ 128 → m < 2 ^ 128 →
    Stands bytes n stop rest → place ≡ length (decimal n) → decimal m ≡ take place bytes →
    (m ≡ n) × (drop place bytes ≡ stop ∷ rest)
whole bytes n m stop rest place small fits s e front =
    let at_end : take place bytes ≡ decimal n = rw s.is (take_at (decimal n) (stop ∷ rest) place (sym e)) in (
      decimal_same m n fits small (front ∙ at_end),
      rw s.is (drop_at (decimal n) (stop ∷ rest) place (sym e)),
    )

-- A digit more at the place.
pub grows : (bytes : List ℕ) (place number : ℕ) → place < length bytes → Grows bytes place number →
    IsDigit (get_or bytes place 0) → IsNext number place → number * 10 + (get_or bytes place 0 - 48) < 2 ^ 128 →
    Grows bytes (place + 1) (number * 10 + (get_or bytes place 0 - 48))
grows bytes zero number lt g digit next fits =
    let byte = get_or bytes 0 0 in
    let e : number ≡ 0 = g.none refl in
    let v : number * 10 + (byte - 48) ≡ byte - 48 = omega arith in
    let d : 48 + (byte - 48) ≡ byte = omega (arith, digit.0) in
    record {
      none = λ h. absurd (omega arith);
      some = λ h. rw (v, decimal_digit (byte - 48) (omega (arith, digit.1)), d, take_more bytes 0 0 lt) refl;
    }
grows bytes (suc place) number lt g digit next fits =
    let byte = get_or bytes (suc place) 0 in
    let pos : 0 < number = next (omega arith) in
    let low : byte - 48 < 10 = omega (arith, digit.0, digit.1) in
    let d : 48 + (byte - 48) ≡ byte = omega (arith, digit.0) in
    let v = number * 10 + (byte - 48) in
    let front : v / 10 ≡ number = omega arith in
    let last : v % 10 ≡ byte - 48 = omega arith in
    record {
      none = λ h. absurd (omega arith);
      some = λ h.
          rw (decimal_step_wide v (omega arith) (small_enough v fits), front, last, d, g.some (omega arith), take_more bytes (suc place) 0 lt) refl;
    }

-- The value of the digits so far.
value_so_far : (bytes : List ℕ) (place number : ℕ) → number < 2 ^ 128 → Grows bytes place number →
    digits_value 10 (take place bytes) ≡ number
value_so_far bytes zero number small g = sym (g.none refl)
value_so_far bytes (suc place) number small g =
    rw (← (g.some (omega arith))) (decimal_is_IsNumeral_wide number (small_enough number small)).1

-- A number that stands there is at least what its first digits say.
pub no_overflow : (bytes : List ℕ) (n stop : ℕ) (rest : List ℕ) (place number : ℕ) → n < 2 ^ 128 →
    Stands bytes n stop rest → place < length (decimal n) → number < 2 ^ 128 → Grows bytes place number →
    number * 10 + (get_or bytes place 0 - 48) ≤ n
no_overflow bytes n stop rest place number fits s lt small g =
    let long : place < length bytes = omega (arith, inside bytes n stop rest s) in
    let more = digits_value_more 10 bytes place long in
    let so_far = value_so_far bytes place number small g in
    let digit = digit_in bytes n stop rest place fits s lt in
    let one = digit_value_digit (get_or bytes place 0) digit in
    let front : take (place + 1) bytes ≡ take (place + 1) (decimal n) =
    rw s.is (take-append-le (place + 1) (decimal n) (stop ∷ rest) (omega arith)) in
    let below = digits_value-take-le 10 (decimal n) (place + 1) (omega arith) in
    let value = (decimal_is_IsNumeral_wide n (small_enough n fits)).1 in
    let all : digits_value 10 (take (place + 1) bytes) ≤ n = rw front (omega (arith, below, value)) in
    omega (arith, all, more, so_far, one, digit.0)

-- Only the number 0 begins with a zero.
pub lead : (bytes : List ℕ) (n stop : ℕ) (rest : List ℕ) (place number : ℕ) → n < 2 ^ 128 →
    Stands bytes n stop rest → place < length (decimal n) → Grows bytes place number → IsNext number place
lead bytes n stop rest place zero small s lt g pos =
    let front : decimal 0 ≡ take place bytes = g.some pos in
    let first : get_or bytes 0 0 ≡ 48 =
    sym (get_or-take place bytes 0 0 pos) ∙ ap (λ (t : List ℕ). get_or t 0 0) (sym front ∙ decimal_digit 0 (omega arith)) in
    let same : get_or bytes 0 0 ≡ get_or (decimal n) 0 0 =
    rw s.is (get_or_append_left (decimal n) (stop ∷ rest) 0 0 (omega arith)) in
    elim (cases_lt 0 n) [
      | inl some ↦ absurd (omega (arith, first_digit n some small, same, first))
      | inr none ↦
          let e : n ≡ 0 = omega arith in
          let one : length (decimal n) ≡ 1 = rw (e, decimal_digit 0 (omega arith)) refl in
          absurd (omega arith)
    ]
lead bytes n stop rest place (suc number) small s lt g pos = omega arith
