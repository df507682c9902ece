-- What a touch does to ages that are at most the true ones.
use Rattle.std.proofs.Common.{◌≡◌, ℕ, suc, ◌+◌, ◌<◌, ◌≤◌, Bool, true, false, cond, List, [], ◌∷◌, length, sym, ap, ◌∙◌, subst, inl, inr, arith}
use Rattle.std.specs.Prelude.{◌==◌, ◌||◌, min, nat_le}
use Rattle.std.proofs.lemmas.Bool.{cases_Bool, cases_lt}
use Rattle.std.proofs.lemmas.Bool.Decides.{nat_tests}
use Rattle.lru_concrete.specs.Sets.{is_in, touched}
use Rattle.age_model.specs.Ages.{age_from, true_age, sure_lower, grown_below, grown_up_to, AreLowerAges}
use Rattle.age_model.proofs.Ages.{age-high, age-low, age-touched, grown-less, grown-not}

-- Two blocks in a set have two ages.
apart-from : (ways n : ℕ) (xs : List ℕ) (b c : ℕ) → n + length xs ≤ ways → age_from ways n xs b ≡ age_from ways n xs c →
    age_from ways n xs c < ways → b ≡ c
apart-from ways n [] b c fits e less = absurd (omega (arith, less))
apart-from ways n (x ∷ xs) b c fits e less =
    elim (cases_Bool (x == b)) as (λ _. b ≡ c) [
      | inl h ↦ elim (cases_Bool (x == c)) as (λ _. b ≡ c) [
        | inl k ↦ grind (arith, nat_tests, h, k)
        | inr k ↦
            let eb : age_from ways n (x ∷ xs) b ≡ n = ap (λ (t : Bool). cond t n (age_from ways (suc n) xs b)) h in
            let ec : age_from ways n (x ∷ xs) c ≡ age_from ways (suc n) xs c = ap (λ (t : Bool). cond t n (age_from ways (suc n) xs c)) k in
            let low = age-low ways (suc n) xs c (omega (arith, fits)) (omega (arith, fits)) in
            absurd (omega (arith, eb, ec, e, low))
      ]
      | inr h ↦ elim (cases_Bool (x == c)) as (λ _. b ≡ c) [
        | inl k ↦
            let eb : age_from ways n (x ∷ xs) b ≡ age_from ways (suc n) xs b = ap (λ (t : Bool). cond t n (age_from ways (suc n) xs b)) h in
            let ec : age_from ways n (x ∷ xs) c ≡ n = ap (λ (t : Bool). cond t n (age_from ways (suc n) xs c)) k in
            let low = age-low ways (suc n) xs b (omega (arith, fits)) (omega (arith, fits)) in
            absurd (omega (arith, eb, ec, e, low))
        | inr k ↦
            let eb : age_from ways n (x ∷ xs) b ≡ age_from ways (suc n) xs b = ap (λ (t : Bool). cond t n (age_from ways (suc n) xs b)) h in
            let ec : age_from ways n (x ∷ xs) c ≡ age_from ways (suc n) xs c = ap (λ (t : Bool). cond t n (age_from ways (suc n) xs c)) k in
            apart-from ways (suc n) xs b c (omega (arith, fits)) (sym eb ∙ e ∙ ec) (omega (arith, less, ec))
      ]
    ]

-- The rule of true ages against that of lower ages, of another block.
low-step : (ways a b l m : ℕ) → l ≤ a → m ≤ b → a ≤ ways → (a ≡ b → a < ways → ⊥) →
    cond (nat_le l m) (min (l + 1) ways) l ≤ grown_below a b
low-step ways a b l m low mow high apart =
    elim (cases_lt a b) as (λ _. cond (nat_le l m) (min (l + 1) ways) l ≤ grown_below a b) [
      | inl less ↦ let e = grown-less a b less in
          let most : cond (nat_le l m) (min (l + 1) ways) l ≤ l + 1 = grind (arith, nat_tests) in
          omega (arith, e, most, low)
      | inr more ↦ let e = grown-not a b more in
          elim (cases_lt m l) as (λ _. cond (nat_le l m) (min (l + 1) ways) l ≤ grown_below a b) [
            | inl young ↦ let test : nat_le l m ≡ false = grind (arith, nat_tests, young) in
                let same : cond (nat_le l m) (min (l + 1) ways) l ≡ l = ap (λ (t : Bool). cond t (min (l + 1) ways) l) test in
                omega (arith, same, e, low)
            | inr old ↦ let test : nat_le l m ≡ true = grind (arith, nat_tests, old) in
                let same : cond (nat_le l m) (min (l + 1) ways) l ≡ min (l + 1) ways = ap (λ (t : Bool). cond t (min (l + 1) ways) l) test in
                elim (cases_lt l a) as (λ _. cond (nat_le l m) (min (l + 1) ways) l ≤ grown_below a b) [
                  | inl room ↦ omega (arith, same, e, room)
                  | inr full ↦ let eq : a ≡ b = omega (arith, more, low, mow, old, full) in
                      elim (cases_lt a ways) as (λ _. cond (nat_le l m) (min (l + 1) ways) l ≤ grown_below a b) [
                        | inl less ↦ absurd (apart eq less)
                        | inr top ↦ omega (arith, same, e, top, high)
                      ]
                ]
          ]
    ]

touch-rises : (a b : ℕ) → a ≤ grown_below a b
touch-rises a b = grind (arith, nat_tests)

other-age : (ways : ℕ) (blocks : List ℕ) (b c : ℕ) → 1 ≤ ways → length blocks ≤ ways → (c == b) ≡ false →
    true_age ways (touched ways blocks b) c ≡ grown_below (true_age ways blocks c) (true_age ways blocks b)
other-age ways blocks b c some fits e = age-touched ways blocks b c some fits ∙
    ap (λ (t : Bool). cond t 0 (grown_below (true_age ways blocks c) (true_age ways blocks b))) e

-- A sure touch keeps lower ages at most the true ones.
pub sure_lower-covers : (ways : ℕ) (age : ℕ → ℕ) (blocks : List ℕ) (b : ℕ) → 1 ≤ ways → length blocks ≤ ways →
    AreLowerAges ways age blocks → AreLowerAges ways (sure_lower ways b age) (touched ways blocks b)
sure_lower-covers ways age blocks b some fits covers c =
    elim (cases_Bool (c == b)) as (λ _. sure_lower ways b age c ≤ true_age ways (touched ways blocks b) c) [
      | inl h ↦ subst (λ (t : Bool). cond t 0 (grown_up_to ways (age c) (age b)) ≤ true_age ways (touched ways blocks b) c)
          (sym h) (omega arith)
      | inr h ↦ subst (λ (t : Bool). cond t 0 (grown_up_to ways (age c) (age b)) ≤ true_age ways (touched ways blocks b) c)
          (sym h)
          (subst (λ (n : ℕ). grown_up_to ways (age c) (age b) ≤ n) (sym (other-age ways blocks b c some fits h))
          (low-step ways (true_age ways blocks c) (true_age ways blocks b) (age c) (age b) (covers c) (covers b)
          (age-high ways 0 blocks c (omega (arith, fits)))
          (λ same less.
          let equal : c ≡ b = apart-from ways 0 blocks c b (omega (arith, fits)) same (omega (arith, same, less)) in
          grind (arith, nat_tests, h, equal))))
    ]

-- A touch of a block keeps ages at most the true ones where it gives the block the age 0.
pub reset-covers : (ways : ℕ) (age age' : ℕ → ℕ) (blocks : List ℕ) (b : ℕ) → 1 ≤ ways → length blocks ≤ ways →
    AreLowerAges ways age blocks → ((c : ℕ) → age' c ≤ age c) → age' b ≡ 0 →
    AreLowerAges ways age' (touched ways blocks b)
reset-covers ways age age' blocks b some fits covers less reset c =
    elim (cases_Bool (c == b)) as (λ _. age' c ≤ true_age ways (touched ways blocks b) c) [
      | inl h ↦ let same : c ≡ b = grind (arith, nat_tests, h) in
          let zeroed : age' c ≡ 0 = ap age' same ∙ reset in omega (arith, zeroed)
      | inr h ↦
          let rule = other-age ways blocks b c some fits h in
          let low = covers c in
          let rest = less c in
          let up = touch-rises (true_age ways blocks c) (true_age ways blocks b) in
          omega (arith, rule, low, rest, up)
    ]

-- A block whose lower age is the ways isn't in the set.
in-young : (ways b n : ℕ) (xs : List ℕ) → n + length xs ≤ ways → is_in xs b ≡ true → age_from ways n xs b < ways
in-young ways b n [] fits e = absurd (grind (arith, e))
in-young ways b n (x ∷ xs) fits e = elim (cases_Bool (x == b)) as (λ _. cond (x == b) n (age_from ways (suc n) xs b) < ways) [
  | inl h ↦ subst (λ (t : Bool). cond t n (age_from ways (suc n) xs b) < ways) (sym h) (omega (arith, fits))
  | inr h ↦ subst (λ (t : Bool). cond t n (age_from ways (suc n) xs b) < ways) (sym h)
      (in-young ways b (suc n) xs (omega (arith, fits)) (sym (ap (λ (t : Bool). t || is_in xs b) h) ∙ e))
]

pub low-absent : (ways : ℕ) (age : ℕ → ℕ) (blocks : List ℕ) (b : ℕ) → length blocks ≤ ways → AreLowerAges ways age blocks → ways ≤ age b →
    is_in blocks b ≡ false
low-absent ways age blocks b fits covers old = elim (cases_Bool (is_in blocks b)) as (λ _. is_in blocks b ≡ false) [
  | inr h ↦ h
  | inl h ↦
      let low = covers b in
      let young = in-young ways b 0 blocks (omega (arith, fits)) h in
      absurd (omega (arith, low, young, old))
]
