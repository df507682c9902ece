-- What a touch does to the true ages of the blocks of a set, and to ages that are at least as great.
use Rattle.std.proofs.Common.{◌≡◌, ℕ, zero, suc, ◌+◌, ◌<◌, ◌≤◌, Bool, true, false, cond, List, [], ◌∷◌, length, take, refl, sym, ap, ap₂, ◌∙◌, subst, inl, inr, arith}
use Rattle.std.specs.Prelude.{◌==◌, ◌||◌, nat_lt}
use Rattle.std.proofs.lemmas.Bool.{cases_Bool}
use Rattle.std.proofs.lemmas.Bool.Decides.{nat_tests}
use Rattle.lru_concrete.specs.Sets.{is_in, without, touched}
use Rattle.age_model.specs.Ages.{age_from, true_age, sure_upper, grown_below, AreUpperAges}

-- Ages from n on lie between n and the ways.
pub age-high : (ways n : ℕ) (xs : List ℕ) (c : ℕ) → n + length xs ≤ ways → age_from ways n xs c ≤ ways
age-high ways n [] c h = omega arith
age-high ways n (x ∷ xs) c h = elim (cases_Bool (x == c)) as (λ _. age_from ways n (x ∷ xs) c ≤ ways) [
  | inl e ↦ subst (λ (b : Bool). cond b n (age_from ways (suc n) xs c) ≤ ways) (sym e) (omega (arith, h))
  | inr e ↦ subst (λ (b : Bool). cond b n (age_from ways (suc n) xs c) ≤ ways) (sym e)
      (age-high ways (suc n) xs c (omega (arith, h)))
]

pub age-low : (ways n : ℕ) (xs : List ℕ) (c : ℕ) → n ≤ ways → n + length xs ≤ ways → n ≤ age_from ways n xs c
age-low ways n [] c h fits = h
age-low ways n (x ∷ xs) c h fits = elim (cases_Bool (x == c)) as (λ _. n ≤ age_from ways n (x ∷ xs) c) [
  | inl e ↦ subst (λ (b : Bool). n ≤ cond b n (age_from ways (suc n) xs c)) (sym e) (omega arith)
  | inr e ↦ subst (λ (b : Bool). n ≤ cond b n (age_from ways (suc n) xs c)) (sym e)
      (let low = age-low ways (suc n) xs c (omega (arith, fits)) (omega (arith, fits)) in omega (arith, low))
]

pub grown-less : (a b : ℕ) → a < b → grown_below a b ≡ a + 1
grown-less a b h = let e : nat_lt a b ≡ true = grind (arith, nat_tests) in ap (λ (t : Bool). cond t (a + 1) a) e

pub grown-not : (a b : ℕ) → b ≤ a → grown_below a b ≡ a
grown-not a b h = let e : nat_lt a b ≡ false = grind (arith, nat_tests) in ap (λ (t : Bool). cond t (a + 1) a) e

take-whole : (k : ℕ) (xs : List ℕ) → length xs ≤ k → take k xs ≡ xs
take-whole zero [] h = refl
take-whole (suc k) [] h = refl
take-whole zero (x ∷ xs) h = absurd (omega (arith, h))
take-whole (suc k) (x ∷ xs) h = ap (λ (l : List ℕ). x ∷ l) (take-whole k xs (omega (arith, h)))

aged_on : (ways n k x : ℕ) (xs : List ℕ) (b c : ℕ) → k + suc n ≡ ways → n + length (x ∷ xs) ≤ ways →
    ((k' : ℕ) → k' + suc (suc n) ≡ ways → age_from ways (suc (suc n)) (take k' (without xs b)) c ≡ grown_below (age_from ways (suc n) xs c) (age_from ways (suc n) xs b)) →
    age_from ways (suc n) (take k (x ∷ without xs b)) c ≡ grown_below (age_from ways n (x ∷ xs) c) (age_from ways (suc n) xs b)
aged_on ways n zero x [] b c room fits ih =
    elim (cases_Bool (x == c)) as (λ _. ways ≡ grown_below (cond (x == c) n ways) ways) [
      | inl e ↦ sym (ap (λ (t : Bool). grown_below (cond t n ways) ways) e ∙ grown-less n ways (omega (arith, room)) ∙ omega (arith, room))
      | inr e ↦ sym (ap (λ (t : Bool). grown_below (cond t n ways) ways) e ∙ grown-not ways ways (omega arith))
    ]
aged_on ways n zero x (y ∷ ys) b c room fits ih = absurd (omega (arith, room, fits))
aged_on ways n (suc k) x xs b c room fits ih =
    elim (cases_Bool (x == c))
    as (λ _. cond (x == c) (suc n) (age_from ways (suc (suc n)) (take k (without xs b)) c)
    ≡ grown_below (cond (x == c) n (age_from ways (suc n) xs c)) (age_from ways (suc n) xs b)) [
      | inl e ↦ let low = age-low ways (suc n) xs b (omega (arith, room)) (omega (arith, fits)) in
          ap (λ (t : Bool). cond t (suc n) (age_from ways (suc (suc n)) (take k (without xs b)) c)) e
          ∙ sym (ap (λ (t : Bool). grown_below (cond t n (age_from ways (suc n) xs c)) (age_from ways (suc n) xs b)) e
          ∙ grown-less n (age_from ways (suc n) xs b) (omega (arith, low)) ∙ omega arith)
      | inr e ↦ ap (λ (t : Bool). cond t (suc n) (age_from ways (suc (suc n)) (take k (without xs b)) c)) e
          ∙ ih k (omega (arith, room))
          ∙ sym (ap (λ (t : Bool). grown_below (cond t n (age_from ways (suc n) xs c)) (age_from ways (suc n) xs b)) e)
    ]

-- The rule on true ages, of another block than the touched one.
aged : (ways n k : ℕ) (xs : List ℕ) (b c : ℕ) → k + suc n ≡ ways → (b ≡ c → ⊥) → n + length xs ≤ ways →
    age_from ways (suc n) (take k (without xs b)) c ≡ grown_below (age_from ways n xs c) (age_from ways n xs b)
aged ways n zero [] b c room apart fits = sym (grown-not ways ways (omega arith))
aged ways n (suc k) [] b c room apart fits = sym (grown-not ways ways (omega arith))
aged ways n k (x ∷ xs) b c room apart fits =
    elim (cases_Bool (x == b)) as (λ _. age_from ways (suc n) (take k (without (x ∷ xs) b)) c ≡ grown_below (age_from ways n (x ∷ xs) c) (age_from ways n (x ∷ xs) b)) [
      | inl here ↦
          let same : x ≡ b = grind (arith, nat_tests, here) in
          let other : (x == c) ≡ false = grind (arith, nat_tests, same, apart) in
          let cut : without (x ∷ xs) b ≡ xs = ap (λ (t : Bool). cond t xs (x ∷ without xs b)) here in
          let whole = take-whole k xs (omega (arith, room, fits)) in
          let age_c : age_from ways n (x ∷ xs) c ≡ age_from ways (suc n) xs c = ap (λ (t : Bool). cond t n (age_from ways (suc n) xs c)) other in
          let age_b : age_from ways n (x ∷ xs) b ≡ n = ap (λ (t : Bool). cond t n (age_from ways (suc n) xs b)) here in
          let low = age-low ways (suc n) xs c (omega (arith, room)) (omega (arith, fits)) in
          ap (λ (l : List ℕ). age_from ways (suc n) (take k l) c) cut ∙ ap (λ (l : List ℕ). age_from ways (suc n) l c) whole
          ∙ sym (ap₂ (λ (a d : ℕ). grown_below a d) age_c age_b ∙ grown-not (age_from ways (suc n) xs c) n (omega (arith, low)))
      | inr there ↦
          let keep : without (x ∷ xs) b ≡ x ∷ without xs b = ap (λ (t : Bool). cond t xs (x ∷ without xs b)) there in
          let age_b : age_from ways n (x ∷ xs) b ≡ age_from ways (suc n) xs b = ap (λ (t : Bool). cond t n (age_from ways (suc n) xs b)) there in
          ap (λ (l : List ℕ). age_from ways (suc n) (take k l) c) keep ∙ aged_on ways n k x xs b c room fits
          (λ k' room'. aged ways (suc n) k' xs b c room' apart (omega (arith, fits)))
          ∙ ap (λ (d : ℕ). grown_below (age_from ways n (x ∷ xs) c) d) (sym age_b)
    ]

pub is_in-age : (ways n : ℕ) (xs : List ℕ) (c : ℕ) → n + length xs ≤ ways → age_from ways n xs c < ways → is_in xs c ≡ true
is_in-age ways n [] c h less = absurd (omega (arith, less))
is_in-age ways n (x ∷ xs) c h less = elim (cases_Bool (x == c)) as (λ _. is_in (x ∷ xs) c ≡ true) [
  | inl e ↦ ap (λ (b : Bool). b || is_in xs c) e
  | inr e ↦ ap (λ (b : Bool). b || is_in xs c) e
      ∙ is_in-age ways (suc n) xs c (omega (arith, h))
      (subst (λ (m : ℕ). m < ways) (ap (λ (b : Bool). cond b n (age_from ways (suc n) xs c)) e) less)
]

-- A touch gives true ages by the rule of upper ages.
pub age-touched : (ways : ℕ) (blocks : List ℕ) (b c : ℕ) → 1 ≤ ways → length blocks ≤ ways →
    true_age ways (touched ways blocks b) c ≡ sure_upper b (true_age ways blocks) c
age-touched zero blocks b c some fits = absurd (omega (arith, some))
age-touched (suc w) blocks b c some fits =
    elim (cases_Bool (c == b)) as (λ _. cond (b == c) 0 (age_from (suc w) 1 (take w (without blocks b)) c)
    ≡ cond (c == b) 0 (grown_below (age_from (suc w) 0 blocks c) (age_from (suc w) 0 blocks b))) [
      | inl e ↦ let same : (b == c) ≡ true = grind (arith, nat_tests, e) in
          ap (λ (t : Bool). cond t 0 (age_from (suc w) 1 (take w (without blocks b)) c)) same
          ∙ sym (ap (λ (t : Bool). cond t 0 (grown_below (age_from (suc w) 0 blocks c) (age_from (suc w) 0 blocks b))) e)
      | inr e ↦ let other : (b == c) ≡ false = grind (arith, nat_tests, e) in
          let apart : b ≡ c → ⊥ = λ same. grind (arith, nat_tests, e, same) in
          ap (λ (t : Bool). cond t 0 (age_from (suc w) 1 (take w (without blocks b)) c)) other
          ∙ aged (suc w) 0 w blocks b c (omega arith) apart (omega (arith, fits))
          ∙ sym (ap (λ (t : Bool). cond t 0 (grown_below (age_from (suc w) 0 blocks c) (age_from (suc w) 0 blocks b))) e)
    ]

-- The rule rises in all ages.
pub grown-rises : (a b c d : ℕ) → a ≤ c → b ≤ d → grown_below a b ≤ grown_below c d
grown-rises a b c d h k = grind (arith, nat_tests, h, k)

pub sure_upper-covers : (ways : ℕ) (age : ℕ → ℕ) (blocks : List ℕ) (b : ℕ) → 1 ≤ ways → length blocks ≤ ways →
    AreUpperAges ways age blocks → AreUpperAges ways (sure_upper b age) (touched ways blocks b)
sure_upper-covers ways age blocks b some fits covers c =
    let rule = age-touched ways blocks b c some fits in
    elim (cases_Bool (c == b)) as (λ _. true_age ways (touched ways blocks b) c ≤ sure_upper b age c) [
      | inl e ↦ subst (λ (n : ℕ). n ≤ sure_upper b age c) (sym (rule ∙ ap (λ (t : Bool). cond t 0 (grown_below (true_age ways blocks c) (true_age ways blocks b))) e)) (omega arith)
      | inr e ↦ let left : true_age ways (touched ways blocks b) c ≡ grown_below (true_age ways blocks c) (true_age ways blocks b) =
          rule ∙ ap (λ (t : Bool). cond t 0 (grown_below (true_age ways blocks c) (true_age ways blocks b))) e in
          let right : sure_upper b age c ≡ grown_below (age c) (age b) = ap (λ (t : Bool). cond t 0 (grown_below (age c) (age b))) e in
          let rises = grown-rises (true_age ways blocks c) (true_age ways blocks b) (age c) (age b) (covers c) (covers b) in
          omega (arith, left, right, rises)
    ]
