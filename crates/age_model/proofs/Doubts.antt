-- What a touch that may not take place does to ages that are at least the true ones.
use Rattle.std.proofs.Common.{◌≡◌, ℕ, ◌+◌, ◌<◌, ◌≤◌, Bool, true, false, cond, List, [], ◌∷◌, length, sym, ap, ◌∙◌, subst, inl, inr, arith}
use Rattle.std.specs.Prelude.{◌==◌, ◌||◌, max}
use Rattle.std.proofs.lemmas.Bool.{cases_Bool}
use Rattle.std.proofs.lemmas.Bool.Decides.{nat_tests}
use Rattle.lru_concrete.specs.Sets.{is_in, touched}
use Rattle.age_model.specs.Ages.{true_age, grown_below, oldest, doubtful_upper, sure_upper, AreUpperAges}
use Rattle.age_model.proofs.Ages.{age-touched, grown-rises}

pub rest-in : (x c : ℕ) (xs : List ℕ) → is_in (x ∷ xs) c ≡ true → (x == c) ≡ false → is_in xs c ≡ true
rest-in x c xs there apart = sym (ap (λ (b : Bool). b || is_in xs c) apart) ∙ there

-- Each of the blocks is at most as old as the oldest.
pub oldest-above : (age : ℕ → ℕ) (blocks : List ℕ) (c : ℕ) → is_in blocks c ≡ true → age c ≤ oldest age blocks
oldest-above age [] c there = absurd (grind (arith, there))
oldest-above age (x ∷ xs) c there = elim (cases_Bool (x == c)) as (λ _. age c ≤ max (age x) (oldest age xs)) [
  | inl h ↦ let same : x ≡ c = grind (arith, nat_tests, h) in
      let ages : age x ≡ age c = ap age same in omega (arith, ages)
  | inr h ↦ let more = oldest-above age xs c (rest-in x c xs there h) in omega (arith, more)
]

pub grown-least : (age other : ℕ) → age ≤ grown_below age other
grown-least age other = grind (arith, nat_tests)

-- No touch.
pub doubtful_upper-stays : (ways : ℕ) (age : ℕ → ℕ) (blocks candidates : List ℕ) → AreUpperAges ways age blocks →
    AreUpperAges ways (doubtful_upper candidates age) blocks
doubtful_upper-stays ways age blocks candidates covers c =
    let low = covers c in
    let more = grown-least (age c) (oldest age candidates) in
    omega (arith, low, more)

-- A touch of one of the candidates.
pub doubtful_upper-touch : (ways : ℕ) (age : ℕ → ℕ) (blocks candidates : List ℕ) (b : ℕ) → 1 ≤ ways →
    length blocks ≤ ways → is_in candidates b ≡ true → AreUpperAges ways age blocks →
    AreUpperAges ways (doubtful_upper candidates age) (touched ways blocks b)
doubtful_upper-touch ways age blocks candidates b some fits there covers c =
    let rule = age-touched ways blocks b c some fits in
    let top = oldest-above age candidates b there in
    let mine = covers c in
    let others = covers b in
    elim (cases_Bool (c == b)) as (λ _. true_age ways (touched ways blocks b) c ≤ doubtful_upper candidates age c) [
      | inl e ↦ subst (λ (n : ℕ). n ≤ doubtful_upper candidates age c)
          (sym (rule ∙ ap (λ (t : Bool). cond t 0 (grown_below (true_age ways blocks c) (true_age ways blocks b))) e))
          (omega arith)
      | inr e ↦
          let left : true_age ways (touched ways blocks b) c ≡
          grown_below (true_age ways blocks c) (true_age ways blocks b) =
          rule ∙ ap (λ (t : Bool). cond t 0 (grown_below (true_age ways blocks c) (true_age ways blocks b))) e in
          let rises = grown-rises (true_age ways blocks c) (true_age ways blocks b) (age c) (oldest age candidates) mine
          (omega (arith, others, top)) in
          omega (arith, left, rises)
    ]
