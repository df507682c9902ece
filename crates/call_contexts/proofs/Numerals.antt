-- Numbers for the units of contexts, digit by digit: those of a context lie between the number of the call that made
-- it and the numbers of the units behind that call.
use Rattle.std.proofs.Common.{◌≡◌, ℕ, zero, suc, ◌+◌, ◌-◌, ◌*◌, ◌<◌, ◌≤◌, inl, inr, List, slice_get, Option, Some, None, refl, ap, ◌∙◌, arith}
use Rattle.std.proofs.lemmas.Bool.{cases_lt}
use Rattle.std.proofs.Math.Nat.{suc-mul}
use Rattle.std.proofs.lemmas.Nat.{mul-le}
use Rattle.flow_net.specs.declared.net.Context.{Context}

-- A number that none of some values exceeds.
abbrev pub total : (ℕ → ℕ) → ℕ → ℕ
total f zero = f 0
total f (suc n) = total f n + f (suc n)

pub total-least : (f : ℕ → ℕ) (n i : ℕ) → i ≤ n → f i ≤ total f n
total-least f zero zero low = omega arith
total-least f zero (suc i) low = absurd (omega (arith, low))
total-least f (suc n) i low = elim (cases_lt n i) as (λ _. f i ≤ total f (suc n)) [
  | inl last ↦ let same : f i ≡ f (suc n) = ap f (omega (arith, last, low)) in omega (arith, same)
  | inr before ↦ let most = total-least f n i before in omega (arith, most)
]

-- The weights of digits up to k.
abbrev pub weight : ℕ → ℕ → ℕ
weight k zero = 1
weight k (suc n) = weight k n + k * weight k n

weight-positive : (k n : ℕ) → 0 < weight k n
weight-positive k zero = omega arith
weight-positive k (suc n) = let low = weight-positive k n in omega (arith, low)

-- All digits of a lesser weight together stay below a greater weight.
weight-rises : (k i j : ℕ) → i < j → weight k i + k * weight k i ≤ weight k j
weight-rises k i zero less = absurd (omega (arith, less))
weight-rises k i (suc j) less = elim (cases_lt i j) as (λ _. weight k i + k * weight k i ≤ weight k (suc j)) [
  | inl before ↦ let low = weight-rises k i j before in omega (arith, low)
  | inr last ↦
      let same : weight k i + k * weight k i ≡ weight k (suc j) = ap (λ (n : ℕ). weight k n + k * weight k n) (omega (arith, less, last)) in
      omega (arith, same)
]

-- Each context but the first has an earlier parent.
abbrev pub AreEarlier : List Context → Type 0
AreEarlier contexts = (number : ℕ) (of : Context) → slice_get contexts number ≡ Some of → 0 < number → of.parent < number

module _ (contexts : List Context) (rank : ℕ → ℕ → ℕ) (k size : ℕ) where
  abbrev scale : ℕ → ℕ
  scale number = weight k (size - number)

  -- What the numbers of a context begin above.
  abbrev base : (ℕ → ℕ → ℕ) → ℕ → Option Context → ℕ
  base above zero of = 0
  base above (suc n) None = 0
  base above (suc n) (Some of) = scale (suc n) + above of.parent of.site

  abbrev value : (calls number address : ℕ) → ℕ
  value zero number address = 0
  value (suc calls) number address = rank number address * scale number + base (value calls) number (slice_get contexts number)

  base-same : AreEarlier contexts → (f g number : ℕ) (o : Option Context) → slice_get contexts number ≡ o → number ≤ f → number ≤ g →
      ((parent site : ℕ) → parent < f → parent < g → value f parent site ≡ value g parent site) →
      base (value f) number o ≡ base (value g) number o
  base-same earlier f g zero o there first second same = refl
  base-same earlier f g (suc n) None there first second same = refl
  base-same earlier f g (suc n) (Some of) there first second same =
      let before = earlier (suc n) of there (omega arith) in
      ap (λ (v : ℕ). scale (suc n) + v) (same of.parent of.site (omega (arith, before, first)) (omega (arith, before, second)))

  value-same : AreEarlier contexts → (f g number address : ℕ) → number < f → number < g → value f number address ≡ value g number address
  value-same earlier zero g number address low less = absurd (omega (arith, low))
  value-same earlier (suc f) zero number address low less = absurd (omega (arith, less))
  value-same earlier (suc f) (suc g) number address low less =
      ap (λ (b : ℕ). rank number address * scale number + b)
      (base-same earlier f g number (slice_get contexts number) refl (omega (arith, low)) (omega (arith, less))
      (λ parent site first second. value-same earlier f g parent site first second))

  -- The number of a unit in a context.
  pub numeral : (number address : ℕ) → ℕ
  numeral number address = value (suc number) number address

  made-numeral : AreEarlier contexts → (number : ℕ) (of : Context) (address : ℕ) → slice_get contexts number ≡ Some of → 0 < number →
      numeral number address ≡ rank number address * scale number + (scale number + numeral of.parent of.site)
  unfolding numeral
  made-numeral earlier zero of address there positive = absurd (omega (arith, positive))
  made-numeral earlier (suc n) of address there positive =
      ap (λ (o : Option Context). rank (suc n) address * scale (suc n) + base (value (suc n)) (suc n) o) there
      ∙ ap (λ (v : ℕ). rank (suc n) address * scale (suc n) + (scale (suc n) + v))
      (value-same earlier (suc n) (suc of.parent) of.parent of.site (earlier (suc n) of there positive) (omega arith))

  -- Within a context a greater rank gives a number that is greater by the weight.
  rank-numeral : (number address later : ℕ) → rank number address < rank number later →
      numeral number address + scale number ≤ numeral number later
  unfolding numeral
  rank-numeral number address later less =
      let most : suc (rank number address) * scale number ≤ rank number later * scale number = mul-le _ _ _ _ (omega (arith, less)) (omega arith) in
      omega (arith, most, suc-mul (rank number address) (scale number))

  pub numeral-rises : (number address later : ℕ) → rank number address < rank number later → numeral number address < numeral number later
  numeral-rises number address later less =
      let most = rank-numeral number address later less in
      omega (arith, most, weight-positive k (size - number))

  pub numeral-least : (number address later : ℕ) → rank number address ≤ rank number later → numeral number address ≤ numeral number later
  unfolding numeral
  numeral-least number address later most =
      let product : rank number address * scale number ≤ rank number later * scale number = mul-le _ _ _ _ most (omega arith) in
      omega (arith, product)

  -- A call goes to a greater number.
  pub call-rises : AreEarlier contexts → (number : ℕ) (of : Context) (address : ℕ) → slice_get contexts number ≡ Some of → 0 < number →
      numeral of.parent of.site < numeral number address
  call-rises earlier number of address there positive =
      let is = made-numeral earlier number of address there positive in
      omega (arith, is, weight-positive k (size - number))

  -- So does a return behind a call.
  pub return-rises : AreEarlier contexts → (number : ℕ) (of : Context) (address later : ℕ) → slice_get contexts number ≡ Some of → 0 < number →
      number < size → rank number address < k → rank of.parent of.site < rank of.parent later →
      numeral number address < numeral of.parent later
  return-rises earlier number of address later there positive within digit less =
      let is = made-numeral earlier number of address there positive in
      let most : suc (rank number address) * scale number ≤ k * scale number = mul-le _ _ _ _ (omega (arith, digit)) (omega arith) in
      let before = earlier number of there positive in
      let wide = weight-rises k (size - number) (size - of.parent) (omega (arith, before, within)) in
      let behind = rank-numeral of.parent of.site later less in
      omega (arith, is, most, wide, behind, weight-positive k (size - number), suc-mul (rank number address) (scale number))
