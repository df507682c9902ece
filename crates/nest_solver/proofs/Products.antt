-- Products over the numbers from 1 up to a number.
use Rattle.std.proofs.Common.{◌≡◌, ◌⊎◌, ℕ, zero, suc, ◌+◌, ◌-◌, ◌*◌, ◌<◌, ◌≤◌, ◌==◌, ◌&&◌, nat_lt, cond, Bool, true, false, refl, sym, ap, ap₂, ◌∙◌, inl, inr, arith, mul-le-mul}
use Rattle.std.proofs.lemmas.Bool.{cases_eq, cases_lt}
use Rattle.std.proofs.lemmas.Bool.Decides.{nat_tests}
use Rattle.ipet_program.specs.Sums.{sum_to, product_to}
use Rattle.nest_solver.specs.Shape.{Shape, IsNest, IsUpTo}
use Rattle.nest_solver.specs.Ways.{IsRound}
use Rattle.nest_solver.specs.Counted.{bit}
use Rattle.nest_solver.specs.Crude.{grown}
use Rattle.nest_solver.proofs.Sums.{up_more, up_last, sum-none, sum-only}

pub product-same : (n : ℕ) (f g : ℕ → ℕ) → ((i : ℕ) → IsUpTo n i → f i ≡ g i) → product_to n f ≡ product_to n g
product-same zero f g h = refl
product-same (suc n) f g h =
    ap₂ (λ a b. a * b) (product-same n f g (λ i u. h i (up_more n i u))) (h (suc n) (up_last n))

product-times : (n : ℕ) (f g : ℕ → ℕ) → product_to n (λ i. f i * g i) ≡ product_to n f * product_to n g
product-times zero f g = refl
product-times (suc n) f g =
    ap (λ a. a * (f (suc n) * g (suc n))) (product-times n f g)
    ∙ turn (product_to n f) (product_to n g) (f (suc n)) (g (suc n))
  where
    turn : (a b c d : ℕ) → (a * b) * (c * d) ≡ (a * c) * (b * d)
    turn a b c d = omega arith

product-le : (n : ℕ) (f g : ℕ → ℕ) → ((i : ℕ) → IsUpTo n i → f i ≤ g i) → product_to n f ≤ product_to n g
product-le zero f g h = omega arith
product-le (suc n) f g h =
    mul-le-mul (product-le n f g (λ i u. h i (up_more n i u))) (h (suc n) (up_last n))

product-ones : (n : ℕ) (f : ℕ → ℕ) → ((i : ℕ) → IsUpTo n i → f i ≡ 1) → product_to n f ≡ 1
product-ones zero f h = refl
product-ones (suc n) f h =
    ap₂ (λ a b. a * b) (product-ones n f (λ i u. h i (up_more n i u))) (h (suc n) (up_last n))

product-only : (n k : ℕ) (f : ℕ → ℕ) → IsUpTo n k →
    ((i : ℕ) → IsUpTo n i → (i ≡ k → ⊥) → f i ≡ 1) → product_to n f ≡ f k
product-only zero k f u h = absurd (omega (arith, u))
product-only (suc n) k f u h =
    elim (cases_eq k (suc n)) as (λ _. product_to n f * f (suc n) ≡ f k) [
      | inl e ↦ ap₂ (λ a b. a * b)
          (product-ones n f (λ i v. h i (up_more n i v) (λ same. omega (arith, v, same, e)))) (ap f (sym e))
          ∙ omega arith
      | inr differ ↦ ap₂ (λ a b. a * b)
          (product-only n k f (omega (arith, u, differ)) (λ i v. h i (up_more n i v)))
          (h (suc n) (up_last n) (λ same. differ (sym same)))
          ∙ omega arith
    ]

-- The bound of a loop of just this depth that holds a place, else 1.
abbrev one_bound : Shape → (depth place : ℕ) → ℕ → ℕ
one_bound s depth p l = cond (s.holds l p && (s.depth l == depth)) (s.bound l) 1

factor_split : (h : Bool) (deep depth b : ℕ) →
    cond (h && nat_lt depth deep) b 1 ≡ cond (h && nat_lt (suc depth) deep) b 1 * cond (h && (deep == suc depth)) b 1
factor_split true deep depth b = elim (cases_lt depth deep)
    as (λ _. cond (true && nat_lt depth deep) b 1
    ≡ cond (true && nat_lt (suc depth) deep) b 1 * cond (true && (deep == suc depth)) b 1) [
      | inr low ↦ grind (arith, nat_tests)
      | inl high ↦ elim (cases_eq deep (suc depth))
          as (λ _. cond (true && nat_lt depth deep) b 1
          ≡ cond (true && nat_lt (suc depth) deep) b 1 * cond (true && (deep == suc depth)) b 1) [
            | inl e ↦ grind (arith, nat_tests)
            | inr n ↦ grind (arith, nat_tests)
          ]
    ]
factor_split false deep depth b = refl

one_here : (h : Bool) (deep depth b : ℕ) → h ≡ true → deep ≡ depth → cond (h && (deep == depth)) b 1 ≡ b
one_here h deep depth b e f = grind (arith, nat_tests)

one_not : (h : Bool) (deep depth b : ℕ) → (h ≡ true → deep ≡ depth → ⊥) → cond (h && (deep == depth)) b 1 ≡ 1
one_not true deep depth b n = elim (cases_eq deep depth) as (λ _. cond (true && (deep == depth)) b 1 ≡ 1) [
  | inl e ↦ absurd (n refl e)
  | inr m ↦ grind (arith, nat_tests)
]
one_not false deep depth b n = refl

pub bit_here : (h : Bool) (deep depth : ℕ) → h ≡ true → deep ≡ depth → bit (h && (deep == depth)) ≡ 1
bit_here h deep depth e f = grind (arith, nat_tests)

pub bit_not : (h : Bool) (deep depth : ℕ) → (h ≡ true → deep ≡ depth → ⊥) → bit (h && (deep == depth)) ≡ 0
bit_not true deep depth n = elim (cases_eq deep depth) as (λ _. bit (true && (deep == depth)) ≡ 0) [
  | inl e ↦ absurd (n refl e)
  | inr m ↦ grind (arith, nat_tests)
]
bit_not false deep depth n = refl

-- The loop of a depth round a place is the only one of that depth that holds it.
only_round : (s : Shape) (depth : ℕ) (round : ℕ → ℕ) (p l : ℕ) → IsRound s depth round → IsUpTo s.loops l →
    (l ≡ round p → ⊥) → s.holds l p ≡ true → s.depth l ≡ depth → ⊥
only_round s depth round p l rounds u differ held deep = differ (sym (rounds.all l p u deep held))

-- So a depth less makes the product grow by that loop's bound.
pub grown-level : (s : Shape) (depth p : ℕ) (round : ℕ → ℕ) → IsNest s → IsRound s (suc depth) round →
    grown s depth p
    ≡ grown s (suc depth) p * (1 + sum_to s.loops (λ l. bit (s.holds l p && (s.depth l == suc depth)) * (s.bound l - 1)))
grown-level s depth p round nest rounds =
    product-same s.loops (λ l. cond (s.holds l p && nat_lt depth (s.depth l)) (s.bound l) 1)
    (λ l. cond (s.holds l p && nat_lt (suc depth) (s.depth l)) (s.bound l) 1 * one_bound s (suc depth) p l)
    (λ l u. factor_split (s.holds l p) (s.depth l) depth (s.bound l))
    ∙ product-times s.loops (λ l. cond (s.holds l p && nat_lt (suc depth) (s.depth l)) (s.bound l) 1)
    (one_bound s (suc depth) p)
    ∙ ap (λ n. grown s (suc depth) p * n) (by (cases_lt 0 (round p)))
  where
    parts : ℕ → ℕ
    parts l = bit (s.holds l p && (s.depth l == suc depth)) * (s.bound l - 1)

    by : (0 < round p) ⊎ (round p ≤ 0) → product_to s.loops (one_bound s (suc depth) p)
        ≡ 1 + sum_to s.loops (λ l. bit (s.holds l p && (s.depth l == suc depth)) * (s.bound l - 1))
    by (inl some) =
        let here = rounds.here p some in
        product-only s.loops (round p) (one_bound s (suc depth) p) here.0
        (λ l u differ. one_not (s.holds l p) (s.depth l) (suc depth) (s.bound l)
        (only_round s (suc depth) round p l rounds u differ))
        ∙ one_here (s.holds (round p) p) (s.depth (round p)) (suc depth) (s.bound (round p)) here.2 here.1
        ∙ sym (ap (λ n. 1 + n)
        (sum-only s.loops (round p) (λ l. bit (s.holds l p && (s.depth l == suc depth)) * (s.bound l - 1)) here.0
        (λ l u differ. ap (λ b. b * (s.bound l - 1)) (bit_not (s.holds l p) (s.depth l) (suc depth)
        (only_round s (suc depth) round p l rounds u differ)) ∙ omega arith)
        ∙ ap (λ b. b * (s.bound (round p) - 1))
        (bit_here (s.holds (round p) p) (s.depth (round p)) (suc depth) here.2 here.1))
        ∙ omega (arith, nest.bounds (round p) here.0))
    by (inr none) =
        product-ones s.loops (one_bound s (suc depth) p)
        (λ l u. one_not (s.holds l p) (s.depth l) (suc depth) (s.bound l)
        (only_round s (suc depth) round p l rounds u (λ e. omega (arith, e, u, none))))
        ∙ sym (ap (λ n. 1 + n)
        (sum-none s.loops (λ l. bit (s.holds l p && (s.depth l == suc depth)) * (s.bound l - 1))
        (λ l u. ap (λ b. b * (s.bound l - 1)) (bit_not (s.holds l p) (s.depth l) (suc depth)
        (only_round s (suc depth) round p l rounds u (λ e. omega (arith, e, u, none)))) ∙ omega arith)))

grown_factor : (h : Bool) (deep depth b : ℕ) → 1 ≤ b → cond (h && nat_lt depth deep) b 1 ≤ cond (h && nat_lt 0 deep) b 1
grown_factor true deep depth b some = grind (arith, nat_tests)
grown_factor false deep depth b some = omega arith

pub grown-most : (s : Shape) (depth p : ℕ) → IsNest s → grown s depth p ≤ grown s 0 p
grown-most s depth p nest =
    product-le s.loops (λ l. cond (s.holds l p && nat_lt depth (s.depth l)) (s.bound l) 1)
    (λ l. cond (s.holds l p && nat_lt 0 (s.depth l)) (s.bound l) 1)
    (λ l u. grown_factor (s.holds l p) (s.depth l) depth (s.bound l) (nest.bounds l u))

-- Where no loop is deeper, nothing grows.
pub grown-none : (s : Shape) (depth p : ℕ) → ((l : ℕ) → IsUpTo s.loops l → s.depth l ≤ depth) → grown s depth p ≡ 1
grown-none s depth p low =
    product-ones s.loops (λ l. cond (s.holds l p && nat_lt depth (s.depth l)) (s.bound l) 1)
    (λ l u. by (s.holds l p) (s.depth l) (s.bound l) (low l u))
  where
    by : (h : Bool) (deep b : ℕ) → deep ≤ depth → cond (h && nat_lt depth deep) b 1 ≡ 1
    by true deep b e = grind (arith, nat_tests)
    by false deep b e = refl
