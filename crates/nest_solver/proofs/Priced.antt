-- Places that carry the turns of the loops that begin there cost no more than the loops let them grow.
use Rattle.std.proofs.Common.{◌≡◌, ◌⊎◌, ℕ, suc, ◌+◌, ◌-◌, ◌*◌, ◌<◌, ◌≤◌, ◌==◌, ◌&&◌, nat_lt, Bool, true, false, refl, sym, ap, ◌∙◌, inl, inr, arith, mul-le-mul_left}
use Rattle.std.proofs.lemmas.Bool.{cases_eq, cases_lt, cases_Bool}
use Rattle.std.proofs.lemmas.Bool.Decides.{nat_tests}
use Rattle.ipet_program.specs.Sums.{sum_to}
use Rattle.nest_solver.specs.Shape.{Shape, IsNest, IsUpTo}
use Rattle.nest_solver.specs.Ways.{IsRound}
use Rattle.nest_solver.specs.Counted.{bit}
use Rattle.nest_solver.specs.Crude.{grown}
use Rattle.nest_solver.proofs.Sums.{sum-same, sum-le, sum-add, sum-scale, sum-none, sum-only, sum-swap}
use Rattle.nest_solver.proofs.Times.{bit_same}
use Rattle.nest_solver.proofs.Products.{bit_here, bit_not, grown-level, grown-none}

-- What the places of a set come to.
abbrev pub sum_in : Shape → (set : ℕ → Bool) → (ℕ → ℕ) → ℕ
sum_in s set f = sum_to s.places (λ p. bit (set p) * f p)

-- What an arc into a place carries besides: the turns of the loop that begins there, where it is deeper.
abbrev pub carried : Shape → (turns : ℕ → ℕ) → ℕ → ℕ
carried s turns l = (s.bound l - 1) * turns l

abbrev pub extra : Shape → (turns : ℕ → ℕ) → (depth : ℕ) → ℕ → ℕ
extra s turns depth p =
    sum_to s.loops (λ l. bit ((s.header l == p) && nat_lt depth (s.depth l)) * carried s turns l)

abbrev pub priced : Shape → (price turns : ℕ → ℕ) → (depth : ℕ) → ℕ → ℕ
priced s price turns depth p = price p + extra s turns depth p

-- A set takes each deeper loop whole whose header it has.
abbrev pub Takes : Shape → (depth : ℕ) → (ℕ → Bool) → Type 0
Takes s depth set = (l : ℕ) → IsUpTo s.loops l → depth < s.depth l → set (s.header l) ≡ true →
    (p : ℕ) → s.holds l p ≡ true → set p ≡ true

abbrev pub Covers : Shape → (price turns : ℕ → ℕ) → (depth : ℕ) → (ℕ → Bool) → Type 0
Covers s price turns depth set =
    sum_in s set (priced s price turns depth) ≤ sum_in s set (λ p. price p * grown s depth p)

-- The run takes all loops whole, and a loop takes those that are deeper.
pub takes-all : (s : Shape) (depth : ℕ) → Takes s depth (λ p. true)
takes-all s depth l u deep e p held = refl

pub takes-loop : (s : Shape) (depth k : ℕ) → IsNest s → IsUpTo s.loops k → s.depth k ≤ depth → Takes s depth (s.holds k)
takes-loop s depth k nest u low l v deep e p held =
    nest.inside k l (s.header l) p u v e (nest.held l v) (omega (arith, low, deep)) held

-- Where no loop is deeper nothing is carried.
extra_none : (a : Bool) (depth deep : ℕ) → deep ≤ depth → bit (a && nat_lt depth deep) ≡ 0
extra_none true depth deep low = grind (arith, nat_tests)
extra_none false depth deep low = refl

pub covers-none : (s : Shape) (price turns : ℕ → ℕ) (depth : ℕ) (set : ℕ → Bool) →
    ((l : ℕ) → IsUpTo s.loops l → s.depth l ≤ depth) → Covers s price turns depth set
covers-none s price turns depth set low =
    sum-le s.places (λ p. bit (set p) * priced s price turns depth p)
    (λ p. bit (set p) * (price p * grown s depth p))
    (λ p u. mul-le-mul_left (bit (set p)) (omega (
      arith,
      none p,
      ap (λ n. price p * n) (grown-none s depth p low),
    )))
  where
    none : (p : ℕ) → extra s turns depth p ≡ 0
    none p = sum-none s.loops
        (λ l. bit ((s.header l == p) && nat_lt depth (s.depth l)) * carried s turns l)
        (λ l u. ap (λ b. b * carried s turns l) (extra_none (s.header l == p) depth (s.depth l) (low l u))
        ∙ omega arith)

-- A depth less: each loop of that depth is carried by its header.
extra_split : (a : Bool) (depth deep : ℕ) →
    bit (a && nat_lt depth deep) ≡ bit (a && nat_lt (suc depth) deep) + bit (a && (deep == suc depth))
extra_split true depth deep = elim (cases_lt depth deep)
    as (λ _. bit (true && nat_lt depth deep)
    ≡ bit (true && nat_lt (suc depth) deep) + bit (true && (deep == suc depth))) [
      | inr low ↦ grind (arith, nat_tests)
      | inl high ↦ elim (cases_eq deep (suc depth))
          as (λ _. bit (true && nat_lt depth deep)
          ≡ bit (true && nat_lt (suc depth) deep) + bit (true && (deep == suc depth))) [
            | inl e ↦ grind (arith, nat_tests)
            | inr n ↦ grind (arith, nat_tests)
          ]
    ]
extra_split false depth deep = refl

abbrev here_extra : Shape → (turns : ℕ → ℕ) → (depth : ℕ) → ℕ → ℕ
here_extra s turns depth p =
    sum_to s.loops (λ l. bit ((s.header l == p) && (s.depth l == suc depth)) * carried s turns l)

extra-level : (s : Shape) (turns : ℕ → ℕ) (depth p : ℕ) →
    extra s turns depth p ≡ extra s turns (suc depth) p + here_extra s turns depth p
extra-level s turns depth p =
    sum-same s.loops (λ l. bit ((s.header l == p) && nat_lt depth (s.depth l)) * carried s turns l)
    (λ l. bit ((s.header l == p) && nat_lt (suc depth) (s.depth l)) * carried s turns l
    + bit ((s.header l == p) && (s.depth l == suc depth)) * carried s turns l)
    (λ l u. ap (λ b. b * carried s turns l) (extra_split (s.header l == p) depth (s.depth l)) ∙ omega arith)
    ∙ sum-add s.loops (λ l. bit ((s.header l == p) && nat_lt (suc depth) (s.depth l)) * carried s turns l)
    (λ l. bit ((s.header l == p) && (s.depth l == suc depth)) * carried s turns l)

-- What the headers of a set carry for the loops of that depth.
bit_at : (h p : ℕ) (b : Bool) → (p ≡ h → ⊥) → bit ((h == p) && b) ≡ 0
bit_at h p true n = grind (arith, nat_tests)
bit_at h p false n = grind (arith, nat_tests)

bit_on : (h : ℕ) (b : Bool) → bit ((h == h) && b) ≡ bit b
bit_on h true = grind (arith, nat_tests)
bit_on h false = grind (arith, nat_tests)

carried-in : (s : Shape) (turns : ℕ → ℕ) (depth : ℕ) (set : ℕ → Bool) → IsNest s →
    sum_in s set (here_extra s turns depth)
    ≡ sum_to s.loops (λ l. bit (set (s.header l)) * (bit (s.depth l == suc depth) * carried s turns l))
carried-in s turns depth set nest =
    sum-same s.places (λ p. bit (set p) * here_extra s turns depth p)
    (λ p. sum_to s.loops (λ l. bit (set p) * (bit ((s.header l == p) && (s.depth l == suc depth)) * carried s turns l)))
    (λ p u. sym (sum-scale s.loops (bit (set p))
    (λ l. bit ((s.header l == p) && (s.depth l == suc depth)) * carried s turns l)))
    ∙ sum-swap s.places s.loops
    (λ p l. bit (set p) * (bit ((s.header l == p) && (s.depth l == suc depth)) * carried s turns l))
    ∙ sum-same s.loops
    (λ l. sum_to s.places
    (λ p. bit (set p) * (bit ((s.header l == p) && (s.depth l == suc depth)) * carried s turns l)))
    (λ l. bit (set (s.header l)) * (bit (s.depth l == suc depth) * carried s turns l))
    one
  where
    one : (l : ℕ) → IsUpTo s.loops l →
        sum_to s.places (λ p. bit (set p) * (bit ((s.header l == p) && (s.depth l == suc depth)) * carried s turns l))
        ≡ bit (set (s.header l)) * (bit (s.depth l == suc depth) * carried s turns l)
    one l u = sum-only s.places (s.header l)
        (λ p. bit (set p) * (bit ((s.header l == p) && (s.depth l == suc depth)) * carried s turns l))
        (nest.headers l u)
        (λ p v differ. ap (λ b. bit (set p) * (b * carried s turns l))
        (bit_at (s.header l) p (s.depth l == suc depth) differ) ∙ omega arith)
        ∙ ap (λ b. bit (set (s.header l)) * (b * carried s turns l)) (bit_on (s.header l) (s.depth l == suc depth))

-- How the set grows by the loops of that depth.
grown-in : (s : Shape) (price : ℕ → ℕ) (depth : ℕ) (round : ℕ → ℕ) (set : ℕ → Bool) → IsNest s →
    IsRound s (suc depth) round →
    sum_in s set (λ p. price p * grown s depth p)
    ≡ sum_in s set (λ p. price p * grown s (suc depth) p)
    + sum_to s.loops (λ l. (s.bound l - 1) * sum_to s.places
    (λ p. bit (set p) * (bit (s.holds l p && (s.depth l == suc depth)) * (price p * grown s (suc depth) p))))
grown-in s price depth round set nest rounds =
    sum-same s.places (λ p. bit (set p) * (price p * grown s depth p))
    (λ p. bit (set p) * g p + sum_to s.loops (λ l. part p l))
    (λ p u. one p)
    ∙ sum-add s.places (λ p. bit (set p) * g p) (λ p. sum_to s.loops (λ l. part p l))
    ∙ ap (λ n. sum_in s set g + n)
    (sum-swap s.places s.loops part
    ∙ sum-same s.loops (λ l. sum_to s.places (λ p. part p l))
    (λ l. (s.bound l - 1) * sum_to s.places
    (λ p. bit (set p) * (bit (s.holds l p && (s.depth l == suc depth)) * g p)))
    (λ l u. sum-scale s.places (s.bound l - 1)
    (λ p. bit (set p) * (bit (s.holds l p && (s.depth l == suc depth)) * g p))))
  where
    g : ℕ → ℕ
    g p = price p * grown s (suc depth) p

    part : ℕ → ℕ → ℕ
    part p l = (s.bound l - 1) * (bit (set p) * (bit (s.holds l p && (s.depth l == suc depth)) * g p))

    spread : (x c w r : ℕ) → x * (c * (w * (1 + r))) ≡ x * (c * w) + (x * (c * w)) * r
    spread x c w r = omega arith

    turn : (x c b m : ℕ) → (x * c) * (b * m) ≡ m * (x * (b * c))
    turn x c b m = omega arith

    one : (p : ℕ) → bit (set p) * (price p * grown s depth p) ≡ bit (set p) * g p + sum_to s.loops (λ l. part p l)
    one p =
        ap (λ n. bit (set p) * (price p * n)) (grown-level s depth p round nest rounds)
        ∙ spread (bit (set p)) (price p) (grown s (suc depth) p)
        (sum_to s.loops (λ l. bit (s.holds l p && (s.depth l == suc depth)) * (s.bound l - 1)))
        ∙ ap (λ n. bit (set p) * g p + n)
        (sym (sum-scale s.loops (bit (set p) * g p)
        (λ l. bit (s.holds l p && (s.depth l == suc depth)) * (s.bound l - 1)))
        ∙ sum-same s.loops
        (λ l. (bit (set p) * g p) * (bit (s.holds l p && (s.depth l == suc depth)) * (s.bound l - 1)))
        (λ l. part p l)
        (λ l u. turn (bit (set p)) (g p) (bit (s.holds l p && (s.depth l == suc depth))) (s.bound l - 1)))

-- Where each loop of that depth turns at no more than its places come to, a depth less is covered too.
pub covers-level : (s : Shape) (price turns : ℕ → ℕ) (depth : ℕ) (round : ℕ → ℕ) (set : ℕ → Bool) → IsNest s →
    IsRound s (suc depth) round → Takes s depth set → Covers s price turns (suc depth) set →
    ((l : ℕ) → IsUpTo s.loops l → s.depth l ≡ suc depth →
    turns l ≤ sum_in s (s.holds l) (λ p. price p * grown s (suc depth) p)) →
    Covers s price turns depth set
covers-level s price turns depth round set nest rounds takes covers small =
    omega (
      arith,
      sum-same s.places (λ p. bit (set p) * priced s price turns depth p)
          (λ p. bit (set p) * priced s price turns (suc depth) p + bit (set p) * here_extra s turns depth p)
          (λ p u. ap (λ n. bit (set p) * (price p + n)) (extra-level s turns depth p) ∙ omega arith),
      sum-add s.places (λ p. bit (set p) * priced s price turns (suc depth) p)
          (λ p. bit (set p) * here_extra s turns depth p),
      carried-in s turns depth set nest,
      grown-in s price depth round set nest rounds,
      covers,
      sum-le s.loops (λ l. bit (set (s.header l)) * (bit (s.depth l == suc depth) * carried s turns l))
          (λ l. (s.bound l - 1) * sum_to s.places
          (λ p. bit (set p) * (bit (s.holds l p && (s.depth l == suc depth)) * (price p * grown s (suc depth) p))))
          one,
    )
  where
    g : ℕ → ℕ
    g p = price p * grown s (suc depth) p

    within : (l p : ℕ) → s.depth l ≡ suc depth → (s.holds l p ≡ true → set p ≡ true) →
        bit (s.holds l p) * g p ≤ bit (set p) * (bit (s.holds l p && (s.depth l == suc depth)) * g p)
    within l p deep has = elim (cases_Bool (s.holds l p))
        as (λ _. bit (s.holds l p) * g p ≤ bit (set p) * (bit (s.holds l p && (s.depth l == suc depth)) * g p)) [
          | inr out ↦ omega (arith, ap (λ b. bit b * g p) out)
          | inl held ↦ omega (
            arith,
            ap (λ b. bit b * g p) held,
            ap (λ b. bit b * (bit (s.holds l p && (s.depth l == suc depth)) * g p)) (has held),
            ap (λ b. b * g p) (bit_here (s.holds l p) (s.depth l) (suc depth) held deep),
          )
        ]

    one : (l : ℕ) → IsUpTo s.loops l →
        bit (set (s.header l)) * (bit (s.depth l == suc depth) * carried s turns l)
        ≤ (s.bound l - 1) * sum_to s.places
        (λ p. bit (set p) * (bit (s.holds l p && (s.depth l == suc depth)) * (price p * grown s (suc depth) p)))
    one l u = by (cases_Bool (set (s.header l))) (cases_eq (s.depth l) (suc depth))
      where
        by : (set (s.header l) ≡ true) ⊎ (set (s.header l) ≡ false) →
            (s.depth l ≡ suc depth) ⊎ (s.depth l ≡ suc depth → ⊥) →
            bit (set (s.header l)) * (bit (s.depth l == suc depth) * carried s turns l)
            ≤ (s.bound l - 1) * sum_to s.places
            (λ p. bit (set p) * (bit (s.holds l p && (s.depth l == suc depth)) * (price p * grown s (suc depth) p)))
        by (inr out) d = omega (arith, ap (λ b. bit b * (bit (s.depth l == suc depth) * carried s turns l)) out)
        by (inl has) (inr other) = omega (
          arith,
          ap (λ b. bit (set (s.header l)) * (b * carried s turns l))
              (bit_not true (s.depth l) (suc depth) (λ e f. other f)),
        )
        by (inl has) (inl deep) = omega (
          arith,
          ap (λ b. bit b * (bit (s.depth l == suc depth) * carried s turns l)) has,
          ap (λ b. b * carried s turns l) (bit_same (s.depth l) (suc depth) deep),
          mul-le-mul_left (s.bound l - 1) (small l u deep),
          mul-le-mul_left (s.bound l - 1)
              (sum-le s.places (λ p. bit (s.holds l p) * g p)
              (λ p. bit (set p) * (bit (s.holds l p && (s.depth l == suc depth)) * g p))
              (λ p v. within l p deep (takes l u (omega (arith, deep)) has p))),
        )
