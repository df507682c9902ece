-- Worths bound the value of all counts that keep the rows.
use Rattle.std.proofs.Common.{◌≡◌, ℕ, ◌+◌, ◌-◌, ◌*◌, ◌≤◌, ◌==◌, true, refl, sym, ap, ap₂, ◌∙◌, inl, inr, arith, mul-le-mul_left, mul-le-mul_right}
use Rattle.std.proofs.lemmas.Bool.{cases_Bool, cases_lt}
use Rattle.ipet_program.specs.Sums.{sum_to}
use Rattle.nest_solver.specs.Shape.{Shape, IsNest, IsUpTo, target, is_back}
use Rattle.nest_solver.specs.Solved.{weight_of, IsDual}
use Rattle.nest_solver.specs.Counted.{bit, returns, entered}
use Rattle.nest_solver.proofs.Sums.{sum-same, sum-le, sum-add, sum-scale, sum-none, sum-only, sum-swap}
use Rattle.nest_solver.proofs.Times.{bit_same, bit_other}
use Rattle.nest_solver.proofs.Arcs.{back-of}
use Rattle.nest_solver.proofs.Counting.{Keeps, comes, goes, comes-split, entered-in, weight-counts, returns_other, and_true}

-- A value at a place as a sum over the places.
pub spread : (places : ℕ) (v : ℕ → ℕ) (t : ℕ) → t ≤ places →
    v t ≡ bit (t == 0) * v 0 + sum_to places (λ p. bit (t == p) * v p)
spread places v t high = elim (cases_lt 0 t)
    as (λ _. v t ≡ bit (t == 0) * v 0 + sum_to places (λ p. bit (t == p) * v p)) [
      | inl low ↦ omega (
        arith,
        ap (λ b. b * v 0) (bit_other t 0 (λ e. omega (arith, e, low))),
        sum-only places t (λ p. bit (t == p) * v p) (low, high)
            (λ p u n. ap (λ b. b * v p) (bit_other t p (λ e. n (sym e))) ∙ omega arith),
        ap (λ b. b * v t) (bit_same t t refl),
      )
      | inr none ↦ let z : t ≡ 0 = omega (arith, none) in
          omega (
            arith,
            ap v z,
            ap (λ b. b * v 0) (bit_same t 0 z),
            sum-none places (λ p. bit (t == p) * v p)
                (λ p u. ap (λ b. b * v p) (bit_other t p (λ e. omega (arith, e, z, u))) ∙ omega arith),
          )
    ]

-- The worths at the ends of arcs, by places.
ends-sum : (s : Shape) (v x end : ℕ → ℕ) → ((i : ℕ) → IsUpTo s.arcs i → end i ≤ s.places) →
    sum_to s.arcs (λ i. v (end i) * x i)
    ≡ v 0 * sum_to s.arcs (λ i. bit (end i == 0) * x i)
    + sum_to s.places (λ p. v p * sum_to s.arcs (λ i. bit (end i == p) * x i))
ends-sum s v x end high =
    sum-same s.arcs (λ i. v (end i) * x i)
    (λ i. v 0 * (bit (end i == 0) * x i) + sum_to s.places (λ p. v p * (bit (end i == p) * x i)))
    (λ i u. one i (high i u))
    ∙ sum-add s.arcs (λ i. v 0 * (bit (end i == 0) * x i))
    (λ i. sum_to s.places (λ p. v p * (bit (end i == p) * x i)))
    ∙ ap₂ (λ a b. a + b) (sum-scale s.arcs (v 0) (λ i. bit (end i == 0) * x i))
    (sum-swap s.arcs s.places (λ i p. v p * (bit (end i == p) * x i))
    ∙ sum-same s.places (λ p. sum_to s.arcs (λ i. v p * (bit (end i == p) * x i)))
    (λ p. v p * sum_to s.arcs (λ i. bit (end i == p) * x i))
    (λ p u. sum-scale s.arcs (v p) (λ i. bit (end i == p) * x i)))
  where
    first : (a b y : ℕ) → (a * b) * y ≡ b * (a * y)
    first a b y = omega arith

    one : (i : ℕ) → end i ≤ s.places →
        v (end i) * x i ≡ v 0 * (bit (end i == 0) * x i) + sum_to s.places (λ p. v p * (bit (end i == p) * x i))
    one i low = omega (
      arith,
      ap (λ n. n * x i) (spread s.places v (end i) low),
      first (bit (end i == 0)) (v 0) (x i),
      sum-scale s.places (x i) (λ p. bit (end i == p) * v p),
      sum-same s.places (λ p. x i * (bit (end i == p) * v p)) (λ p. v p * (bit (end i == p) * x i))
          (λ p u. turn (x i) (bit (end i == p)) (v p)),
    )
      where
        turn : (y b w : ℕ) → y * (b * w) ≡ w * (b * y)
        turn y b w = omega arith

-- What leaves place 0 comes back to it, so worths at the sources and at the ends come to the same.
zero-flow : (s : Shape) (x : ℕ → ℕ) → IsNest s → Keeps s x →
    sum_to s.arcs (λ i. comes s 0 i * x i) ≡ sum_to s.arcs (λ i. goes s 0 i * x i)
zero-flow s x nest keeps =
    let to = ends-sum s (λ p. 1) x s.to nest.ends in
    let from = ends-sum s (λ p. 1) x s.from nest.starts in
    let same = sum-same s.places (λ p. 1 * sum_to s.arcs (λ i. comes s p i * x i))
    (λ p. 1 * sum_to s.arcs (λ i. goes s p i * x i)) (λ p u. ap (λ n. 1 * n) (keeps.kept p u)) in
    omega (arith, to, from, same)

pub ends-same : (s : Shape) (v x : ℕ → ℕ) → IsNest s → Keeps s x →
    sum_to s.arcs (λ i. v (s.to i) * x i) ≡ sum_to s.arcs (λ i. v (s.from i) * x i)
ends-same s v x nest keeps =
    ends-sum s v x s.to nest.ends
    ∙ ap₂ (λ a b. v 0 * a + b) (zero-flow s x nest keeps)
    (sum-same s.places (λ p. v p * sum_to s.arcs (λ i. comes s p i * x i))
    (λ p. v p * sum_to s.arcs (λ i. goes s p i * x i)) (λ p u. ap (λ n. v p * n) (keeps.kept p u)))
    ∙ sym (ends-sum s v x s.from nest.starts)

-- What back arcs are given.
abbrev pub given : Shape → (turns : ℕ → ℕ) → ℕ → ℕ
given s turns i = sum_to s.loops (λ l. turns l * bit (returns s l i))

pub given-back : (s : Shape) (turns : ℕ → ℕ) (i : ℕ) → IsNest s → is_back s i ≡ true → given s turns i ≡ turns (target s i)
given-back s turns i nest e =
    sum-only s.loops (target s i) (λ l. turns l * bit (returns s l i)) (back-of s nest i e).up
    (λ l u n. ap (λ b. turns l * b) (returns_other s l i (λ is. n (sym is))) ∙ omega arith)
    ∙ ap (λ b. turns (target s i) * b) (and_true (is_back s i) (target s i) (target s i) e refl) ∙ omega arith

given-sum : (s : Shape) (turns x : ℕ → ℕ) →
    sum_to s.arcs (λ i. given s turns i * x i)
    ≡ sum_to s.loops (λ l. turns l * sum_to s.arcs (λ i. bit (returns s l i) * x i))
given-sum s turns x =
    sum-same s.arcs (λ i. given s turns i * x i)
    (λ i. sum_to s.loops (λ l. turns l * (bit (returns s l i) * x i)))
    (λ i u. omega (
      arith,
      sum-scale s.loops (x i) (λ l. turns l * bit (returns s l i)),
      sum-same s.loops (λ l. x i * (turns l * bit (returns s l i))) (λ l. turns l * (bit (returns s l i) * x i))
          (λ l v. turn (x i) (turns l) (bit (returns s l i))),
    ))
    ∙ sum-swap s.arcs s.loops (λ i l. turns l * (bit (returns s l i) * x i))
    ∙ sum-same s.loops (λ l. sum_to s.arcs (λ i. turns l * (bit (returns s l i) * x i)))
    (λ l. turns l * sum_to s.arcs (λ i. bit (returns s l i) * x i))
    (λ l u. sum-scale s.arcs (turns l) (λ i. bit (returns s l i) * x i))
  where
    turn : (y t b : ℕ) → y * (t * b) ≡ t * (b * y)
    turn y t b = omega arith

-- A loop's back arcs come no more often than its row lets them.
returned-few : (s : Shape) (x : ℕ → ℕ) (l : ℕ) → IsNest s → Keeps s x → IsUpTo s.loops l →
    sum_to s.arcs (λ i. bit (returns s l i) * x i) ≤ (s.bound l - 1) * entered s x l
returned-few s x l nest keeps u =
    let split : s.bound l ≡ (s.bound l - 1) + 1 = omega (arith, nest.bounds l u) in
    omega (
      arith,
      keeps.bounded l u,
      comes-split s x l nest u,
      ap (λ n. s.bound l * n) (entered-in s x l nest u),
      ap (λ n. n * entered s x l) split,
    )

-- Each arc pays its weight by the fall of the worths; arc 1 by what it leads to.
abbrev first_pays : Shape → (weight v : ℕ → ℕ) → ℕ → ℕ
first_pays s weight v i = bit (s.from i == 0) * (weight i + v (s.to i))

pub arc-pays : (s : Shape) (weight turns v : ℕ → ℕ) (depth i : ℕ) → IsNest s → IsDual s weight turns depth v →
    ((l : ℕ) → IsUpTo s.loops l → s.depth l ≤ depth) → IsUpTo s.arcs i →
    weight i + v (s.to i) + bit (s.from i == 0) * v 0 ≤ v (s.from i) + given s turns i + first_pays s weight v i
arc-pays s weight turns v depth i nest dual low u =
    elim (cases_lt 0 (s.from i))
    as (λ _. weight i + v (s.to i) + bit (s.from i == 0) * v 0 ≤ v (s.from i) + given s turns i + first_pays s weight v i) [
      | inr none ↦ let z : s.from i ≡ 0 = omega (arith, none) in
          omega (
            arith,
            ap v z,
            ap (λ b. b * v 0) (bit_same (s.from i) 0 z),
            ap (λ b. b * (weight i + v (s.to i))) (bit_same (s.from i) 0 z),
          )
      | inl some ↦
          let other = ap (λ b. b * v 0) (bit_other (s.from i) 0 (λ e. omega (arith, e, some))) in
          elim (cases_Bool (is_back s i))
          as (λ _. weight i + v (s.to i) + bit (s.from i == 0) * v 0
          ≤ v (s.from i) + given s turns i + first_pays s weight v i) [
            | inr forward ↦ omega (arith, other, dual.forward i u some forward)
            | inl back ↦ omega (
              arith,
              other,
              dual.back i u back (low (target s i) (back-of s nest i back).up),
              given-back s turns i nest back,
            )
          ]
    ]

-- The value of counts that keep the rows is at most what the worths show.
pub weak : (s : Shape) (value turns v x : ℕ → ℕ) (depth : ℕ) → IsNest s →
    IsDual s (weight_of s value turns) turns depth v → ((l : ℕ) → IsUpTo s.loops l → s.depth l ≤ depth) → Keeps s x →
    sum_to s.arcs (λ i. value i * x i) + v 0 ≤ weight_of s value turns 1 + v (s.to 1)
weak s value turns v x depth nest dual low keeps =
    omega (
      arith,
      weight-counts s value turns x nest,
      ends-same s v x nest keeps,
      first_out,
      first_in,
      given-sum s turns x,
      sum-le s.loops (λ l. turns l * sum_to s.arcs (λ i. bit (returns s l i) * x i))
          (λ l. ((s.bound l - 1) * turns l) * entered s x l)
          (λ l u. omega (
            arith,
            mul-le-mul_left (turns l) (returned-few s x l nest keeps u),
            turned (turns l) (s.bound l - 1) (entered s x l),
          )),
      pays,
      left_is,
      right_is,
    )
  where
    w : ℕ → ℕ
    w = weight_of s value turns

    turned : (t b e : ℕ) → t * (b * e) ≡ (b * t) * e
    turned t b e = omega arith

    one_up : IsUpTo s.arcs 1
    one_up = omega (arith, nest.some)

    first_out : sum_to s.arcs (λ i. (bit (s.from i == 0) * v 0) * x i) ≡ v 0
    first_out = sum-only s.arcs 1 (λ i. (bit (s.from i == 0) * v 0) * x i) one_up
        (λ i u n. ap (λ b. (b * v 0) * x i) (bit_other (s.from i) 0 (λ e. n (nest.only i u e))) ∙ omega arith)
        ∙ omega (
          arith,
          ap (λ b. (b * v 0) * x 1) (bit_same (s.from 1) 0 nest.first),
          ap (λ n. v 0 * n) keeps.first,
        )

    first_in : sum_to s.arcs (λ i. first_pays s w v i * x i) ≡ w 1 + v (s.to 1)
    first_in = sum-only s.arcs 1 (λ i. first_pays s w v i * x i) one_up
        (λ i u n. ap (λ b. (b * (w i + v (s.to i))) * x i)
        (bit_other (s.from i) 0 (λ e. n (nest.only i u e))) ∙ omega arith)
        ∙ omega (
          arith,
          ap (λ b. (b * (w 1 + v (s.to 1))) * x 1) (bit_same (s.from 1) 0 nest.first),
          ap (λ n. (w 1 + v (s.to 1)) * n) keeps.first,
        )

    pays : sum_to s.arcs (λ i. (w i + v (s.to i) + bit (s.from i == 0) * v 0) * x i)
        ≤ sum_to s.arcs (λ i. (v (s.from i) + given s turns i + first_pays s w v i) * x i)
    pays = sum-le s.arcs (λ i. (w i + v (s.to i) + bit (s.from i == 0) * v 0) * x i)
        (λ i. (v (s.from i) + given s turns i + first_pays s w v i) * x i)
        (λ i u. mul-le-mul_right (x i) (arc-pays s w turns v depth i nest dual low u))

    three : (a b c : ℕ → ℕ) → sum_to s.arcs (λ i. (a i + b i + c i) * x i)
        ≡ sum_to s.arcs (λ i. a i * x i) + sum_to s.arcs (λ i. b i * x i) + sum_to s.arcs (λ i. c i * x i)
    three a b c =
        sum-same s.arcs (λ i. (a i + b i + c i) * x i) (λ i. (a i * x i + b i * x i) + c i * x i) (λ i u. omega arith)
        ∙ sum-add s.arcs (λ i. a i * x i + b i * x i) (λ i. c i * x i)
        ∙ ap (λ n. n + sum_to s.arcs (λ i. c i * x i)) (sum-add s.arcs (λ i. a i * x i) (λ i. b i * x i))

    left_is : sum_to s.arcs (λ i. (w i + v (s.to i) + bit (s.from i == 0) * v 0) * x i)
        ≡ sum_to s.arcs (λ i. w i * x i) + sum_to s.arcs (λ i. v (s.to i) * x i)
        + sum_to s.arcs (λ i. (bit (s.from i == 0) * v 0) * x i)
    left_is = three w (λ i. v (s.to i)) (λ i. bit (s.from i == 0) * v 0)

    right_is : sum_to s.arcs (λ i. (v (s.from i) + given s turns i + first_pays s w v i) * x i)
        ≡ sum_to s.arcs (λ i. v (s.from i) * x i) + sum_to s.arcs (λ i. given s turns i * x i)
        + sum_to s.arcs (λ i. first_pays s w v i * x i)
    right_is = three (λ i. v (s.from i)) (given s turns) (first_pays s w v)
