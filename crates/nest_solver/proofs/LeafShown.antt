-- The multipliers of worths and turns give each column its value.
use Rattle.std.proofs.Common.{◌≡◌, ℕ, zero, suc, ◌+◌, ◌-◌, ◌*◌, ◌<◌, ◌≤◌, ◌==◌, nat_le, cond, sym, ap, ap₂, ◌∙◌, subst, inl, inr, arith}
use Rattle.std.proofs.lemmas.Bool.{cases_eq, cases_lt}
use Rattle.std.proofs.lemmas.Bool.Decides.{nat_tests}
use Rattle.std.proofs.lemmas.Int.{ints}
use borrow.Author.Differences.{up, down}
use lib.IntN.{ℤ, pos, ◌+ℤ◌, ◌-ℤ◌, ◌*ℤ◌}
use Rattle.ipet_program.specs.Rows.{one_if}
use Rattle.ipet_program.specs.Sums.{sum_to}
use Rattle.ipet_program.proofs.Totals.{total_to, total_to-same}
use Rattle.nest_solver.specs.Shape.{Shape, IsNest, IsUpTo}
use Rattle.nest_solver.specs.Solved.{paid, weight_of, IsDual}
use Rattle.nest_solver.specs.Counted.{bit, enters, returns}
use Rattle.nest_solver.specs.LeafWeights.{multiplier}
use Rattle.nest_solver.proofs.Sums.{sum-same, sum-add, sum-scale}
use Rattle.nest_solver.proofs.Times.{bit_other}
use Rattle.nest_solver.proofs.Counting.{comes, goes, goes_in, split-arc, paid-sum}
use Rattle.nest_solver.proofs.Weak.{spread, given, arc-pays}

-- ---- Sums over the rows: the first, those of places, those of loops.
total-behind : (a b : ℕ) (f : ℕ → ℤ) → total_to (a + b) f ≡ total_to a f +ℤ total_to b (λ i. f (a + i))
total-behind a zero f = ap (λ (n : ℕ). total_to n f) (let e : a + 0 ≡ a = omega arith in e) ∙ omega (arith, ints)
total-behind a (suc b) f =
    let rest = total-behind a b f in
    let whole : total_to (a + suc b) f ≡ total_to (a + b) f +ℤ f (suc (a + b)) =
    ap (λ (n : ℕ). total_to n f) (let e : a + suc b ≡ suc (a + b) = omega arith in e) in
    let last : f (suc (a + b)) ≡ f (a + suc b) = ap f (let e : suc (a + b) ≡ a + suc b = omega arith in e) in
    omega (arith, ints)

sum-behind : (a b : ℕ) (f : ℕ → ℕ) → sum_to (a + b) f ≡ sum_to a f + sum_to b (λ i. f (a + i))
sum-behind a zero f = ap (λ (n : ℕ). sum_to n f) (let e : a + 0 ≡ a = omega arith in e) ∙ omega arith
sum-behind a (suc b) f =
    let rest = sum-behind a b f in
    let whole : sum_to (a + suc b) f ≡ sum_to (a + b) f + f (suc (a + b)) =
    ap (λ (n : ℕ). sum_to n f) (let e : a + suc b ≡ suc (a + b) = omega arith in e) in
    let last : f (suc (a + b)) ≡ f (a + suc b) = ap f (let e : suc (a + b) ≡ a + suc b = omega arith in e) in
    omega arith

total-first : (n : ℕ) (f : ℕ → ℤ) → total_to (suc n) f ≡ f 1 +ℤ total_to n (λ i. f (suc i))
total-first zero f = omega (arith, ints)
total-first (suc n) f = let rest = total-first n f in omega (arith, ints)

sum-first : (n : ℕ) (f : ℕ → ℕ) → sum_to (suc n) f ≡ f 1 + sum_to n (λ i. f (suc i))
sum-first zero f = omega arith
sum-first (suc n) f = let rest = sum-first n f in omega arith

pub total-rows : (places loops : ℕ) (f : ℕ → ℤ) →
    total_to (places + 1 + loops) f
    ≡ (f 1 +ℤ total_to places (λ p. f (suc p))) +ℤ total_to loops (λ l. f (suc (places + l)))
total-rows places loops f =
    total-behind (places + 1) loops f
    ∙ ap₂ (λ (y z : ℤ). y +ℤ z)
    (ap (λ (n : ℕ). total_to n f) (let e : places + 1 ≡ suc places = omega arith in e) ∙ total-first places f)
    (total_to-same (λ l. f (places + 1 + l)) (λ l. f (suc (places + l))) loops
    (λ l low high. ap f (let e : places + 1 + l ≡ suc (places + l) = omega arith in e)))

pub sum-rows : (places loops : ℕ) (f : ℕ → ℕ) →
    sum_to (places + 1 + loops) f
    ≡ (f 1 + sum_to places (λ p. f (suc p))) + sum_to loops (λ l. f (suc (places + l)))
sum-rows places loops f =
    sum-behind (places + 1) loops f
    ∙ ap₂ (λ a b. a + b)
    (ap (λ (n : ℕ). sum_to n f) (let e : places + 1 ≡ suc places = omega arith in e) ∙ sum-first places f)
    (sum-same loops (λ l. f (places + 1 + l)) (λ l. f (suc (places + l)))
    (λ l u. ap f (let e : places + 1 + l ≡ suc (places + l) = omega arith in e)))

-- Which row a number is.
pub data IsRowOf (places loops : ℕ) : ℕ → Type 0 where
  first : IsRowOf places loops 1
  place : (p : ℕ) → IsUpTo places p → IsRowOf places loops (suc p)
  loop : (l : ℕ) → IsUpTo loops l → IsRowOf places loops (suc (places + l))

pub row-of : (places loops row : ℕ) → IsUpTo (places + 1 + loops) row → IsRowOf places loops row
row-of places loops row u =
    elim (cases_eq row 1) as (λ _. IsRowOf places loops row) [
      | inl e ↦ subst (IsRowOf places loops) (sym e) first
      | inr other ↦ elim (cases_lt row (places + 2)) as (λ _. IsRowOf places loops row) [
        | inl low ↦ subst (IsRowOf places loops) (let e : suc (row - 1) ≡ row = omega (arith, u) in e)
            (place (row - 1) (omega (arith, u, other, low)))
        | inr high ↦ subst (IsRowOf places loops)
            (let e : suc (places + (row - (places + 1))) ≡ row = omega (arith, high) in e)
            (loop (row - (places + 1)) (omega (arith, u, high)))
      ]
    ]

-- The multipliers of the rows.
pick_place : (r n : ℕ) (a b c : ℤ) → 1 < r → r ≤ n → cond (r == 1) a (cond (nat_le r n) b c) ≡ b
pick_place r n a b c low high = grind (arith, nat_tests)

pick_loop : (r n : ℕ) (a b c : ℤ) → 1 < r → n < r → cond (r == 1) a (cond (nat_le r n) b c) ≡ c
pick_loop r n a b c low high = grind (arith, nat_tests)

pub mult-place : (s : Shape) (total : ℕ) (worth turns : ℕ → ℕ) (p : ℕ) → IsUpTo s.places p →
    multiplier s total worth turns (suc p) ≡ pos (worth 0) -ℤ pos (worth p)
mult-place s total worth turns p u =
    pick_place (suc p) (s.places + 1) (pos total) (pos (worth 0) -ℤ pos (worth (suc p - 1)))
    (pos (turns (suc p - (s.places + 1)))) (omega (arith, u)) (omega (arith, u))
    ∙ ap (λ (n : ℕ). pos (worth 0) -ℤ pos (worth n)) (let e : suc p - 1 ≡ p = omega arith in e)

pub mult-loop : (s : Shape) (total : ℕ) (worth turns : ℕ → ℕ) (l : ℕ) → IsUpTo s.loops l →
    multiplier s total worth turns (suc (s.places + l)) ≡ pos (turns l)
mult-loop s total worth turns l u =
    pick_loop (suc (s.places + l)) (s.places + 1) (pos total) (pos (worth 0) -ℤ pos (worth (suc (s.places + l) - 1)))
    (pos (turns (suc (s.places + l) - (s.places + 1)))) (omega (arith, u)) (omega (arith, u))
    ∙ ap (λ (n : ℕ). pos (turns n)) (let e : suc (s.places + l) - (s.places + 1) ≡ l = omega arith in e)

-- The factors of a column in the rows.
abbrev pub place_fac : Shape → (column place : ℕ) → ℤ
place_fac s j p = pos (comes s p j) -ℤ pos (goes s p j)

abbrev pub loop_fac : Shape → (column loop : ℕ) → ℤ
loop_fac s j l = pos (comes s (s.header l) j) -ℤ pos (s.bound l * goes_in s l j)

abbrev pub factor_at : Shape → (column : ℕ) → (row : ℕ) → ℤ
factor_at s j row =
    cond (row == 1) (one_if (j == 1))
    (cond (nat_le row (s.places + 1)) (place_fac s j (row - 1)) (loop_fac s j (row - (s.places + 1))))

pub factor-at_place : (s : Shape) (j p : ℕ) → IsUpTo s.places p → factor_at s j (suc p) ≡ place_fac s j p
factor-at_place s j p u =
    pick_place (suc p) (s.places + 1) (one_if (j == 1)) (place_fac s j (suc p - 1))
    (loop_fac s j (suc p - (s.places + 1))) (omega (arith, u)) (omega (arith, u))
    ∙ ap (place_fac s j) (let e : suc p - 1 ≡ p = omega arith in e)

pub factor-at_loop : (s : Shape) (j l : ℕ) → IsUpTo s.loops l → factor_at s j (suc (s.places + l)) ≡ loop_fac s j l
factor-at_loop s j l u =
    pick_loop (suc (s.places + l)) (s.places + 1) (one_if (j == 1)) (place_fac s j (suc (s.places + l) - 1))
    (loop_fac s j (suc (s.places + l) - (s.places + 1))) (omega (arith, u)) (omega (arith, u))
    ∙ ap (loop_fac s j) (let e : suc (s.places + l) - (s.places + 1) ≡ l = omega arith in e)

-- ---- What the multipliers give to a column.
-- Products of differences.
diff_both : (a b c d : ℕ) → (pos a -ℤ pos b) *ℤ (pos c -ℤ pos d) ≡ pos (a * c + b * d) -ℤ pos (a * d + b * c)
diff_both a b c d =
    let x : up (pos a -ℤ pos b) + b ≡ down (pos a -ℤ pos b) + a = omega (arith, ints) in
    let y : up (pos c -ℤ pos d) + d ≡ down (pos c -ℤ pos d) + c = omega (arith, ints) in
    omega (
      arith,
      ints,
      ap (λ (m : ℕ). m * up (pos c -ℤ pos d)) x,
      ap (λ (m : ℕ). m * down (pos c -ℤ pos d)) x,
      ap (λ (m : ℕ). a * m) y,
      ap (λ (m : ℕ). b * m) y,
    )

diff_right : (t c d : ℕ) → pos t *ℤ (pos c -ℤ pos d) ≡ pos (t * c) -ℤ pos (t * d)
diff_right t c d =
    let y : up (pos c -ℤ pos d) + d ≡ down (pos c -ℤ pos d) + c = omega (arith, ints) in
    omega (arith, ints, ap (λ (m : ℕ). t * m) y)

total-diffs : (a b : ℕ → ℕ) (n : ℕ) → total_to n (λ j. pos (a j) -ℤ pos (b j)) ≡ pos (sum_to n a) -ℤ pos (sum_to n b)
total-diffs a b zero = omega (arith, ints)
total-diffs a b (suc n) = let rest = total-diffs a b n in omega (arith, ints)

-- The rows of places: the worth of the arc's source less that of its end.
places-column : (s : Shape) (worth : ℕ → ℕ) (j : ℕ) → IsNest s → IsUpTo s.arcs j →
    total_to s.places (λ p. (pos (worth 0) -ℤ pos (worth p)) *ℤ place_fac s j p)
    ≡ pos (worth (s.from j)) -ℤ pos (worth (s.to j))
places-column s worth j nest u =
    total_to-same (λ p. (pos (worth 0) -ℤ pos (worth p)) *ℤ place_fac s j p) (λ p. pos (a p) -ℤ pos (b p)) s.places
    (λ p low high. diff_both (worth 0) (worth p) (comes s p j) (goes s p j))
    ∙ total-diffs a b s.places
    ∙ difference
  where
    a : ℕ → ℕ
    a p = worth 0 * comes s p j + worth p * goes s p j

    b : ℕ → ℕ
    b p = worth 0 * goes s p j + worth p * comes s p j

    all : (end : ℕ) → end ≤ s.places → 1 ≡ bit (end == 0) * 1 + sum_to s.places (λ p. bit (end == p) * 1)
    all end high = spread s.places (λ p. 1) end high

    to : worth (s.to j) ≡ bit (s.to j == 0) * worth 0 + sum_to s.places (λ p. comes s p j * worth p)
    to = spread s.places worth (s.to j) (nest.ends j u)

    from : worth (s.from j) ≡ bit (s.from j == 0) * worth 0 + sum_to s.places (λ p. goes s p j * worth p)
    from = spread s.places worth (s.from j) (nest.starts j u)

    ones : (end : ℕ) → sum_to s.places (λ p. bit (end == p) * 1) ≡ sum_to s.places (λ p. bit (end == p))
    ones end = sum-same s.places (λ p. bit (end == p) * 1) (λ p. bit (end == p)) (λ p v. omega arith)

    times : (end : ℕ) → end ≤ s.places →
        worth 0 * sum_to s.places (λ p. bit (end == p)) + bit (end == 0) * worth 0 ≡ worth 0
    times end high = omega (
      arith,
      ap (λ n. worth 0 * n) (ones end),
      ap (λ n. worth 0 * n) (all end high),
    )

    turn : (end : ℕ) → sum_to s.places (λ p. worth p * bit (end == p)) ≡ sum_to s.places (λ p. bit (end == p) * worth p)
    turn end = sum-same s.places (λ p. worth p * bit (end == p)) (λ p. bit (end == p) * worth p) (λ p v. omega arith)

    sum-a : sum_to s.places a ≡ worth 0 * sum_to s.places (λ p. comes s p j) + sum_to s.places (λ p. worth p * goes s p j)
    sum-a = sum-add s.places (λ p. worth 0 * comes s p j) (λ p. worth p * goes s p j)
        ∙ ap (λ n. n + sum_to s.places (λ p. worth p * goes s p j)) (sum-scale s.places (worth 0) (λ p. comes s p j))

    sum-b : sum_to s.places b ≡ worth 0 * sum_to s.places (λ p. goes s p j) + sum_to s.places (λ p. worth p * comes s p j)
    sum-b = sum-add s.places (λ p. worth 0 * goes s p j) (λ p. worth p * comes s p j)
        ∙ ap (λ n. n + sum_to s.places (λ p. worth p * comes s p j)) (sum-scale s.places (worth 0) (λ p. goes s p j))

    same : sum_to s.places a + worth (s.to j) ≡ sum_to s.places b + worth (s.from j)
    same = omega (
      arith,
      sum-a,
      sum-b,
      to,
      from,
      times (s.to j) (nest.ends j u),
      times (s.from j) (nest.starts j u),
      turn (s.to j),
      turn (s.from j),
    )

    difference : pos (sum_to s.places a) -ℤ pos (sum_to s.places b) ≡ pos (worth (s.from j)) -ℤ pos (worth (s.to j))
    difference = omega (arith, ints, same)

-- The rows of loops: what a back arc is given, less what an entering arc carries.
loops-column : (s : Shape) (turns : ℕ → ℕ) (j : ℕ) → IsNest s →
    total_to s.loops (λ l. pos (turns l) *ℤ loop_fac s j l) ≡ pos (given s turns j) -ℤ pos (paid s turns j)
loops-column s turns j nest =
    total_to-same (λ l. pos (turns l) *ℤ loop_fac s j l) (λ l. pos (a l) -ℤ pos (b l)) s.loops
    (λ l low high. diff_right (turns l) (comes s (s.header l) j) (s.bound l * goes_in s l j))
    ∙ total-diffs a b s.loops
    ∙ difference
  where
    a : ℕ → ℕ
    a l = turns l * comes s (s.header l) j

    b : ℕ → ℕ
    b l = turns l * (s.bound l * goes_in s l j)

    one : (l : ℕ) → IsUpTo s.loops l →
        a l + ((s.bound l - 1) * turns l) * bit (enters s l j) ≡ b l + turns l * bit (returns s l j)
    one l u =
        let split = split-arc s nest l j u in
        let bound : s.bound l ≡ (s.bound l - 1) + 1 = omega (arith, nest.bounds l u) in
        omega (
          arith,
          ap (λ n. turns l * n) split.comes_by,
          ap (λ n. turns l * (s.bound l * n)) split.in_by,
          ap (λ n. turns l * (n * bit (enters s l j))) bound,
        )

    same : sum_to s.loops a + paid s turns j ≡ sum_to s.loops b + given s turns j
    same = omega (
      arith,
      paid-sum s turns j nest,
      sum-add s.loops a (λ l. ((s.bound l - 1) * turns l) * bit (enters s l j)),
      sum-add s.loops b (λ l. turns l * bit (returns s l j)),
      sum-same s.loops (λ l. a l + ((s.bound l - 1) * turns l) * bit (enters s l j))
          (λ l. b l + turns l * bit (returns s l j)) one,
    )

    difference : pos (sum_to s.loops a) -ℤ pos (sum_to s.loops b) ≡ pos (given s turns j) -ℤ pos (paid s turns j)
    difference = omega (arith, ints, same)

-- All rows together.
pub column-total : (s : Shape) (total : ℕ) (worth turns : ℕ → ℕ) (j : ℕ) → IsNest s → IsUpTo s.arcs j →
    total_to (s.places + 1 + s.loops) (λ row. multiplier s total worth turns row *ℤ factor_at s j row)
    ≡ (pos total *ℤ one_if (j == 1) +ℤ (pos (worth (s.from j)) -ℤ pos (worth (s.to j))))
    +ℤ (pos (given s turns j) -ℤ pos (paid s turns j))
column-total s total worth turns j nest u =
    total-rows s.places s.loops (λ row. multiplier s total worth turns row *ℤ factor_at s j row)
    ∙ ap₂ (λ (y z : ℤ). (pos total *ℤ one_if (j == 1) +ℤ y) +ℤ z)
    (total_to-same
    (λ p. multiplier s total worth turns (suc p) *ℤ factor_at s j (suc p))
    (λ p. (pos (worth 0) -ℤ pos (worth p)) *ℤ place_fac s j p) s.places
    (λ p low high. ap₂ (λ (y z : ℤ). y *ℤ z) (mult-place s total worth turns p (low, high))
    (factor-at_place s j p (low, high)))
    ∙ places-column s worth j nest u)
    (total_to-same
    (λ l. multiplier s total worth turns (suc (s.places + l)) *ℤ factor_at s j (suc (s.places + l)))
    (λ l. pos (turns l) *ℤ loop_fac s j l) s.loops
    (λ l low high. ap₂ (λ (y z : ℤ). y *ℤ z) (mult-loop s total worth turns l (low, high))
    (factor-at_loop s j l (low, high)))
    ∙ loops-column s turns j nest)

-- Each column gets its value.
pub column-pays : (s : Shape) (value turns worth : ℕ → ℕ) (depth total j : ℕ) → IsNest s →
    IsDual s (weight_of s value turns) turns depth worth → ((l : ℕ) → IsUpTo s.loops l → s.depth l ≤ depth) →
    total + worth 0 ≡ weight_of s value turns 1 + worth (s.to 1) → IsUpTo s.arcs j →
    value j + paid s turns j + worth (s.to j) ≤ total * bit (j == 1) + worth (s.from j) + given s turns j
column-pays s value turns worth depth total j nest dual low is u =
    elim (cases_eq j 1)
    as (λ _. value j + paid s turns j + worth (s.to j) ≤ total * bit (j == 1) + worth (s.from j) + given s turns j) [
      | inl e ↦ subst (λ (k : ℕ). value k + paid s turns k + worth (s.to k)
          ≤ total * bit (k == 1) + worth (s.from k) + given s turns k) (sym e)
          (omega (arith, is, ap worth nest.first))
      | inr other ↦
          let some : bit (s.from j == 0) ≡ 0 = bit_other (s.from j) 0 (λ e. other (nest.only j u e)) in
          omega (
            arith,
            arc-pays s (weight_of s value turns) turns worth depth j nest dual low u,
            ap (λ b. b * worth 0) some,
            ap (λ b. b * (weight_of s value turns j + worth (s.to j))) some,
          )
    ]
