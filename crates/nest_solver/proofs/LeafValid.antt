-- What the rows of a net's program give to columns and to the right side, by the multipliers of worths and turns.
use Rattle.std.proofs.Common.{◌≡◌, ◌⊎◌, ℕ, suc, ◌+◌, ◌*◌, ◌^◌, ◌<◌, ◌≤◌, ◌==◌, ◌&&◌, not, Bool, true, false, List, [], ◌∷◌, length, Option, Some, refl, sym, ap, ap₂, ◌∙◌, subst, inl, inr, arith, nat_abs, mul-le-mul, mul-le-mul_left, true≢false}
use Rattle.std.proofs.lemmas.Bool.{cases_eq, ne_eqb}
use Rattle.std.proofs.lemmas.Int.{ints}
use lib.IntN.{ℤ, pos, ◌+ℤ◌, ◌-ℤ◌, ◌*ℤ◌}
use lib.Signed.{◌≤ℤ◌}
use Rattle.flow_net.specs.Scopes.{holds_of}
use Rattle.flow_net.specs.Numbers.{item_at, IsNumberOf}
use Rattle.flow_net.specs.declared.net.LoopInst.{LoopInst}
use Rattle.flow_net.specs.declared.net.Net.{Net}
use Rattle.flow_net.proofs.Numbers.{item_at-within}
use Rattle.ipet_program.specs.Leaves.{IsSigned, FitFrom, column_parts, parts_in, right_part, right_parts, total as total_of}
use Rattle.ipet_program.specs.Rows.{one_if, entry_row, place_factor, place_row, loop_factor, loop_row, loop_row_of, rows_of}
use Rattle.ipet_program.specs.Sums.{sum_to}
use Rattle.ipet_program.specs.declared.leaf.Weight.{Weight}
use Rattle.ipet_program.specs.declared.program.Row.{Row}
use Rattle.ipet_program.proofs.Totals.{total_to-one}
use Rattle.nest_solver.specs.Nets.{shape_of}
use Rattle.nest_solver.specs.Shape.{Shape, IsNest, IsUpTo, target}
use Rattle.nest_solver.specs.Solved.{paid}
use Rattle.nest_solver.specs.Counted.{bit}
use Rattle.nest_solver.specs.LeafWeights.{multiplier, weights_to, AreSmall}
use Rattle.nest_solver.proofs.Sums.{sum-le, sum-add, sum-scale, sum-only}
use Rattle.nest_solver.proofs.Times.{bit_same, bit_other}
use Rattle.nest_solver.proofs.Arcs.{target-is}
use Rattle.nest_solver.proofs.Counting.{comes, goes, goes_in}
use Rattle.nest_solver.proofs.Few.{one_most}
use Rattle.nest_solver.proofs.NetShape.{loop-at}
use Rattle.nest_solver.proofs.Rows.{row-place, row-loop, place-factor, loop-factor}
use Rattle.nest_solver.proofs.Listed.{abs-product, size, fit-size, terms-total, terms-size, weights-total, weights-size}
use Rattle.nest_solver.proofs.LeafShown.{IsRowOf, row-of, sum-rows, mult-place, mult-loop, place_fac, loop_fac, factor_at, factor-at_place, factor-at_loop, column-total}
use Rattle.nest_solver.proofs.LeafShown.IsRowOf.{first, place, loop}
use Rattle.ipet_program.specs.Scopes.{bound_of}
use Rattle.nest_solver.proofs.Weak.{given}

-- ---- What a row gives to a column.
module _ (net : Net) (depths headed : ℕ → ℕ) where
  abbrev s : Shape
  s = shape_of net depths headed

  abbrev rows : List Row
  rows = rows_of net

  place-given : (times : ℤ) (j p : ℕ) → IsUpTo (length net.arcs) j → IsUpTo (length net.places) p →
      total_of (parts_in j times (item_at (suc p) rows)) ≡ times *ℤ factor_at s j (suc p)
  place-given times j p u v =
      ap (λ (found : Option Row). total_of (parts_in j times found)) (row-place net p v)
      ∙ terms-total times (place_factor net.arcs p) (length net.arcs) j (place_row net.arcs p) refl u
      ∙ ap (λ (z : ℤ). times *ℤ z) (place-factor net depths headed p j u ∙ sym (factor-at_place s j p v))

  loop-row : (l : ℕ) (inst : LoopInst) → item_at l net.loops ≡ Some inst → IsUpTo (length net.loops) l →
      item_at (suc (length net.places + l)) rows ≡ Some (loop_row_of net.arcs (holds_of net l) (Some inst))
  loop-row l inst there v =
      row-loop net l v
      ∙ ap (λ (found : Option LoopInst). Some (loop_row_of net.arcs (holds_of net l) found)) there

  loop-given : (times : ℤ) (j l : ℕ) → IsUpTo (length net.arcs) j → IsUpTo (length net.loops) l →
      total_of (parts_in j times (item_at (suc (length net.places + l)) rows))
      ≡ times *ℤ factor_at s j (suc (length net.places + l))
  loop-given times j l u v = let found = loop-at net l v in
      ap (λ (row : Option Row). total_of (parts_in j times row)) (loop-row l found.item found.there v)
      ∙ terms-total times (loop_factor net.arcs (holds_of net l) found.item) (length net.arcs) j
      (loop_row_of net.arcs (holds_of net l) (Some found.item)) refl u
      ∙ ap (λ (z : ℤ). times *ℤ z)
      (loop-factor net depths headed found.item l j found.there u
      ∙ ap (λ (b : ℕ). pos (comes s (s.header l) j) -ℤ pos (b * goes_in s l j))
      (sym (ap bound_of found.there))
      ∙ sym (factor-at_loop s j l v))

  row-given : (times : ℤ) (j row : ℕ) → IsUpTo (length net.arcs) j →
      IsRowOf (length net.places) (length net.loops) row →
      total_of (parts_in j times (item_at row rows)) ≡ times *ℤ factor_at s j row
  row-given times j _ u first =
      terms-total times (λ column. one_if (column == 1)) (length net.arcs) j (entry_row (length net.arcs)) refl u
  row-given times j _ u (place p v) = place-given times j p u v
  row-given times j _ u (loop l v) = loop-given times j l u v

  -- How large that is.
  place-size : (times : ℤ) (j p : ℕ) → IsUpTo (length net.arcs) j → IsUpTo (length net.places) p →
      size (parts_in j times (item_at (suc p) rows)) ≤ nat_abs (times *ℤ factor_at s j (suc p))
  place-size times j p u v =
      subst (λ (found : Option Row). size (parts_in j times found) ≤ nat_abs (times *ℤ factor_at s j (suc p)))
      (sym (row-place net p v))
      (subst (λ (z : ℤ). size (parts_in j times (Some (place_row net.arcs p))) ≤ nat_abs (times *ℤ z))
      (place-factor net depths headed p j u ∙ sym (factor-at_place s j p v))
      (terms-size times (place_factor net.arcs p) (length net.arcs) j (place_row net.arcs p) refl u))

  loop-size : (times : ℤ) (j l : ℕ) → IsUpTo (length net.arcs) j → IsUpTo (length net.loops) l →
      size (parts_in j times (item_at (suc (length net.places + l)) rows))
      ≤ nat_abs (times *ℤ factor_at s j (suc (length net.places + l)))
  loop-size times j l u v = let found = loop-at net l v in
      subst (λ (row : Option Row). size (parts_in j times row)
      ≤ nat_abs (times *ℤ factor_at s j (suc (length net.places + l))))
      (sym (loop-row l found.item found.there v))
      (subst (λ (z : ℤ). size (parts_in j times (Some (loop_row_of net.arcs (holds_of net l) (Some found.item))))
      ≤ nat_abs (times *ℤ z))
      (loop-factor net depths headed found.item l j found.there u
      ∙ ap (λ (b : ℕ). pos (comes s (s.header l) j) -ℤ pos (b * goes_in s l j))
      (sym (ap bound_of found.there))
      ∙ sym (factor-at_loop s j l v))
      (terms-size times (loop_factor net.arcs (holds_of net l) found.item) (length net.arcs) j
      (loop_row_of net.arcs (holds_of net l) (Some found.item)) refl u))

  row-size : (times : ℤ) (j row : ℕ) → IsUpTo (length net.arcs) j →
      IsRowOf (length net.places) (length net.loops) row →
      size (parts_in j times (item_at row rows)) ≤ nat_abs (times *ℤ factor_at s j row)
  row-size times j _ u first =
      terms-size times (λ column. one_if (column == 1)) (length net.arcs) j (entry_row (length net.arcs)) refl u
  row-size times j _ u (place p v) = place-size times j p u v
  row-size times j _ u (loop l v) = loop-size times j l u v

  -- What it gives to the right side, and what its sign asks.
  right-given : (times : ℤ) (row : ℕ) → IsRowOf (length net.places) (length net.loops) row →
      right_part times (item_at row rows) ≡ (times *ℤ one_if (row == 1)) ∷ []
  right-given times _ first = refl
  right-given times _ (place p v) =
      ap (right_part times) (row-place net p v)
      ∙ ap (λ (z : ℤ). (times *ℤ z) ∷ []) (sym (other (suc p) (omega (arith, v))))
    where
      other : (row : ℕ) → 1 < row → one_if (row == 1) ≡ pos 0
      other row less = ap one_if (ne_eqb row 1 (λ e. omega (arith, e, less)))
  right-given times _ (loop l v) = let found = loop-at net l v in
      ap (right_part times) (loop-row l found.item found.there v)
      ∙ ap (λ (z : ℤ). (times *ℤ z) ∷ []) (sym (other (suc (length net.places + l)) (omega (arith, v))))
    where
      other : (row : ℕ) → 1 < row → one_if (row == 1) ≡ pos 0
      other row less = ap one_if (ne_eqb row 1 (λ e. omega (arith, e, less)))

  pub row-there : (row : ℕ) → IsRowOf (length net.places) (length net.loops) row → IsNumberOf rows row
  row-there _ first = item_at-within rows 1 (entry_row (length net.arcs)) refl
  row-there _ (place p v) = item_at-within rows (suc p) (place_row net.arcs p) (row-place net p v)
  row-there _ (loop l v) =
      item_at-within rows (suc (length net.places + l)) (loop_row net l) (row-loop net l v)

  pub row-signed : (total : ℕ) (worth turns : ℕ → ℕ) (row : ℕ) → IsRowOf (length net.places) (length net.loops) row →
      IsSigned (multiplier s total worth turns row) (item_at row rows)
  row-signed total worth turns _ first = λ e. absurd (true≢false e)
  row-signed total worth turns _ (place p v) =
      subst (IsSigned (multiplier s total worth turns (suc p))) (sym (row-place net p v))
      (λ e. absurd (true≢false e))
  row-signed total worth turns _ (loop l v) = let found = loop-at net l v in
      subst (IsSigned (multiplier s total worth turns (suc (length net.places + l))))
      (sym (loop-row l found.item found.there v))
      (λ e. subst (λ (z : ℤ). pos 0 ≤ℤ z) (sym (mult-loop s total worth turns l v)) (omega (arith, ints)))

  -- ---- Sizes.
  one_size : (total j : ℕ) → nat_abs (pos total *ℤ one_if (j == 1)) ≤ total
  one_size total j = by (j == 1)
    where
      by : (t : Bool) → nat_abs (pos total *ℤ one_if t) ≤ total
      by true = omega (arith, ints)
      by false = omega (arith, ints)

  diff_size : (c g : ℕ) → nat_abs (pos c -ℤ pos g) ≤ c + g
  diff_size c g = omega (arith, ints)

  apart_size : (a b most : ℕ) → a ≤ most → b ≤ most → nat_abs (pos a -ℤ pos b) ≤ most
  apart_size a b most low high = omega (arith, ints)

  place-most : (worth : ℕ → ℕ) (most j p : ℕ) → ((q : ℕ) → worth q ≤ most) →
      nat_abs ((pos (worth 0) -ℤ pos (worth p)) *ℤ place_fac s j p) ≤ most * comes s p j + most * goes s p j
  place-most worth most j p small =
      omega (
        arith,
        abs-product (pos (worth 0) -ℤ pos (worth p)) (place_fac s j p),
        mul-le-mul (apart_size (worth 0) (worth p) most (small 0) (small p)) (diff_size (comes s p j) (goes s p j)),
      )

  loop-most : (turns : ℕ → ℕ) (most j l : ℕ) → IsNest s → IsUpTo (length net.loops) l →
      turns l * (s.bound l + 1) ≤ most →
      nat_abs (pos (turns l) *ℤ loop_fac s j l) ≤ most * bit (target s j == l)
  loop-most turns most j l nest u small =
      omega (
        arith,
        abs-product (pos (turns l)) (loop_fac s j l),
        mul-le-mul_left (turns l) (diff_size (comes s (s.header l) j) (s.bound l * goes_in s l j)),
        by (cases_eq (s.to j) (s.header l)),
      )
    where
      in_low : (b h : Bool) → bit (b && not h) ≤ bit b
      in_low true true = omega arith
      in_low true false = omega arith
      in_low false h = omega arith

      by : (s.to j ≡ s.header l) ⊎ (s.to j ≡ s.header l → ⊥) →
          turns l * (comes s (s.header l) j + s.bound l * goes_in s l j) ≤ most * bit (target s j == l)
      by (inl e) = omega (
        arith,
        small,
        ap (λ n. most * n) (bit_same (target s j) l (target-is s nest j l u e)),
        mul-le-mul_left (turns l * s.bound l) (in_low (s.to j == s.header l) (s.holds l (s.from j))),
        ap (λ n. turns l * s.bound l * n) (bit_same (s.to j) (s.header l) e),
        ap (λ n. turns l * n) (bit_same (s.to j) (s.header l) e),
      )
      by (inr other) = omega (
        arith,
        mul-le-mul_left (turns l * s.bound l) (in_low (s.to j == s.header l) (s.holds l (s.from j))),
        ap (λ n. turns l * s.bound l * n) (bit_other (s.to j) (s.header l) other),
        ap (λ n. turns l * n) (bit_other (s.to j) (s.header l) other),
      )

  column-size : (total : ℕ) (worth turns : ℕ → ℕ) (most j : ℕ) → IsNest s → total ≤ most →
      ((q : ℕ) → worth q ≤ most) → ((l : ℕ) → IsUpTo (length net.loops) l → turns l * (s.bound l + 1) ≤ most) →
      sum_to (s.places + 1 + s.loops) (λ row. nat_abs (multiplier s total worth turns row *ℤ factor_at s j row)) ≤ 4 * most
  column-size total worth turns most j nest low small few =
      omega (
        arith,
        low,
        sum-rows s.places s.loops (λ row. nat_abs (multiplier s total worth turns row *ℤ factor_at s j row)),
        one_size total j,
        sum-le s.places
            (λ p. nat_abs (multiplier s total worth turns (suc p) *ℤ factor_at s j (suc p)))
            (λ p. most * comes s p j + most * goes s p j)
            (λ p v. subst (λ (z : ℤ). nat_abs z ≤ most * comes s p j + most * goes s p j)
            (sym (ap₂ (λ (y z : ℤ). y *ℤ z) (mult-place s total worth turns p v) (factor-at_place s j p v)))
            (place-most worth most j p small)),
        sum-add s.places (λ p. most * comes s p j) (λ p. most * goes s p j),
        sum-scale s.places most (λ p. comes s p j),
        sum-scale s.places most (λ p. goes s p j),
        mul-le-mul_left most (one_most s.places (s.to j)),
        mul-le-mul_left most (one_most s.places (s.from j)),
        sum-le s.loops
            (λ l. nat_abs (multiplier s total worth turns (suc (s.places + l)) *ℤ factor_at s j (suc (s.places + l))))
            (λ l. most * bit (target s j == l))
            (λ l v. subst (λ (z : ℤ). nat_abs z ≤ most * bit (target s j == l))
            (sym (ap₂ (λ (y z : ℤ). y *ℤ z) (mult-loop s total worth turns l v) (factor-at_loop s j l v)))
            (loop-most turns most j l nest v (few l v))),
        sum-scale s.loops most (λ l. bit (target s j == l)),
        mul-le-mul_left most (one_most s.loops (target s j)),
      )

  -- ---- The leaf.
  abbrev pub weights : (total : ℕ) (worth turns : ℕ → ℕ) → List Weight
  weights total worth turns = weights_to (multiplier s total worth turns) (s.places + 1 + s.loops)

  pub shown-column : (total : ℕ) (worth turns : ℕ → ℕ) (j : ℕ) → IsNest s → IsUpTo (length net.arcs) j →
      total_of (column_parts rows (weights total worth turns) j)
      ≡ (pos total *ℤ one_if (j == 1) +ℤ (pos (worth (s.from j)) -ℤ pos (worth (s.to j))))
      +ℤ (pos (given s turns j) -ℤ pos (paid s turns j))
  shown-column total worth turns j nest u =
      weights-total (λ (weight : Weight). parts_in j weight.times (item_at weight.row rows))
      (multiplier s total worth turns) (factor_at s j) (s.places + 1 + s.loops)
      (λ row v. row-given (multiplier s total worth turns row) j row u (row-of s.places s.loops row v))
      ∙ column-total s total worth turns j nest u

  pub shown-fit : (total : ℕ) (worth turns : ℕ → ℕ) (j : ℕ) → IsNest s → AreSmall s total worth turns →
      IsUpTo (length net.arcs) j → FitFrom (pos 0) (column_parts rows (weights total worth turns) j)
  shown-fit total worth turns j nest small u =
      fit-size (pos 0) (column_parts rows (weights total worth turns) j)
      (omega (
        arith,
        column-size total worth turns (2 ^ 120) j nest small.total_small small.worths small.turned,
        weights-size (λ (weight : Weight). parts_in j weight.times (item_at weight.row rows))
            (multiplier s total worth turns)
            (λ row. nat_abs (multiplier s total worth turns row *ℤ factor_at s j row)) (s.places + 1 + s.loops)
            (λ row v. row-size (multiplier s total worth turns row) j row u (row-of s.places s.loops row v)),
      ))

  right_one : (times : ℤ) → total_of ((times *ℤ one_if true) ∷ []) ≡ times *ℤ pos 1
  right_one times = omega (arith, ints)

  part_one : (z : ℤ) → total_of (z ∷ []) ≡ z
  part_one z = omega (arith, ints)

  pub shown-right : (total : ℕ) (worth turns : ℕ → ℕ) → total_of (right_parts rows (weights total worth turns)) ≡ pos total
  shown-right total worth turns =
      weights-total (λ (weight : Weight). right_part weight.times (item_at weight.row rows))
      (multiplier s total worth turns) (λ row. one_if (row == 1)) (s.places + 1 + s.loops)
      (λ row v. ap total_of (right-given (multiplier s total worth turns row) row (row-of s.places s.loops row v))
      ∙ part_one (multiplier s total worth turns row *ℤ one_if (row == 1)))
      ∙ total_to-one (λ row. multiplier s total worth turns row *ℤ one_if (row == 1)) (s.places + 1 + s.loops) 1
      (omega arith) (omega arith)
      (λ row differ. ap (λ (t : Bool). multiplier s total worth turns row *ℤ one_if t)
      (ne_eqb row 1 differ) ∙ omega (arith, ints))
      ∙ omega (arith, ints)

  pub right-size : (total : ℕ) (worth turns : ℕ → ℕ) →
      size (right_parts rows (weights total worth turns)) ≤ total
  right-size total worth turns =
      omega (
        arith,
        weights-size (λ (weight : Weight). right_part weight.times (item_at weight.row rows))
            (multiplier s total worth turns) (λ row. total * bit (row == 1)) (s.places + 1 + s.loops)
            (λ row v. subst (λ (parts : List ℤ). size parts ≤ total * bit (row == 1))
            (sym (right-given (multiplier s total worth turns row) row (row-of s.places s.loops row v)))
            (one row)),
        sum-only (s.places + 1 + s.loops) 1 (λ row. total * bit (row == 1)) (omega arith)
            (λ row v differ. ap (λ n. total * n) (bit_other row 1 differ) ∙ omega arith),
        ap (λ n. total * n) (bit_same 1 1 refl),
      )
    where
      one : (row : ℕ) → nat_abs (multiplier s total worth turns row *ℤ one_if (row == 1)) + 0 ≤ total * bit (row == 1)
      one row = elim (cases_eq row 1)
          as (λ _. nat_abs (multiplier s total worth turns row *ℤ one_if (row == 1)) + 0 ≤ total * bit (row == 1)) [
            | inl e ↦ subst (λ (r : ℕ). nat_abs (multiplier s total worth turns r *ℤ one_if (r == 1)) + 0
                ≤ total * bit (r == 1)) (sym e) (omega (arith, ints))
            | inr differ ↦ omega (
              arith,
              ap (λ (t : Bool). nat_abs (multiplier s total worth turns row *ℤ one_if t))
                  (ne_eqb row 1 differ),
              none (multiplier s total worth turns row),
            )
          ]
        where
          none : (z : ℤ) → nat_abs (z *ℤ pos 0) ≡ 0
          none z = omega (arith, abs-product z (pos 0))
