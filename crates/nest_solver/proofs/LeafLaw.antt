-- A leaf with the multipliers of worths and turns is valid and shows the total.
use Rattle.std.proofs.Common.{◌≡◌, ℕ, ◌+◌, ◌*◌, ◌^◌, ◌<◌, ◌≤◌, ◌==◌, Bool, true, false, List, [], length, All, sym, ap, ◌∙◌, subst, inl, inr, arith, FitsSigned, append-nil}
use Rattle.std.specs.Int.{w128}
use Rattle.std.proofs.lemmas.Bool.{cases_Bool}
use Rattle.std.proofs.lemmas.Int.{ints, fits_signed_from_abs}
use lib.IntN.{ℤ, pos, ◌+ℤ◌, ◌*ℤ◌}
use lib.Signed.{◌≤ℤ◌}
use Rattle.flow_net.specs.Numbers.{item_at, IsNumberOf}
use Rattle.flow_net.specs.Nested.{IsNested}
use Rattle.flow_net.specs.declared.net.Net.{Net}
use Rattle.ipet_program.specs.Leaves.{IsLeaf, IsSigned, Shows, FitsBound, FitFrom, all_rows, column_parts, right_parts, total as total_of, value_at}
use Rattle.ipet_program.specs.Programs.{IsProgramOf}
use Rattle.ipet_program.specs.Rows.{one_if, rows_of}
use Rattle.ipet_program.specs.declared.leaf.Leaf.{Leaf}
use Rattle.ipet_program.specs.declared.leaf.Weight.{Weight}
use Rattle.ipet_program.specs.declared.program.Program.{Program}
use Rattle.ipet_program.specs.declared.program.Row.{Row}
use Rattle.nest_solver.specs.Nets.{HasDepths, HasHeaders, shape_of, value_at_end}
use Rattle.nest_solver.specs.Shape.{Shape, IsNest, IsUpTo, target, is_back}
use Rattle.nest_solver.specs.Solved.{paid, weight_of, IsDual}
use Rattle.nest_solver.specs.Counted.{bit, returns}
use Rattle.nest_solver.specs.LeafWeights.{multiplier, IsLeafOf, AreSmall}
use Rattle.nest_solver.proofs.Weak.{given, given-back}
use Rattle.nest_solver.proofs.Sums.{sum-none}
use Rattle.nest_solver.proofs.Arcs.{back-of}
use Rattle.nest_solver.proofs.Along.{returns-none}
use Rattle.nest_solver.proofs.NetShape.{shape-nest}
use Rattle.nest_solver.proofs.Rows.{value-table}
use Rattle.nest_solver.proofs.Listed.{fit-size, weights-all}
use Rattle.nest_solver.proofs.LeafShown.{row-of, column-pays}
use Rattle.nest_solver.proofs.LeafValid.{weights, row-there, row-signed, shown-column, shown-fit, shown-right, right-size}

-- What a leaf that shows a bound says, of its rows, its multipliers and its denominator.
record IsShowing (program : Program) (bound : ℕ) (rows : List Row) (listed : List Weight) (denom : ℤ) : Type 0 where
  pub there : All (λ weight. IsNumberOf rows weight.row) listed
  pub signs : All (λ weight. IsSigned weight.times (item_at weight.row rows)) listed
  pub one : pos 1 ≤ℤ denom
  pub columns : (column : ℕ) → 1 ≤ column → column ≤ program.columns →
      (denom *ℤ value_at program column) ≤ℤ total_of (column_parts rows listed column)
  pub right : (total_of (right_parts rows listed) +ℤ pos 1) ≤ℤ (denom *ℤ pos (bound + 1))
  pub columns_fit : (column : ℕ) → 1 ≤ column → column ≤ program.columns →
      FitFrom (pos 0) (column_parts rows listed column)
  pub right_fits : FitFrom (pos 0) (right_parts rows listed)
  pub values : (column : ℕ) → 1 ≤ column → column ≤ program.columns → FitsSigned w128 (denom *ℤ value_at program column)
  pub next : FitsSigned w128 (denom *ℤ pos (bound + 1))

leaf-from : (program : Program) (bound : ℕ) (leaf : Leaf) → leaf.empty ≡ false →
    IsShowing program bound (all_rows program []) leaf.weights leaf.denom → IsLeaf program [] bound leaf
leaf-from program bound leaf some is =
    record {
      keeps = record { rows = is.there; signs = is.signs; denom = is.one };
      fits = record {
        columns = is.columns_fit;
        right = is.right_fits;
        next = subst (λ (empty : Bool). FitsBound empty program bound leaf) (sym some)
            (record { values = is.values; next = is.next });
      };
      shows = subst (λ (empty : Bool). Shows empty program (all_rows program []) bound leaf) (sym some)
          (record { columns = is.columns; right = is.right });
    }

one_bit : (t : Bool) (total : ℕ) → pos total *ℤ one_if t ≡ pos (total * bit t)
one_bit true total = omega (arith, ints)
one_bit false total = omega (arith, ints)

at_most : (n : ℕ) (t : Bool) → n * bit t ≤ n
at_most n true = omega arith
at_most n false = omega arith

-- A back arc is given no more than a turn.
given-small : (s : Shape) (turns : ℕ → ℕ) (j most : ℕ) → IsNest s →
    ((l : ℕ) → IsUpTo s.loops l → turns l * (s.bound l + 1) ≤ most) → given s turns j ≤ most
given-small s turns j most nest few =
    elim (cases_Bool (is_back s j)) as (λ _. given s turns j ≤ most) [
      | inl back ↦ omega (
        arith,
        given-back s turns j nest back,
        few (target s j) (back-of s nest j back).up,
      )
      | inr forward ↦ omega (
        arith,
        sum-none s.loops (λ l. turns l * bit (returns s l j))
            (λ l u. ap (λ n. turns l * n) (returns-none s l j forward) ∙ omega arith),
      )
    ]

one_times : (z : ℤ) → pos 1 *ℤ z ≡ z
one_times z = omega (arith, ints)

module _ (net : Net) (price : ℕ → ℕ) (program : Program) (depths headed turns worth : ℕ → ℕ) (depth total : ℕ)
    (nested : IsNested net) (has : HasDepths net depths) (heads : HasHeaders net headed)
    (is : IsProgramOf net price program)
    (dual : IsDual (shape_of net depths headed)
    (weight_of (shape_of net depths headed) (value_at_end (shape_of net depths headed) price) turns) turns depth worth)
    (low : (l : ℕ) → IsUpTo (length net.loops) l → depths l ≤ depth)
    (shown : total + worth 0
    ≡ weight_of (shape_of net depths headed) (value_at_end (shape_of net depths headed) price) turns 1
    + worth ((shape_of net depths headed).to 1))
    (small : AreSmall (shape_of net depths headed) total worth turns) where
  abbrev s : Shape
  s = shape_of net depths headed

  abbrev rows : List Row
  rows = rows_of net

  abbrev listed : List Weight
  listed = weights net depths headed total worth turns

  nest : IsNest (shape_of net depths headed)
  nest = shape-nest net depths headed nested has heads

  in_range : (j : ℕ) → 1 ≤ j → j ≤ program.columns → IsUpTo (length net.arcs) j
  in_range j from_one high = (from_one, omega (arith, high, is.columns))

  value-pays : (j : ℕ) → IsUpTo (length net.arcs) j →
      value_at_end (shape_of net depths headed) price j + paid (shape_of net depths headed) turns j
      + worth ((shape_of net depths headed).to j)
      ≤ total * bit (j == 1) + worth ((shape_of net depths headed).from j) + given (shape_of net depths headed) turns j
  value-pays j u =
      column-pays (shape_of net depths headed) (value_at_end (shape_of net depths headed) price) turns worth depth total j
      nest dual low shown u

  columns-by : (j : ℕ) → IsUpTo (length net.arcs) j →
      (pos 1 *ℤ value_at program j) ≤ℤ total_of (column_parts rows listed j)
  columns-by j u =
      let pays = value-pays j u in
      let value = value-table net price program depths headed j is u in
      let sum = shown-column net depths headed total worth turns j nest u in
      let first = one_bit (j == 1) total in
      let same = one_times (value_at program j) in
      omega (arith, ints)

  right-by : (total_of (right_parts rows listed) +ℤ pos 1) ≤ℤ (pos 1 *ℤ pos (total + 1))
  right-by =
      let sum = shown-right net depths headed total worth turns in
      let same = one_times (pos (total + 1)) in
      omega (arith, ints)

  fits_by : (n : ℕ) → n < 2 ^ 127 → FitsSigned w128 (pos 1 *ℤ pos n)
  fits_by n less = fits_signed_from_abs w128 (pos 1 *ℤ pos n) (omega (arith, ints, one_times (pos n), less))

  showing : IsShowing program total (rows_of net) (weights net depths headed total worth turns) (pos 1)
  showing = record {
    there = weights-all (λ weight. IsNumberOf rows weight.row) (multiplier s total worth turns)
        (s.places + 1 + s.loops)
        (λ row v. row-there net depths headed row (row-of s.places s.loops row v));
    signs = weights-all (λ weight. IsSigned weight.times (item_at weight.row rows)) (multiplier s total worth turns)
        (s.places + 1 + s.loops)
        (λ row v. row-signed net depths headed total worth turns row (row-of s.places s.loops row v));
    one = omega (arith, ints);
    columns = λ j from_one high. columns-by j (in_range j from_one high);
    right = right-by;
    columns_fit = λ j from_one high. shown-fit net depths headed total worth turns j nest small (in_range j from_one high);
    right_fits = fit-size (pos 0) (right_parts rows listed)
        (omega (arith, right-size net depths headed total worth turns, small.total_small));
    values = λ j from_one high. subst (λ (z : ℤ). FitsSigned w128 (pos 1 *ℤ z))
        (sym (value-table net price program depths headed j is (in_range j from_one high)))
        (fits_by (value_at_end s price j) (value-small j (in_range j from_one high)));
    next = fits_by (total + 1) (omega (arith, small.total_small));
  }
    where
      value-small : (j : ℕ) → IsUpTo (length net.arcs) j → value_at_end (shape_of net depths headed) price j < 2 ^ 127
      value-small j u = omega (
        arith,
        value-pays j u,
        small.total_small,
        small.worths (s.from j),
        given-small s turns j (2 ^ 120) nest small.turned,
        at_most total (j == 1),
      )

-- The leaf is valid for the program, and shows the total.
pub leaf-shows : (net : Net) (price : ℕ → ℕ) (program : Program) (depths headed turns worth : ℕ → ℕ) (depth total : ℕ)
    (leaf : Leaf) → IsNested net → HasDepths net depths → HasHeaders net headed → IsProgramOf net price program →
    IsDual (shape_of net depths headed)
    (weight_of (shape_of net depths headed) (value_at_end (shape_of net depths headed) price) turns) turns depth worth →
    ((l : ℕ) → IsUpTo (length net.loops) l → depths l ≤ depth) →
    total + worth 0
    ≡ weight_of (shape_of net depths headed) (value_at_end (shape_of net depths headed) price) turns 1
    + worth ((shape_of net depths headed).to 1) →
    AreSmall (shape_of net depths headed) total worth turns →
    IsLeafOf (shape_of net depths headed) total worth turns leaf → IsLeaf program [] total leaf
leaf-shows net price program depths headed turns worth depth total leaf nested has heads is dual low shown small of_leaf =
    let rows : all_rows program [] ≡ rows_of net =
    append-nil program.rows ∙ is.rows in
    leaf-from program total leaf of_leaf.shows
    (subst (λ (listed : List Row). IsShowing program total listed leaf.weights leaf.denom) (sym rows)
    (subst (λ (listed : List Weight). IsShowing program total (rows_of net) listed leaf.denom)
    (sym of_leaf.weights)
    (subst (λ (denom : ℤ). IsShowing program total (rows_of net)
    (weights net depths headed total worth turns) denom) (sym of_leaf.denom)
    (showing net price program depths headed turns worth depth total nested has heads is dual low shown small))))
