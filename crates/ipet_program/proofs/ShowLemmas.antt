-- A leaf is valid where it keeps the rules, its rows may be taken and the sums show what it says.
use Rattle.std.proofs.Common.{◌≡◌, ℕ, zero, suc, ◌+◌, ◌-◌, ◌≤◌, ◌<◌, Bool, true, false, List, [], ◌∷◌, length, get_or, slice_get, refl, sym, ap, ◌∙◌, subst, arith}
use Rattle.std.specs.Prelude.{FitsSigned}
use Rattle.std.specs.Bool.{OnFalse, OnTrue}
use Rattle.std.specs.Int.{w128}
use Rattle.std.proofs.lemmas.Int.{ints}
use lib.IntN.{ℤ, pos, ◌*ℤ◌}
use lib.Signed.{◌≤ℤ◌}
use Rattle.flow_net.specs.Numbers.{item_at}
use Rattle.ipet_program.specs.Adding.{AreTaken, MayTakeAll, sum_in}
use Rattle.ipet_program.specs.LeafFaults.{Breaks}
use Rattle.ipet_program.specs.Leaves.{all_rows, column_parts, FitFrom, FitsBound, FitsLeaf, IsLeaf, KeepsRules, Shows, total, value_at, value_or_zero}
use Rattle.ipet_program.specs.Programs.{IsCheckable}
use Rattle.ipet_program.specs.Shown.{FitBound, FitSaid, SayRight, SayWrong, ShowBound, ShowNone, ShowSaid}
use Rattle.ipet_program.specs.declared.leaf.Leaf.{Leaf}
use Rattle.ipet_program.specs.declared.leaf.LeafFault.{LeafFault}
use Rattle.ipet_program.specs.declared.leaf.LeafFault.TheVariants.{Tree, Wide, Dual}
use Rattle.ipet_program.specs.declared.leaf.Side2.{Side2}
use Rattle.ipet_program.specs.declared.program.Program.{Program}

-- Each sum is 0.
abbrev pub AreZero : List ℤ → Type 0
AreZero sums = (k : ℕ) → k < length sums → get_or sums k (pos 0) ≡ pos 0

value-get : (values : List ℤ) (i : ℕ) → value_or_zero (slice_get values i) ≡ get_or values i (pos 0)
value-get [] i = refl
value-get (value ∷ more) zero = refl
value-get (value ∷ more) (suc i) = value-get more i

value-column : (values : List ℤ) (k : ℕ) → value_or_zero (item_at (k + 1) values) ≡ get_or values k (pos 0)
value-column values k =
    let e : k + 1 ≡ suc k = omega arith in
    ap (λ (n : ℕ). value_or_zero (item_at n values)) e ∙ value-get values k

-- The sum of a column is what its parts add up to.
got : (program : Program) (cuts : List Side2) (leaf : Leaf) (old sums : List ℤ) (side : ℤ) →
    AreZero old → program.columns ≤ length old → AreTaken program cuts old sums (pos 0) leaf.weights side →
    (column : ℕ) → 1 ≤ column → column ≤ program.columns →
    sum_in sums column ≡ total (column_parts (all_rows program cuts) leaf.weights column)
got program cuts leaf old sums side zeros long taken column low high =
    let sum = taken.added column low high in
    let none = zeros (column - 1) (omega arith) in
    omega (arith, ints)

fits-none : (program : Program) (old : List ℤ) → AreZero old → program.columns ≤ length old → (column : ℕ) →
    1 ≤ column → column ≤ program.columns → sum_in old column ≡ pos 0
fits-none program old zeros long column low high = zeros (column - 1) (omega arith)

-- The value of a column stands at the place before its number.
value-before : (values : List ℤ) (column : ℕ) → 1 ≤ column →
    value_or_zero (item_at column values) ≡ get_or values (column - 1) (pos 0)
value-before values column low =
    let e : column - 1 + 1 ≡ column = omega arith in
    ap (λ (n : ℕ). value_or_zero (item_at n values)) (sym e) ∙ value-column values (column - 1)

-- What a leaf says fits by place where it fits by column.
fit-column : (empty : Bool) (program : Program) (bound : ℕ) (leaf : Leaf) → IsCheckable program →
    FitSaid empty program leaf.denom bound → FitsBound empty program bound leaf
fit-column false program bound leaf checkable fit =
    record {
      values = λ column low high. subst (λ (v : ℤ). FitsSigned w128 (leaf.denom *ℤ v))
          (sym (value-before program.value column low)) (fit.values (column - 1) (omega (arith, checkable.value)));
      next = fit.next;
    }
fit-column true program bound leaf checkable fit = tt

pub fit-place : (empty : Bool) (program : Program) (bound : ℕ) (leaf : Leaf) → IsCheckable program →
    FitsBound empty program bound leaf → FitSaid empty program leaf.denom bound
fit-place false program bound leaf checkable fits =
    record {
      next = fits.next;
      values = λ k less. subst (λ (v : ℤ). FitsSigned w128 (leaf.denom *ℤ v)) (value-column program.value k)
          (fits.values (k + 1) (omega arith) (omega (arith, less, checkable.value)));
    }
fit-place true program bound leaf checkable fits = tt

module _ (program : Program) (cuts : List Side2) (leaf : Leaf) (old : List ℤ) (zeros : AreZero old)
    (long : program.columns ≤ length old) (checkable : IsCheckable program) where
  -- The rows of a leaf that fits may be taken.
  pub may-of_fits : (bound : ℕ) → FitsLeaf program cuts bound leaf → MayTakeAll program cuts old (pos 0) leaf.weights
  may-of_fits bound fits =
      record {
        left = λ column low high.
            subst (λ (s : ℤ). FitFrom s (column_parts (all_rows program cuts) leaf.weights column))
            (sym (fits-none program old zeros long column low high)) (fits.columns column low high);
        other = fits.right;
      }

  module _ (sums : List ℤ) (side : ℤ) (taken : AreTaken program cuts old sums (pos 0) leaf.weights side) (bound : ℕ) where
    sum-place : (k : ℕ) → k + 1 ≤ program.columns →
        get_or sums k (pos 0) ≡ total (column_parts (all_rows program cuts) leaf.weights (k + 1))
    sum-place k inside =
        let place : k + 1 - 1 ≡ k = omega arith in
        ap (λ (n : ℕ). get_or sums n (pos 0)) (sym place)
        ∙ got program cuts leaf old sums side zeros long taken (k + 1) (omega arith) inside

    -- What the sums show is what the rows show.
    shown-rows : (empty : Bool) → ShowSaid empty program leaf.denom bound sums side →
        Shows empty program (all_rows program cuts) bound leaf
    shown-rows false shown =
        record {
          columns = λ column low high.
              let one = shown.covered (column - 1) (omega (arith, checkable.value)) in
              let sum = got program cuts leaf old sums side zeros long taken column low high in
              let value : leaf.denom *ℤ value_at program column ≡ leaf.denom *ℤ get_or program.value (column - 1) (pos 0) =
              ap (λ (v : ℤ). leaf.denom *ℤ v) (value-before program.value column low) in
              omega (arith, ints);
          right =
              let sum = taken.total_right in
              let less = shown.below in
              omega (arith, ints);
        }
    shown-rows true shown =
        record {
          columns = λ column low high.
              let one = shown.kept (column - 1) (omega arith) in
              let sum = got program cuts leaf old sums side zeros long taken column low high in
              omega (arith, ints);
          right =
              let sum = taken.total_right in
              let less = shown.right in
              omega (arith, ints);
        }

    pub rows-shown : (empty : Bool) → Shows empty program (all_rows program cuts) bound leaf →
        ShowSaid empty program leaf.denom bound sums side
    rows-shown false shows =
        record {
          below =
              let sum = taken.total_right in
              let right = shows.right in
              omega (arith, ints);
          covered = λ k less.
              let inside : k + 1 ≤ program.columns = omega (arith, less, checkable.value) in
              let sum = sum-place k inside in
              let one = shows.columns (k + 1) (omega arith) inside in
              let value : leaf.denom *ℤ value_at program (k + 1) ≡ leaf.denom *ℤ get_or program.value k (pos 0) =
              ap (λ (v : ℤ). leaf.denom *ℤ v) (value-column program.value k) in
              omega (arith, ints);
        }
    rows-shown true shows =
        record {
          right =
              let sum = taken.total_right in
              let right = shows.right in
              omega (arith, ints);
          kept = λ k less.
              let inside : k + 1 ≤ program.columns = omega (arith, less) in
              let sum = sum-place k inside in
              let one = shows.columns (k + 1) (omega arith) inside in
              omega (arith, ints);
        }

    fits-taken : FitSaid leaf.empty program leaf.denom bound → FitsLeaf program cuts bound leaf
    fits-taken fit =
        record {
          columns = λ column low high.
              subst (λ (s : ℤ). FitFrom s (column_parts (all_rows program cuts) leaf.weights column))
              (fits-none program old zeros long column low high) (taken.may.left column low high);
          right = taken.may.other;
          next = fit-column leaf.empty program bound leaf checkable fit;
        }

    -- Where they say right, the leaf is valid.
    pub valid-said : KeepsRules program cuts leaf → SayRight leaf.empty program leaf.denom bound sums side →
        IsLeaf program cuts bound leaf
    valid-said keeps right =
        record { keeps = keeps; fits = fits-taken right.fit; shows = shown-rows leaf.empty right.shown }

    -- And they do where it is valid.
    pub said-valid : IsLeaf program cuts bound leaf → SayRight leaf.empty program leaf.denom bound sums side
    said-valid valid =
        record {
          fit = fit-place leaf.empty program bound leaf checkable valid.fits.next;
          shown = rows-shown leaf.empty valid.shows;
        }

    -- The rule that they break is the one that the leaf breaks.
    pub breaks-said : KeepsRules program cuts leaf → (fault : LeafFault) →
        SayWrong leaf.empty program leaf.denom bound sums side fault → Breaks program cuts bound leaf fault
    breaks-said keeps Tree wrong = absurd wrong
    breaks-said keeps Wide wrong =
        (keeps, λ fits. wrong (fit-place leaf.empty program bound leaf checkable fits.next))
    breaks-said keeps Dual wrong =
        (keeps, fits-taken wrong.0, λ shows. wrong.1 (rows-shown leaf.empty shows))

-- What follows from what a clause says of an answer.
pub true-then : (b : Bool) {P Q : Type 0} → OnTrue b P → (P → Q) → OnTrue b Q
true-then true h then = then h
true-then false h then = h

pub false-then : (b : Bool) {P Q : Type 0} → OnFalse b P → (P → Q) → OnFalse b Q
false-then true h then = h
false-then false h then = then h
