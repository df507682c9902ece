-- The rows of a net's program say of counts that they keep arc 1, the places and the loops.
use Rattle.std.proofs.Common.{◌≡◌, ◌↔◌, ℕ, zero, suc, ◌+◌, ◌*◌, ◌<◌, ◌≤◌, ◌==◌, ◌&&◌, not, cond, Bool, true, false, List, [], ◌∷◌, ◌++◌, length, slice_get, All, Option, Some, refl, sym, ap, ap₂, ◌∙◌, subst, arith}
use Rattle.std.proofs.lemmas.Bool.{ne_eqb}
use Rattle.std.proofs.lemmas.Int.{ints}
use Rattle.std.proofs.lemmas.List.Elements.{All-cons, All-append}
use lib.IntN.{ℤ, pos, ◌-ℤ◌, ◌*ℤ◌}
use lib.Signed.{◌≤ℤ◌}
use borrow.Author.Differences.{up, down}
use Rattle.flow_net.specs.Scopes.{holds_of}
use Rattle.flow_net.specs.Numbers.{item_at}
use Rattle.flow_net.specs.Nested.{IsNested}
use Rattle.flow_net.specs.declared.net.LoopInst.{LoopInst}
use Rattle.flow_net.specs.declared.net.Net.{Net}
use Rattle.flow_net.specs.declared.net.NetArc.{NetArc}
use Rattle.flow_net.proofs.Numbers.{item_at-all}
use Rattle.ipet_program.specs.Counts.{row_sum, IsMet, IsFeasible, value_of}
use Rattle.ipet_program.specs.Leaves.{value_at}
use Rattle.ipet_program.specs.Programs.{IsProgramOf, arc_value, crude_of, crude_limit}
use Rattle.ipet_program.specs.Rows.{terms_of, one_if, comes_to, goes_from, is_entering as enters_loop, entry_row, place_factor, place_row, loop_factor, loop_row_of, loop_row, rows_of}
use Rattle.ipet_program.specs.Scopes.{turns_at, bound_of}
use Rattle.ipet_program.specs.Sums.{numbered, sum_to}
use Rattle.ipet_program.specs.declared.program.Program.{Program}
use Rattle.ipet_program.specs.declared.program.Row.{Row}
use Rattle.ipet_program.proofs.Totals.{total_to, total_to-same, total_to-one}
use Rattle.ipet_program.proofs.Terms.{row_sum-terms}
use Rattle.ipet_program.proofs.Values.{value_of-total}
use Rattle.ipet_program.proofs.Numbered.{item_at-numbered, numbered-all, length-numbered}
use Rattle.ipet_program.proofs.RunCounts.{value_at-arc, length-value}
use Rattle.nest_solver.specs.Nets.{shape_of, value_at_end, source_of, header_of}
use Rattle.nest_solver.specs.Shape.{Shape, IsUpTo}
use Rattle.nest_solver.specs.Counted.{bit}
use Rattle.nest_solver.specs.Crude.{grown, IsCrude}
use Rattle.nest_solver.proofs.Sums.{sum-same, sum-scale}
use Rattle.nest_solver.proofs.Products.{product-same}
use Rattle.std.proofs.lemmas.Bool.Decides.{nat_tests}
use Rattle.nest_solver.proofs.Counting.{Keeps, comes, goes, goes_in}
use Rattle.nest_solver.proofs.NetShape.{arc-at, loop-at}
use Rattle.flow_net.specs.Visits.{target_of}
use Rattle.std.specs.Prelude.{nat_lt}

-- ---- The rows by their numbers.
at-left : {T : Type 0} (xs ys : List T) (i : ℕ) → i < length xs → slice_get (xs ++ ys) i ≡ slice_get xs i
at-left [] ys i less = absurd (omega (arith, less))
at-left (x ∷ xs) ys zero less = refl
at-left (x ∷ xs) ys (suc i) less = at-left xs ys i (omega (arith, less))

at-right : {T : Type 0} (xs ys : List T) (i j : ℕ) → j ≡ length xs + i → slice_get (xs ++ ys) j ≡ slice_get ys i
at-right [] ys i j e = ap (slice_get ys) (omega (arith, e))
at-right (x ∷ xs) ys i zero e = absurd (omega (arith, e))
at-right (x ∷ xs) ys i (suc j) e = at-right xs ys i j (omega (arith, e))

pub row-place : (net : Net) (p : ℕ) → IsUpTo (length net.places) p →
    item_at (suc p) (rows_of net) ≡ Some (place_row net.arcs p)
row-place net zero u = absurd (omega (arith, u))
row-place net (suc p) u =
    at-left (numbered (place_row net.arcs) (length net.places)) (numbered (loop_row net) (length net.loops)) p
    (omega (arith, length-numbered (place_row net.arcs) (length net.places), u))
    ∙ item_at-numbered (place_row net.arcs) (length net.places) (suc p) u.0 u.1

pub row-loop : (net : Net) (l : ℕ) → IsUpTo (length net.loops) l →
    item_at (suc (length net.places + l)) (rows_of net) ≡ Some (loop_row net l)
row-loop net zero u = absurd (omega (arith, u))
row-loop net (suc l) u =
    at-right (entry_row (length net.arcs) ∷ numbered (place_row net.arcs) (length net.places))
    (numbered (loop_row net) (length net.loops)) l (length net.places + suc l)
    (omega (arith, length-numbered (place_row net.arcs) (length net.places)))
    ∙ item_at-numbered (loop_row net) (length net.loops) (suc l) u.0 u.1

-- ---- Sums of differences.
diff-mul : (a b x : ℕ) → (pos a -ℤ pos b) *ℤ pos x ≡ pos (a * x) -ℤ pos (b * x)
diff-mul a b x =
    let e : up (pos a -ℤ pos b) + b ≡ down (pos a -ℤ pos b) + a = omega (arith, ints) in
    omega (arith, ints, ap (λ (m : ℕ). m * x) e)

pub total-diff : (a b x : ℕ → ℕ) (n : ℕ) →
    total_to n (λ j. (pos (a j) -ℤ pos (b j)) *ℤ pos (x j))
    ≡ pos (sum_to n (λ j. a j * x j)) -ℤ pos (sum_to n (λ j. b j * x j))
total-diff a b x zero = omega (arith, ints)
total-diff a b x (suc n) =
    let rest = total-diff a b x n in
    let last = diff-mul (a (suc n)) (b (suc n)) (x (suc n)) in
    omega (arith, ints)

pub total-pos : (a x : ℕ → ℕ) (n : ℕ) →
    total_to n (λ j. pos (a j) *ℤ pos (x j)) ≡ pos (sum_to n (λ j. a j * x j))
total-pos a x zero = refl
total-pos a x (suc n) =
    let rest = total-pos a x n in
    omega (arith, ints)

bit-one : (t : Bool) → one_if t ≡ pos (bit t)
bit-one true = refl
bit-one false = refl

-- A row by its factors, where they are differences.
row-diff : (factor : ℕ → ℤ) (a b x : ℕ → ℕ) (n : ℕ) →
    ((j : ℕ) → IsUpTo n j → factor j ≡ pos (a j) -ℤ pos (b j)) →
    row_sum x (terms_of factor n) ≡ pos (sum_to n (λ j. a j * x j)) -ℤ pos (sum_to n (λ j. b j * x j))
row-diff factor a b x n is =
    row_sum-terms x factor n
    ∙ total_to-same (λ j. factor j *ℤ pos (x j)) (λ j. (pos (a j) -ℤ pos (b j)) *ℤ pos (x j)) n
    (λ j low high. ap (λ (z : ℤ). z *ℤ pos (x j)) (is j (low, high)))
    ∙ total-diff a b x n

module _ (net : Net) (depth headed : ℕ → ℕ) where
  abbrev s : Shape
  s = shape_of net depth headed

  -- The factors of a place's row and of a loop's row.
  pub place-factor : (p j : ℕ) → IsUpTo (length net.arcs) j →
      place_factor net.arcs p j ≡ pos (comes s p j) -ℤ pos (goes s p j)
  place-factor p j u = let arc = arc-at net j u in by arc.item arc.there
    where
      by : (arc : NetArc) → item_at j net.arcs ≡ Some arc →
          place_factor net.arcs p j ≡ pos (comes s p j) -ℤ pos (goes s p j)
      by arc there =
          subst (λ (found : Option NetArc). one_if (comes_to p found) -ℤ one_if (goes_from p found)
          ≡ pos (bit (target_of found == p)) -ℤ pos (bit (source_of found == p)))
          (sym there)
          (ap₂ (λ (y z : ℤ). y -ℤ z) (bit-one (arc.to == p)) (bit-one (arc.from == p)))

  pub loop-factor : (inst : LoopInst) (l j : ℕ) → item_at l net.loops ≡ Some inst → IsUpTo (length net.arcs) j →
      loop_factor net.arcs (holds_of net l) inst j
      ≡ pos (comes s (s.header l) j) -ℤ pos (inst.bound * goes_in s l j)
  loop-factor inst l j loop u = let arc = arc-at net j u in by arc.item arc.there
    where
      header : s.header l ≡ inst.header
      header = ap header_of loop

      times : (t : Bool) → pos inst.bound *ℤ one_if t ≡ pos (inst.bound * bit t)
      times true = omega (arith, ints)
      times false = omega (arith, ints)

      by : (arc : NetArc) → item_at j net.arcs ≡ Some arc →
          loop_factor net.arcs (holds_of net l) inst j
          ≡ pos (comes s (s.header l) j) -ℤ pos (inst.bound * goes_in s l j)
      by arc there =
          subst (λ (found : Option NetArc).
          one_if (comes_to inst.header found) -ℤ pos inst.bound *ℤ one_if (enters_loop (holds_of net l) inst.header found)
          ≡ pos (bit (target_of found == s.header l))
          -ℤ pos (inst.bound * bit ((target_of found == s.header l)
          && not (holds_of net l (source_of found)))))
          (sym there)
          (subst (λ (h : ℕ). one_if (arc.to == inst.header)
          -ℤ pos inst.bound *ℤ one_if ((arc.to == inst.header) && not (holds_of net l arc.from))
          ≡ pos (bit (arc.to == h)) -ℤ pos (inst.bound * bit ((arc.to == h) && not (holds_of net l arc.from))))
          (sym header)
          (ap₂ (λ (y z : ℤ). y -ℤ z) (bit-one (arc.to == inst.header))
          (times ((arc.to == inst.header) && not (holds_of net l arc.from)))))

  entry-sum : (x : ℕ → ℕ) → 1 ≤ length net.arcs → row_sum x (entry_row (length net.arcs)).terms ≡ pos (x 1)
  entry-sum x some =
      row_sum-terms x (λ column. one_if (column == 1)) (length net.arcs)
      ∙ total_to-one (λ j. one_if (j == 1) *ℤ pos (x j)) (length net.arcs) 1 (omega arith) some
      (λ j differ. ap (λ (z : ℤ). z *ℤ pos (x j)) (other j differ) ∙ omega (arith, ints))
      ∙ omega (arith, ints)
    where
      other : (j : ℕ) → (j ≡ 1 → ⊥) → one_if (j == 1) ≡ pos 0
      other j differ = ap one_if (ne_eqb j 1 differ)

  place-sum : (x : ℕ → ℕ) (p : ℕ) → row_sum x (place_row net.arcs p).terms
      ≡ pos (sum_to (length net.arcs) (λ j. comes s p j * x j)) -ℤ pos (sum_to (length net.arcs) (λ j. goes s p j * x j))
  place-sum x p = row-diff (place_factor net.arcs p) (comes s p) (goes s p) x (length net.arcs) (place-factor p)

  loop-sum : (x : ℕ → ℕ) (inst : LoopInst) (l : ℕ) → item_at l net.loops ≡ Some inst →
      row_sum x (loop_row_of net.arcs (holds_of net l) (Some inst)).terms
      ≡ pos (sum_to (length net.arcs) (λ j. comes s (s.header l) j * x j))
      -ℤ pos (sum_to (length net.arcs) (λ j. (inst.bound * goes_in s l j) * x j))
  loop-sum x inst l loop =
      row-diff (loop_factor net.arcs (holds_of net l) inst) (comes s (s.header l)) (λ j. inst.bound * goes_in s l j) x
      (length net.arcs) (λ j u. loop-factor inst l j loop u)

  -- Each row that counts meet, as an equation or an order of whole numbers from 0 up.
  same_sums : (a b : ℕ) (z : ℤ) → z ≡ pos a -ℤ pos b → (z ≡ pos 0) ↔ (a ≡ b)
  same_sums a b z e = (λ h. omega (arith, ints), λ h. omega (arith, ints))

  less_sums : (a b : ℕ) (z : ℤ) → z ≡ pos a -ℤ pos b → (z ≤ℤ pos 0) ↔ (a ≤ b)
  less_sums a b z e = (λ h. omega (arith, ints), λ h. omega (arith, ints))

  scaled : (x : ℕ → ℕ) (l b : ℕ) → sum_to (length net.arcs) (λ j. (b * goes_in s l j) * x j)
      ≡ b * sum_to (length net.arcs) (λ j. goes_in s l j * x j)
  scaled x l b =
      sum-same (length net.arcs) (λ j. (b * goes_in s l j) * x j) (λ j. b * (goes_in s l j * x j)) (λ j u. omega arith)
      ∙ sum-scale (length net.arcs) b (λ j. goes_in s l j * x j)

  -- A loop's row, whether its number names a loop or not.
  loop-met : (x : ℕ → ℕ) (l : ℕ) → IsUpTo (length net.loops) l →
      IsMet x (loop_row net l)
      ↔ (sum_to (length net.arcs) (λ j. comes s (s.header l) j * x j)
      ≤ s.bound l * sum_to (length net.arcs) (λ j. goes_in s l j * x j))
  loop-met x l u = let loop = loop-at net l u in by loop.item loop.there
    where
      by : (inst : LoopInst) → item_at l net.loops ≡ Some inst →
          IsMet x (loop_row net l)
          ↔ (sum_to (length net.arcs) (λ j. comes s (s.header l) j * x j)
          ≤ s.bound l * sum_to (length net.arcs) (λ j. goes_in s l j * x j))
      by inst there =
          let bound : s.bound l ≡ inst.bound = ap bound_of there in
          let iff = less_sums (sum_to (length net.arcs) (λ j. comes s (s.header l) j * x j))
          (sum_to (length net.arcs) (λ j. (inst.bound * goes_in s l j) * x j))
          (row_sum x (loop_row_of net.arcs (holds_of net l) (Some inst)).terms) (loop-sum x inst l there) in
          let same = scaled x l inst.bound in
          let product = ap (λ n. n * sum_to (length net.arcs) (λ j. goes_in s l j * x j)) bound in (
            λ met. omega (
              arith,
              same,
              product,
              iff.0 (subst (λ (found : Option LoopInst). IsMet x (loop_row_of net.arcs (holds_of net l) found)) there met),
            ),
            λ h. subst (λ (found : Option LoopInst). IsMet x (loop_row_of net.arcs (holds_of net l) found)) (sym there)
                (iff.1 (omega (arith, same, product, h))),
          )

  -- Counts that keep arc 1, the places and the loops meet the rows, and the other way round.
  pub rows-kept : (x : ℕ → ℕ) → 1 ≤ length net.arcs → All (IsMet x) (rows_of net) ↔ Keeps s x
  rows-kept x some = (
    λ all. record {
      first = first_from (sym (entry-sum x some) ∙ item_at-all (IsMet x) rows 1 (entry_row (length net.arcs)) all refl);
      kept = λ p u. (same_sums _ _ _ (place-sum x p)).0
          (item_at-all (IsMet x) rows (suc p) (place_row net.arcs p) all (row-place net p u));
      bounded = λ l u. (loop-met x l u).0
          (item_at-all (IsMet x) rows (suc (length net.places + l)) (loop_row net l) all
          (row-loop net l u));
    },
    λ keeps. All-cons (IsMet x) (entry_row (length net.arcs))
        (numbered (place_row net.arcs) (length net.places) ++ numbered (loop_row net) (length net.loops))
        (entry-sum x some ∙ ap (λ (n : ℕ). pos n) keeps.first)
        (All-append (IsMet x) (numbered (place_row net.arcs) (length net.places))
        (numbered (loop_row net) (length net.loops))
        (numbered-all (IsMet x) (place_row net.arcs) (length net.places)
        (λ p low high. (same_sums _ _ _ (place-sum x p)).1 (keeps.kept p (low, high))))
        (numbered-all (IsMet x) (loop_row net) (length net.loops)
        (λ l low high. (loop-met x l (low, high)).1 (keeps.bounded l (low, high))))),
  )
    where
      rows : List Row
      rows = rows_of net

      first_from : pos (x 1) ≡ pos 1 → x 1 ≡ 1
      first_from e = omega (arith, ints)

-- ---- The program of a net.
pub feasible-kept : (net : Net) (price : ℕ → ℕ) (program : Program) (depth headed : ℕ → ℕ) (x : ℕ → ℕ) →
    IsNested net → IsProgramOf net price program → 1 ≤ length net.arcs →
    IsFeasible program x ↔ Keeps (shape_of net depth headed) x
feasible-kept net price program depth headed x nested is some = (
  λ feasible. (rows-kept net depth headed x some).0 (subst (All (IsMet x)) is.rows feasible),
  λ keeps. subst (All (IsMet x)) (sym is.rows) ((rows-kept net depth headed x some).1 keeps),
)

-- The value of a column is what its arc's end costs.
pub value-table : (net : Net) (price : ℕ → ℕ) (program : Program) (depth headed : ℕ → ℕ) (j : ℕ) →
    IsProgramOf net price program → IsUpTo (length net.arcs) j →
    value_at program j ≡ pos (value_at_end (shape_of net depth headed) price j)
value-table net price program depth headed j is u =
    value_at-arc net price program is j u
    ∙ (let arc = arc-at net j u in
    ap (arc_value price) arc.there
    ∙ ap (λ (found : Option NetArc). pos (price (target_of found))) (sym arc.there))

pub value-sum : (net : Net) (price : ℕ → ℕ) (program : Program) (depth headed : ℕ → ℕ) (x : ℕ → ℕ) →
    IsProgramOf net price program →
    value_of program x
    ≡ pos (sum_to (length net.arcs) (λ j. value_at_end (shape_of net depth headed) price j * x j))
value-sum net price program depth headed x is =
    value_of-total program x (length-value net price program is)
    ∙ ap (λ (n : ℕ). total_to n (λ j. value_at program j *ℤ pos (x j))) is.columns
    ∙ total_to-same (λ j. value_at program j *ℤ pos (x j))
    (λ j. pos (value_at_end (shape_of net depth headed) price j) *ℤ pos (x j)) (length net.arcs)
    (λ j low high. ap (λ (z : ℤ). z *ℤ pos (x j)) (value-table net price program depth headed j is (low, high)))
    ∙ total-pos (value_at_end (shape_of net depth headed) price) x (length net.arcs)

-- The crude bound of the program is that of the tables.
pub crude-net : (net : Net) (price : ℕ → ℕ) (program : Program) (depth headed : ℕ → ℕ) → IsNested net →
    IsProgramOf net price program → ((l : ℕ) → IsUpTo (length net.loops) l → 1 ≤ depth l) →
    IsCrude (shape_of net depth headed) price crude_limit
crude-net net price program depth headed nested is deep =
    record {
      outside = is.outside;
      low = subst (λ (n : ℕ). n ≤ crude_limit) sums is.low;
    }
  where
    factor : (h : Bool) (b d : ℕ) → 1 ≤ d → cond h b 1 ≡ cond (h && nat_lt 0 d) b 1
    factor true b d low = grind (arith, nat_tests)
    factor false b d low = refl

    sums : crude_of net price
        ≡ sum_to (length net.places) (λ p. price p * grown (shape_of net depth headed) 0 p)
    sums = sum-same (length net.places) (λ p. price p * turns_at net p)
        (λ p. price p * grown (shape_of net depth headed) 0 p)
        (λ p u. ap (λ n. price p * n)
        (product-same (length net.loops)
        (λ l. cond (holds_of net l p) (bound_of (item_at l net.loops)) 1)
        (λ l. cond (holds_of net l p && nat_lt 0 (depth l)) (bound_of (item_at l net.loops)) 1)
        (λ l v. factor (holds_of net l p) (bound_of (item_at l net.loops)) (depth l) (deep l v))))
