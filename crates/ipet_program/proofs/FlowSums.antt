-- Flow through a set of places: what comes in goes out.
use Rattle.std.proofs.Common.{◌≡◌, ℕ, zero, suc, ◌-◌, ◌≤◌, Bool, true, false, length, get_or, Option, Some, None, refl, sym, ap, ◌∙◌, subst, arith}
use Rattle.std.specs.Prelude.{◌==◌}
use Rattle.std.proofs.lemmas.Bool.Decides.{nat_tests}
use Rattle.std.proofs.lemmas.Int.{ints}
use lib.IntN.{ℤ, pos, ◌+ℤ◌, ◌*ℤ◌}
use lib.Signed.{◌≤ℤ◌}
use Rattle.flow_net.specs.Nested.{HasNumbers}
use Rattle.flow_net.specs.Numbers.{item_at, IsNumberOf, IsNumberOrZero}
use Rattle.flow_net.specs.Scopes.{holds_of}
use Rattle.flow_net.specs.Visits.{target_of}
use Rattle.flow_net.specs.declared.net.LoopInst.{LoopInst}
use Rattle.flow_net.specs.declared.net.Net.{Net}
use Rattle.flow_net.specs.declared.net.NetArc.{NetArc}
use Rattle.flow_net.proofs.Numbers.{item_at-all, item_at-there}
use Rattle.ipet_program.specs.Counts.{IsMet}
use Rattle.ipet_program.specs.Rows.{comes_to, goes_from, loop_row_of, one_if, place_factor, place_row}
use Rattle.ipet_program.proofs.Terms.{row_sum-terms}
use Rattle.ipet_program.proofs.Totals.{total_to, total_to-none, total_to-one, total_to-order, total_to-same, total_to-scaled, total_to-sum}
use Rattle.ipet_program.proofs.Whole.{mul-order_left, sum-mul}

-- Counts that meet the rows of places and of loop instances.
pub record MeetsFlow (net : Net) (counts : ℕ → ℕ) : Type 0 where
  pub places : (place : ℕ) → IsNumberOf net.places place → IsMet counts (place_row net.arcs place)
  pub loops : (scope : ℕ) (inst : LoopInst) → item_at scope net.loops ≡ Some inst →
      IsMet counts (loop_row_of net.arcs (holds_of net scope) (Some inst))

-- The sum over the arcs of a factor times the count.
abbrev pub flow : Net → (ℕ → ℕ) → (ℕ → ℤ) → ℤ
flow net counts factor = total_to (length net.arcs) (λ j. factor j *ℤ pos (counts j))

abbrev pub into : Net → ℕ → ℕ → ℤ
into net place j = one_if (comes_to place (item_at j net.arcs))

abbrev pub out_of : Net → ℕ → ℕ → ℤ
out_of net place j = one_if (goes_from place (item_at j net.arcs))

pub flow-same : (net : Net) (counts : ℕ → ℕ) (f g : ℕ → ℤ) →
    ((j : ℕ) → 1 ≤ j → j ≤ length net.arcs → f j ≡ g j) → flow net counts f ≡ flow net counts g
flow-same net counts f g h =
    total_to-same (λ j. f j *ℤ pos (counts j)) (λ j. g j *ℤ pos (counts j)) (length net.arcs)
    (λ j low high. ap (λ (z : ℤ). z *ℤ pos (counts j)) (h j low high))

pub flow-order : (net : Net) (counts : ℕ → ℕ) (f g : ℕ → ℤ) →
    ((j : ℕ) → 1 ≤ j → j ≤ length net.arcs → f j ≤ℤ g j) → flow net counts f ≤ℤ flow net counts g
flow-order net counts f g h =
    total_to-order (λ j. f j *ℤ pos (counts j)) (λ j. g j *ℤ pos (counts j)) (length net.arcs)
    (λ j low high. mul-order_left (counts j) (f j) (g j) (h j low high))

pub flow-sum : (net : Net) (counts : ℕ → ℕ) (f g : ℕ → ℤ) →
    flow net counts (λ j. f j +ℤ g j) ≡ flow net counts f +ℤ flow net counts g
flow-sum net counts f g =
    total_to-same (λ j. (f j +ℤ g j) *ℤ pos (counts j)) (λ j. f j *ℤ pos (counts j) +ℤ g j *ℤ pos (counts j))
    (length net.arcs) (λ j low high. sum-mul (pos (counts j)) (f j) (g j))
    ∙ total_to-sum (λ j. f j *ℤ pos (counts j)) (λ j. g j *ℤ pos (counts j)) (length net.arcs)

-- A place is left as often as it is come to.
pub flow-kept : (net : Net) (counts : ℕ → ℕ) → MeetsFlow net counts →
    (place : ℕ) → IsNumberOf net.places place →
    flow net counts (into net place) ≡ flow net counts (out_of net place)
flow-kept net counts meets place number =
    let row : flow net counts (place_factor net.arcs place) ≡ pos 0 =
    sym (row_sum-terms counts (place_factor net.arcs place) (length net.arcs)) ∙ meets.places place number in
    let apart = flow-same net counts (into net place) (λ j. place_factor net.arcs place j +ℤ out_of net place j)
    (λ j low high. omega (arith, ints)) in
    let sum = flow-sum net counts (place_factor net.arcs place) (out_of net place) in
    omega (arith, ints)

-- Sums over places and arcs are exchanged.
total_to-swap : (f : ℕ → ℕ → ℤ) (m n : ℕ) →
    total_to m (λ q. total_to n (λ j. f q j)) ≡ total_to n (λ j. total_to m (λ q. f q j))
total_to-swap f zero n = sym (total_to-none (λ j. pos 0) n (λ j low high. refl))
total_to-swap f (suc m) n =
    let rest = total_to-swap f m n in
    let sum = total_to-sum (λ j. total_to m (λ q. f q j)) (λ j. f (suc m) j) n in
    omega (arith, ints)

-- Of all places one alone counts.
pick-test : (mark : ℕ → ℤ) (v : ℕ) (x : ℤ) (q : ℕ) → (q ≡ v → ⊥) →
    mark q *ℤ (one_if (v == q) *ℤ x) ≡ pos 0
pick-test mark v x q differ =
    let e : (v == q) ≡ false = grind (arith, nat_tests) in
    let zeroed : pos 0 *ℤ x ≡ pos 0 = omega (arith, ints) in
    let whole : mark q *ℤ pos 0 ≡ pos 0 = omega (arith, ints) in
    ap (λ (test : Bool). mark q *ℤ (one_if test *ℤ x)) e ∙ ap (λ (z : ℤ). mark q *ℤ z) zeroed ∙ whole

pick-own : (mark : ℕ → ℤ) (v : ℕ) (x : ℤ) → mark v *ℤ (one_if (v == v) *ℤ x) ≡ mark v *ℤ x
pick-own mark v x =
    let e : (v == v) ≡ true = grind (arith, nat_tests) in
    let one : pos 1 *ℤ x ≡ x = omega (arith, ints) in
    ap (λ (test : Bool). mark v *ℤ (one_if test *ℤ x)) e ∙ ap (λ (z : ℤ). mark v *ℤ z) one

pick : (places : ℕ) (mark : ℕ → ℤ) → mark 0 ≡ pos 0 → (v : ℕ) (x : ℤ) → v ≤ places →
    total_to places (λ q. mark q *ℤ (one_if (v == q) *ℤ x)) ≡ mark v *ℤ x
pick places mark none zero x high =
    total_to-none (λ q. mark q *ℤ (one_if (0 == q) *ℤ x)) places
    (λ q low up. pick-test mark 0 x q (λ e. omega (arith, low, e)))
    ∙ (
    let e : mark 0 *ℤ x ≡ pos 0 *ℤ x = ap (λ (z : ℤ). z *ℤ x) none in
    omega (arith, ints)
    )
pick places mark none (suc v) x high =
    total_to-one (λ q. mark q *ℤ (one_if (suc v == q) *ℤ x)) places (suc v) (omega arith) high
    (λ q differ. pick-test mark (suc v) x q differ)
    ∙ pick-own mark (suc v) x

abbrev pub source_of : Option NetArc → ℕ
source_of None = 0
source_of (Some arc) = arc.from

abbrev no_arc : NetArc
no_arc = record { from = 0; to = 0 }

-- Marks of places, summed over what comes to each place, are marks of the arcs' targets.
pub marks-into : (net : Net) → HasNumbers net → (counts : ℕ → ℕ) (mark : ℕ → ℤ) → mark 0 ≡ pos 0 →
    total_to (length net.places) (λ q. mark q *ℤ flow net counts (into net q))
    ≡ flow net counts (λ j. mark (target_of (item_at j net.arcs)))
marks-into net numbers counts mark none =
    total_to-same (λ q. mark q *ℤ flow net counts (into net q))
    (λ q. total_to (length net.arcs) (λ j. mark q *ℤ (into net q j *ℤ pos (counts j)))) (length net.places)
    (λ q low high. sym (total_to-scaled (mark q) (λ j. into net q j *ℤ pos (counts j)) (length net.arcs)))
    ∙ total_to-swap (λ q j. mark q *ℤ (into net q j *ℤ pos (counts j))) (length net.places) (length net.arcs)
    ∙ total_to-same
    (λ j. total_to (length net.places) (λ q. mark q *ℤ (into net q j *ℤ pos (counts j))))
    (λ j. mark (target_of (item_at j net.arcs)) *ℤ pos (counts j)) (length net.arcs)
    (λ j low high.
    let arc = get_or net.arcs (j - 1) no_arc in
    let there = item_at-there net.arcs j no_arc (record { from_one = low; within = high }) in
    subst (λ (found : Option NetArc). total_to (length net.places)
    (λ q. mark q *ℤ (one_if (comes_to q found) *ℤ pos (counts j))) ≡ mark (target_of found) *ℤ pos (counts j))
    (sym there)
    (pick (length net.places) mark none arc.to (pos (counts j))
    (item_at-all (λ (a : NetArc). IsNumberOrZero net.places a.to) net.arcs j arc numbers.ends there)))

marks-out_of : (net : Net) → HasNumbers net → (counts : ℕ → ℕ) (mark : ℕ → ℤ) → mark 0 ≡ pos 0 →
    total_to (length net.places) (λ q. mark q *ℤ flow net counts (out_of net q))
    ≡ flow net counts (λ j. mark (source_of (item_at j net.arcs)))
marks-out_of net numbers counts mark none =
    total_to-same (λ q. mark q *ℤ flow net counts (out_of net q))
    (λ q. total_to (length net.arcs) (λ j. mark q *ℤ (out_of net q j *ℤ pos (counts j)))) (length net.places)
    (λ q low high. sym (total_to-scaled (mark q) (λ j. out_of net q j *ℤ pos (counts j)) (length net.arcs)))
    ∙ total_to-swap (λ q j. mark q *ℤ (out_of net q j *ℤ pos (counts j))) (length net.places) (length net.arcs)
    ∙ total_to-same
    (λ j. total_to (length net.places) (λ q. mark q *ℤ (out_of net q j *ℤ pos (counts j))))
    (λ j. mark (source_of (item_at j net.arcs)) *ℤ pos (counts j)) (length net.arcs)
    (λ j low high.
    let arc = get_or net.arcs (j - 1) no_arc in
    let there = item_at-there net.arcs j no_arc (record { from_one = low; within = high }) in
    subst (λ (found : Option NetArc). total_to (length net.places)
    (λ q. mark q *ℤ (one_if (goes_from q found) *ℤ pos (counts j))) ≡ mark (source_of found) *ℤ pos (counts j))
    (sym there)
    (pick (length net.places) mark none arc.from (pos (counts j))
    (item_at-all (λ (a : NetArc). IsNumberOrZero net.places a.from) net.arcs j arc numbers.starts there)))

-- What comes to marked places is what leaves them.
marks-kept : (net : Net) → HasNumbers net → (counts : ℕ → ℕ) →
    MeetsFlow net counts → (mark : ℕ → ℤ) → mark 0 ≡ pos 0 →
    flow net counts (λ j. mark (target_of (item_at j net.arcs)))
    ≡ flow net counts (λ j. mark (source_of (item_at j net.arcs)))
marks-kept net numbers counts meets mark none =
    sym (marks-into net numbers counts mark none)
    ∙ total_to-same (λ q. mark q *ℤ flow net counts (into net q)) (λ q. mark q *ℤ flow net counts (out_of net q))
    (length net.places)
    (λ q low high. ap (λ (z : ℤ). mark q *ℤ z)
    (flow-kept net counts meets q (record { from_one = low; within = high })))
    ∙ marks-out_of net numbers counts mark none

-- A cut: where for each arc one factor and the mark of its target are together at most the mark of its source and
-- another factor, the sum with the one is at most the sum with the other.
pub cut : (net : Net) → HasNumbers net → (counts : ℕ → ℕ) →
    MeetsFlow net counts → (mark : ℕ → ℤ) → mark 0 ≡ pos 0 → (less more : ℕ → ℤ) →
    ((j : ℕ) (arc : NetArc) → item_at j net.arcs ≡ Some arc →
    (less j +ℤ mark arc.to) ≤ℤ (mark arc.from +ℤ more j)) →
    flow net counts less ≤ℤ flow net counts more
cut net numbers counts meets mark none less more each =
    let kept = marks-kept net numbers counts meets mark none in
    let left = flow-sum net counts less (λ j. mark (target_of (item_at j net.arcs))) in
    let right = flow-sum net counts (λ j. mark (source_of (item_at j net.arcs))) more in
    let order = flow-order net counts (λ j. less j +ℤ mark (target_of (item_at j net.arcs)))
    (λ j. mark (source_of (item_at j net.arcs)) +ℤ more j)
    (λ j low high.
    let arc = get_or net.arcs (j - 1) no_arc in
    let there = item_at-there net.arcs j no_arc (record { from_one = low; within = high }) in
    subst (λ (found : Option NetArc). (less j +ℤ mark (target_of found)) ≤ℤ (mark (source_of found) +ℤ more j))
    (sym there) (each j arc there)) in
    omega (arith, ints)
