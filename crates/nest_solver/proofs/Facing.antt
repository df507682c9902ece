-- What changes from level to level in the tables of weights and turns, and how large their numbers get.
use Rattle.std.proofs.Common.{◌≡◌, ℕ, zero, suc, ◌+◌, ◌-◌, ◌*◌, ◌^◌, ◌<◌, ◌≤◌, ◌==◌, ◌&&◌, nat_lt, cond, Bool, true, false, refl, sym, ap, ◌∙◌, subst, inl, inr, arith}
use Rattle.std.proofs.lemmas.Bool.{cases_eq, cases_lt, cases_Bool}
use Rattle.std.proofs.lemmas.Bool.Decides.{nat_tests}
use Rattle.nest_solver.specs.Shape.{Shape, IsNest, IsUpTo, target, is_entering}
use Rattle.nest_solver.specs.Nets.{value_at_end}
use Rattle.nest_solver.specs.Ways.{IsRound, IsSwept}
use Rattle.nest_solver.specs.Solved.{weight_of, IsSolved, AreSolved, AreTurns, base_worth, lifted}
use Rattle.nest_solver.specs.Counted.{bit}
use Rattle.nest_solver.specs.Crude.{IsCrude}
use Rattle.nest_solver.specs.LeafWeights.{AreSmall}
use Rattle.nest_solver.proofs.Sums.{sum-part}
use Rattle.nest_solver.proofs.Arcs.{entering-of}
use Rattle.nest_solver.proofs.Solving.{paid-some, paid-none}
use Rattle.nest_solver.proofs.Forward.{swept-same, swept-small}
use Rattle.nest_solver.proofs.Worths.{base-zero, base-live, base-dead, lift-small}
use Rattle.nest_solver.proofs.Priced.{priced, carried}
use Rattle.nest_solver.proofs.Room.{room-level, fits-end, priced_all, in_one}

-- ---- A level swept again.
-- The loop of a depth round a place is one.
pub round-same : (s : Shape) (depth : ℕ) (one other : ℕ → ℕ) (p : ℕ) → IsRound s depth one → IsRound s depth other →
    one p ≡ other p
round-same s depth one other p first again =
    elim (cases_lt 0 (one p)) as (λ _. one p ≡ other p) [
      | inl some ↦ let here = first.here p some in sym (again.all (one p) p here.0 here.1 here.2)
      | inr none ↦ elim (cases_lt 0 (other p)) as (λ _. one p ≡ other p) [
        | inl some ↦ let here = again.here p some in first.all (other p) p here.0 here.1 here.2
        | inr also ↦ omega (arith, none, also)
      ]
    ]

pub turned-again : (s : Shape) (value turns round best choice : ℕ → ℕ) (depth : ℕ) → IsNest s →
    IsSolved s value turns depth → IsRound s depth round →
    IsSwept s depth round (weight_of s value turns) best choice →
    (l : ℕ) → IsUpTo s.loops l → s.depth l ≡ depth → turns l ≡ best (s.header l) - 1
turned-again s value turns round best choice depth nest solved rounds swept l u deep =
    let same : solved.round ≡ round =
    λ i p. round-same s depth solved.round round p solved.rounds rounds i in
    let again : IsSwept s depth round (weight_of s value turns) solved.best solved.choice =
    subst (λ (r : ℕ → ℕ). IsSwept s depth r (weight_of s value turns) solved.best solved.choice) same solved.swept in
    solved.turned l u deep
    ∙ ap (λ n. n - 1)
    (swept-same s depth round (weight_of s value turns) solved.best solved.choice best choice nest again swept
    (s.header l))

-- ---- Numbers.
-- What a loop carries, and its turn, are at most the limit.
pub turn-carried : (s : Shape) (price turns : ℕ → ℕ) (depth limit l : ℕ) → IsNest s → IsCrude s price limit →
    AreSolved s (value_at_end s price) turns (suc depth) → IsUpTo s.loops l → depth < s.depth l →
    (s.bound l - 1) * turns l ≤ limit
turn-carried s price turns depth limit l nest crude solved u deep =
    omega (
      arith,
      sum-part s.loops l (λ k. bit ((s.header k == s.header l) && nat_lt depth (s.depth k)) * carried s turns k) u,
      ap (λ b. b * carried s turns l) (here (s.header l) (s.depth l) deep),
      in_one s (λ p. true) (priced s price turns depth) (s.header l) (nest.headers l u) refl,
      priced_all s (value_at_end s price) price turns limit depth nest (fits-end s price) crude solved,
    )
  where
    here : (h deeper : ℕ) → depth < deeper → bit ((h == h) && nat_lt depth deeper) ≡ 1
    here h deeper less = grind (arith, nat_tests)

pub turn-small : (s : Shape) (price turns : ℕ → ℕ) (depth limit l : ℕ) → IsNest s → IsCrude s price limit →
    AreSolved s (value_at_end s price) turns (suc depth) → IsUpTo s.loops l → s.depth l ≡ suc depth →
    turns l ≤ limit
turn-small s price turns depth limit l nest crude solved u deep =
    let this = solved (suc depth) (omega arith) in
    let room = room-level s price turns this.round (suc depth) limit nest crude
    (λ e high. solved e (omega (arith, high))) this.rounds in
    omega (
      arith,
      this.turned l u deep,
      swept-small s (suc depth) limit this.round (weight_of s (value_at_end s price) turns) this.best this.choice nest
          this.swept room (s.header l),
      room.small (s.header l),
    )

-- The worths of a base, and how far each depth may raise them.
pub base-low : (s : Shape) (rank best : ℕ → ℕ) (p : ℕ) → ((q : ℕ) → best q ≤ 2 ^ 63) →
    base_worth s (2 ^ 63) rank best p ≤ 2 ^ 63 * (s.arcs + 2 + 0)
base-low s rank best p short =
    elim (cases_lt 0 p) as (λ _. base_worth s (2 ^ 63) rank best p ≤ 2 ^ 63 * (s.arcs + 2 + 0)) [
      | inr none ↦ let z : p ≡ 0 = omega (arith, none) in
          omega (arith, ap (base_worth s (2 ^ 63) rank best) z, base-zero s (2 ^ 63) rank best)
      | inl low ↦ elim (cases_lt 0 (best p))
          as (λ _. base_worth s (2 ^ 63) rank best p ≤ 2 ^ 63 * (s.arcs + 2 + 0)) [
            | inl some ↦ omega (arith, base-live s (2 ^ 63) rank best p low some, short p)
            | inr dead ↦ omega (arith, base-dead s (2 ^ 63) rank best p low (omega (arith, dead)))
          ]
    ]

pub lift-low : (s : Shape) (round best turns worth : ℕ → ℕ) (depth p : ℕ) → ((q : ℕ) → best q ≤ 2 ^ 63) →
    ((q : ℕ) → worth q ≤ 2 ^ 63 * (s.arcs + 2 + depth)) →
    lifted s round best turns worth p ≤ 2 ^ 63 * (s.arcs + 2 + suc depth)
lift-low s round best turns worth depth p short small =
    omega (
      arith,
      lift-small s round best turns worth (2 ^ 63 * (s.arcs + 2 + depth)) (2 ^ 63 - 1) small
          (λ q. omega (arith, short q)) p,
    )

-- So the numbers of a leaf are small.
pub small-numbers : (s : Shape) (price turns worth : ℕ → ℕ) (depth limit total : ℕ) → IsNest s →
    IsCrude s price limit → AreSolved s (value_at_end s price) turns 1 → limit ≤ 2 ^ 63 - 1 → total ≤ limit →
    s.arcs ≤ 2 ^ 28 → depth ≤ 2 ^ 29 → ((q : ℕ) → worth q ≤ 2 ^ 63 * (s.arcs + 2 + depth)) →
    AreSmall s total worth turns
small-numbers s price turns worth depth limit total nest crude solved low shown few deep small =
    record {
      total_small = omega (arith, low, shown);
      worths = λ p. omega (arith, few, deep, small p);
      turned = λ l u. by l u (s.depth l) refl;
    }
  where
    by : (l : ℕ) → IsUpTo s.loops l → (d : ℕ) → s.depth l ≡ d → turns l * (s.bound l + 1) ≤ 2 ^ 120
    by l u zero e = absurd (omega (arith, e, nest.deep l u))
    by l u (suc d) e =
        let split : s.bound l ≡ (s.bound l - 1) + 1 = omega (arith, nest.bounds l u) in
        omega (
          arith,
          low,
          turn-carried s price turns 0 limit l nest crude solved u (nest.deep l u),
          turn-small s price turns d limit l nest crude (λ k high. solved k (omega (arith, high))) u e,
          ap (λ b. turns l * (b + 1)) split,
        )
