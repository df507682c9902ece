-- Counts have room in 64 bits: none is above the value of the way out.
use Rattle.std.proofs.Common.{◌≡◌, ℕ, zero, suc, ◌+◌, ◌-◌, ◌*◌, ◌<◌, ◌≤◌, ◌==◌, Bool, true, false, List, ◌∷◌, sum_by, refl, sym, ap, ◌∙◌, subst, inl, inr, arith, mul-le-mul_left, mul-le-mul_right}
use Rattle.std.proofs.lemmas.Bool.{cases_lt}
use Rattle.std.proofs.lemmas.List.Sums.{sum_by-cons}
use Rattle.ipet_program.specs.Sums.{sum_to}
use Rattle.nest_solver.specs.Shape.{Shape, IsNest, IsUpTo}
use Rattle.nest_solver.specs.Solved.{weight_of}
use Rattle.nest_solver.specs.Counted.{bit, times, entered, IsCounted, IsPath, IsTurn, AreWays, put_back, with_ways}
use Rattle.nest_solver.proofs.Sums.{sum-none, sum-part}
use Rattle.nest_solver.proofs.Arcs.{goes_on-out}
use Rattle.nest_solver.proofs.Times.{bit_same, bit_other, dot-counted}
use Rattle.nest_solver.proofs.Along.{way-sum, stays-out, stays-turn, in-header}
use Rattle.nest_solver.proofs.Counting.{comes, counted-keeps, counted-value_most, each-way, ways-in, path-in}
use Rattle.nest_solver.proofs.PutBack.{AreTurned, ways-level, counted-level}

bit_most : (a b : ℕ) → bit (a == b) ≤ 1
bit_most a b = by (a == b)
  where
    by : (t : Bool) → bit t ≤ 1
    by true = omega arith
    by false = omega arith

-- The run ends once.
path-ends : (s : Shape) (weight : ℕ → ℕ) (path : List ℕ) (total : ℕ) → IsNest s → IsPath s weight path total →
    sum_by (comes s 0) path ≤ 1
path-ends s weight path total nest is =
    subst (λ (ks : List ℕ). sum_by (comes s 0) ks ≤ 1) (sym is.begins)
    (omega (
      arith,
      sum_by-cons (comes s 0) 1 is.more,
      bit_other (s.to 1) 0 (λ e. omega (arith, e, nest.begins)),
      way-sum s 0 is.round (λ p. 0 < p) 0 (stays-out s nest is.round) (comes s 0) 1
          (λ k u q on. bit_other (s.to k) 0 (λ e. omega (arith, e, (goes_on-out s 0 is.round k on).to)))
          (λ k u q c. bit_most (s.to k) 0)
          (s.to 1) is.more nest.begins is.way,
    ))

turn-stays : (s : Shape) (weight : ℕ → ℕ) (l turn : ℕ) (ks : List ℕ) → IsNest s → IsUpTo s.loops l →
    IsTurn s weight l turn ks → sum_by (comes s 0) ks ≡ 0
turn-stays s weight l turn ks nest u is =
    let stays = stays-turn s nest l is.round u is.rounds in
    let none : sum_by (comes s 0) ks ≤ 0 =
    way-sum s (s.depth l) is.round _ (s.header l) stays (comes s 0) 0
    (λ k v q on. bit_other (s.to k) 0 (λ e. omega (arith, e, (goes_on-out s (s.depth l) is.round k on).to)))
    (λ k v q c. omega (
      arith,
      bit_other (s.to k) 0 (λ e. omega (arith, e, stays.closed k v q c, nest.headers l u)),
    ))
    (s.header l) ks (in-header s nest l is.round u is.rounds) is.goes in omega (arith, none)

counted-ends : (s : Shape) (weight turns : ℕ → ℕ) (depth total : ℕ) (path : List ℕ) (ways : ℕ → List ℕ)
    (counts : ℕ → ℕ) → IsNest s → IsPath s weight path total → AreWays s weight turns depth ways →
    IsCounted s path ways counts → sum_to s.arcs (λ i. comes s 0 i * counts i) ≤ 1
counted-ends s weight turns depth total path ways counts nest is are counted =
    omega (
      arith,
      dot-counted s (comes s 0) path ways counts (path-in s weight path total nest is)
          (ways-in s weight turns depth ways are) counted,
      path-ends s weight path total nest is,
      sum-none s.loops (λ l. ((s.bound l - 1) * entered s counts l) * sum_by (comes s 0) (ways l))
          (λ l u. ap (λ n. ((s.bound l - 1) * entered s counts l) * n)
          (each-way s weight turns depth ways are (λ ks. sum_by (comes s 0) ks ≡ 0) l u refl
          (λ turn. turn-stays s weight l (turns l) (ways l) nest u turn)) ∙ omega arith),
    )

-- Where each place costs something, no count is above the value of the way out.
pub counted-small : (s : Shape) (value turns : ℕ → ℕ) (depth total : ℕ) (path : List ℕ) (ways : ℕ → List ℕ)
    (counts : ℕ → ℕ) → IsNest s → ((i : ℕ) → IsUpTo s.arcs i → 0 < s.to i → 1 ≤ value i) →
    IsPath s (weight_of s value turns) path total → AreWays s (weight_of s value turns) turns depth ways →
    IsCounted s path ways counts → (i : ℕ) → IsUpTo s.arcs i → counts i ≤ total
counted-small s value turns depth total path ways counts nest costly is are counted i u =
    elim (cases_lt 0 (s.to i)) as (λ _. counts i ≤ total) [
      | inl low ↦ omega (arith, one i u low)
      | inr none ↦ omega (
        arith,
        one 1 (omega (arith, nest.some)) nest.begins,
        (counted-keeps s (weight_of s value turns) turns depth total path ways counts nest is are counted).first,
        counted-ends s (weight_of s value turns) turns depth total path ways counts nest is are counted,
        sum-part s.arcs i (λ k. comes s 0 k * counts k) u,
        ap (λ b. b * counts i) (bit_same (s.to i) 0 (omega (arith, none))),
      )
    ]
  where
    one : (k : ℕ) → IsUpTo s.arcs k → 0 < s.to k → counts k ≤ total
    one k v low = omega (
      arith,
      counted-value_most s value turns depth total path ways counts nest is are counted,
      sum-part s.arcs k (λ j. value j * counts j) v,
      mul-le-mul_right (counts k) (costly k v low),
    )

-- So with the turns of a depth put back each count is at most that value, and each count in between too.
pub counted-room : (s : Shape) (value turns : ℕ → ℕ) (depth total : ℕ) (path : List ℕ) (ways turned : ℕ → List ℕ)
    (counts : ℕ → ℕ) → IsNest s → ((i : ℕ) → IsUpTo s.arcs i → 0 < s.to i → 1 ≤ value i) →
    IsPath s (weight_of s value turns) path total → AreWays s (weight_of s value turns) turns depth ways →
    AreTurned s (weight_of s value turns) turns (suc depth) turned → IsCounted s path ways counts →
    (i : ℕ) → IsUpTo s.arcs i → put_back s (entered s counts) turned counts i ≤ total
counted-room s value turns depth total path ways turned counts nest costly is are turn counted =
    counted-small s value turns (suc depth) total path (with_ways s (suc depth) ways turned)
    (put_back s (entered s counts) turned counts) nest costly is
    (ways-level s (weight_of s value turns) turns depth ways turned are turn)
    (counted-level s (weight_of s value turns) turns depth path ways turned counts nest are turn counted)

-- A sum's first part is at most the sum.
pub sum-front : (n m : ℕ) (f : ℕ → ℕ) → n ≤ m → sum_to n f ≤ sum_to m f
sum-front n zero f h = subst (λ (k : ℕ). sum_to k f ≤ sum_to 0 f) (let e : 0 ≡ n = omega (arith, h) in e) (omega arith)
sum-front n (suc m) f h =
    elim (cases_lt m n) as (λ _. sum_to n f ≤ sum_to m f + f (suc m)) [
      | inl high ↦ subst (λ (k : ℕ). sum_to k f ≤ sum_to m f + f (suc m))
          (let e : suc m ≡ n = omega (arith, h, high) in e) (omega arith)
      | inr low ↦ omega (arith, sum-front n m f low)
    ]
