-- The turn of one loop is put back by a walk from its header.
use Rattle.std.proofs.lemmas.Bool.Decides.{nat_tests}
use Rattle.nest_solver.specs.Nets.{entry, value_at_end}
use Rattle.std.proofs.Common.{◌≡◌, ℕ, zero, suc, ◌+◌, ◌-◌, ◌*◌, ◌<◌, ◌≤◌, ◌==◌, ◌&&◌, not, Bool, true, false, length, set, mul_comm, List, [], ◌∷◌, refl, sym, ap, ◌∙◌, subst, inl, inr, arith}
use Rattle.ipet_program.specs.Programs.{crude_limit}
use Rattle.ipet_program.specs.Sums.{sum_to}
use Rattle.nest_solver.specs.Shape.{Shape, IsNest, IsUpTo, is_back, is_entering, target}
use Rattle.nest_solver.specs.Ways.{IsRound, IsSwept, IsWay}
use Rattle.nest_solver.specs.Solved.{IsSolved, weight_of}
use Rattle.nest_solver.specs.Counted.{IsTurn, bit, entered, enters, times}
use Rattle.nest_solver.specs.Putting.{IsCountedTo, IsPutting, HasRoomFor}
use Rattle.nest_solver.specs.Walks.{Follows, IsWalkable, IsWalked}
use Rattle.nest_solver.specs.Begun.{IsAtTurn, IsBegun, IsReady, IsSettled}
use Rattle.nest_solver.proofs.Facing.{turned-again}
use Rattle.nest_solver.proofs.Following.{counts-pass, follows-some, follows-way}
use Rattle.nest_solver.proofs.Putting.{counted-next, putting-more, putting-room}
use Rattle.nest_solver.proofs.Levels.{levels-swept}
use Rattle.std.proofs.lemmas.Bool.{cases_Bool, cases_lt}
use Rattle.std.proofs.Common.{mul-le-mul_right}
use Rattle.nest_solver.specs.Groups.{AreGrouped}
use Rattle.nest_solver.proofs.Sums.{sum-le}
use Rattle.nest_solver.proofs.Arcs.{entering-of}
use Rattle.nest_solver.proofs.Along.{enters-none}
use Rattle.nest_solver.proofs.Counting.{counted-value_most}

-- The arcs followed from the header are the loop's turn.
followed-turn : (s : Shape) (value turns : ℕ → ℕ) (path : List ℕ) (total depth : ℕ) (best choice start : ℕ → ℕ)
    (k : ℕ) (way : List ℕ) → IsNest s → IsBegun s value turns path total depth best choice start → IsUpTo s.loops k →
    s.depth k ≡ depth → 0 < best (s.header k) → Follows s depth choice (s.header k) way →
    IsTurn s (weight_of s value turns) k (turns k) way
followed-turn s value turns path total depth best choice start k way nest begun u deep some follows =
    let found = follows-way s depth begun.round (weight_of s value turns) best choice (s.header k) way begun.swept some
    follows in
    record {
      round = begun.round;
      rounds = subst (λ (d : ℕ). IsRound s d begun.round) (sym deep) begun.rounds;
      goes = subst (λ (d : ℕ). IsWay s d begun.round (s.header k) way) (sym deep) found.goes;
      weighs = omega (
        arith,
        found.weighs,
        turned-again s value turns begun.round best choice depth nest
            (begun.settled.solved depth begun.deep) begun.rounds begun.swept k u deep,
      );
    }

-- Levels are counted from 0 in one and from 1 in the other.
module _ (s : Shape) (value turns : ℕ → ℕ) (path : List ℕ) (total depth k : ℕ) (best choice often start counts : ℕ → ℕ)
    (nest : IsNest s) (u : IsUpTo s.loops k) (deep : s.depth k ≡ depth)
    (at : IsAtTurn s value turns path total depth k best choice often start counts) where
  split : depth ≡ suc (depth - 1)
  split = omega (arith, at.begun.deep)

  room-of : (way : List ℕ) → IsTurn s (weight_of s value turns) k (turns k) way →
      HasRoomFor s counts ((s.bound k - 1) * entered s start k) total way
  room-of way turn =
      putting-room s value turns start counts (depth - 1) k total path way nest at.begun.settled.costly
      at.begun.settled.out at.begun.counted (subst (IsSolved s value turns) split (at.begun.settled.solved depth at.begun.deep))
      (subst (λ (d : ℕ). IsPutting s (weight_of s value turns) turns start d k counts) split at.putting) u
      (deep ∙ split) turn

  turn_of : (way : List ℕ) → 0 < best (s.header k) → Follows s depth choice (s.header k) way →
      IsTurn s (weight_of s value turns) k (turns k) way
  turn_of way some follows =
      followed-turn s value turns path total depth best choice start k way nest at.begun u deep some follows

  -- The product doesn't wrap.
  pub turn-often : 0 < best (s.header k) → (s.bound k - 1) * often k ≤ crude_limit
  turn-often some =
      let way = follows-some s depth at.begun.round (weight_of s value turns) best choice (s.header k) nest at.begun.swept
      some in
      by way.0 way.1
    where
      by : (way : List ℕ) → Follows s depth choice (s.header k) way → (s.bound k - 1) * often k ≤ crude_limit
      by [] f = absurd f
      by (i ∷ more) f =
          omega (
            arith,
            ap (λ n. (s.bound k - 1) * n) (at.enters k u),
            (room-of (i ∷ more) (turn_of (i ∷ more) some f)).some
                (λ e. grind (arith, e)),
            at.begun.settled.low,
          )

  -- The walk has room.
  pub turn-walkable : 0 < best (s.header k) → IsWalkable s depth choice (s.header k) ((s.bound k - 1) * often k) counts
  turn-walkable some = record {
    round = at.begun.round;
    weight = weight_of s value turns;
    best = best;
    swept = at.begun.swept;
    known = some;
    room = λ way follows i v. omega (
      arith,
      (room-of way (turn_of way some follows)).each i v,
      ap (λ n. ((s.bound k - 1) * n) * times way i) (at.enters k u),
      at.begun.settled.low,
    );
  }

  -- And puts the turn back.
  pub turn-walked : (more : ℕ → ℕ) (next : ℕ) → 0 < best (s.header k) →
      IsWalked s depth choice (s.header k) ((s.bound k - 1) * often k) counts more → next < k →
      ((l : ℕ) → IsUpTo s.loops l → s.depth l ≡ depth → next < l → l < k → ⊥) →
      IsPutting s (weight_of s value turns) turns start depth next more
  turn-walked more next some walked less between =
      putting-more s (weight_of s value turns) turns start counts more depth k next walked.way at.putting u deep
      (inr (turn_of walked.way some walked.follows))
      (λ i v. walked.counts i v ∙ ap (λ n. counts i + ((s.bound k - 1) * n) * times walked.way i) (at.enters k u))
      less between

  -- A loop without a turn is passed over.
  pub turn-none : (next : ℕ) → best (s.header k) ≡ 0 → next < k →
      ((l : ℕ) → IsUpTo s.loops l → s.depth l ≡ depth → next < l → l < k → ⊥) →
      IsPutting s (weight_of s value turns) turns start depth next counts
  turn-none next none less between =
      putting-more s (weight_of s value turns) turns start counts counts depth k next [] at.putting u deep
      (inl (
        refl,
        omega (
          arith,
          none,
          turned-again s value turns at.begun.round best choice depth nest (at.begun.settled.solved depth at.begun.deep)
              at.begun.rounds at.begun.swept k u deep,
        ),
      ))
      (λ i v. omega arith) less between

-- ---- How often loops are entered.
-- A table in which the loop that an arc enters came so many times more.
pub enters-put : (s : Shape) (table : List ℕ) (i at more l : ℕ) → at ≡ target s i → (target s i ≡ 0 → ⊥) →
    is_back s i ≡ false → at < length table →
    entry (set table at (entry table at + more)) l ≡ entry table l + bit (enters s l i) * more
enters-put s table i at more l is some forward low =
    counts-pass table at at more refl low l
    ∙ ap (λ n. entry table l + n)
    (mul_comm more (bit (at == l))
    ∙ ap (λ b. b * more)
    (ap (λ (t : ℕ). bit (t == l)) is ∙ sym (ap (λ (b : Bool). bit (b && (target s i == l))) entering)))
  where
    by : (t : ℕ) (h : Bool) → (t ≡ 0 → ⊥) → (not (t == 0) && h) ≡ false → (not (t == 0) && not h) ≡ true
    by t true n e = grind (arith, nat_tests)
    by t false n e = grind (arith, nat_tests)

    entering : is_entering s i ≡ true
    entering = by (target s i) (s.holds (target s i) (s.from i)) some forward

pub sum-next : (n : ℕ) (f : ℕ → ℕ) → 1 ≤ n → sum_to n f ≡ sum_to (n - 1) f + f n
sum-next zero f low = absurd (omega (arith, low))
sum-next (suc n) f low = ap (λ k. sum_to k f + f (suc n)) (let e : n ≡ suc n - 1 = omega arith in e)

-- The counts with which a level begins enter no loop more often than the total.
pub entered-small : (s : Shape) (value turns : ℕ → ℕ) (path : List ℕ) (total depth l : ℕ) (counts : ℕ → ℕ) → IsNest s →
    IsSettled s value turns path total → IsCountedTo s (weight_of s value turns) turns path depth counts →
    IsUpTo s.loops l → entered s counts l ≤ total
entered-small s value turns path total depth l counts nest settled counted u =
    omega (
      arith,
      counted-value_most s value turns depth total path counted.ways counts nest settled.out counted.are counted.counted,
      sum-le s.arcs (λ i. bit (enters s l i) * counts i) (λ i. value i * counts i)
          (λ i v. mul-le-mul_right (counts i) (one i v)),
    )
  where
    one : (i : ℕ) → IsUpTo s.arcs i → bit (enters s l i) ≤ value i
    one i v = elim (cases_Bool (is_entering s i)) as (λ _. bit (enters s l i) ≤ value i) [
      | inr out ↦ omega (arith, enters-none s l i out)
      | inl into ↦ let of_loop = entering-of s nest i into in
          omega (
            arith,
            settled.costly i v (omega (arith, of_loop.header, nest.headers (target s i) of_loop.up)),
            bit_most (enters s l i),
          )
    ]
      where
        bit_most : (t : Bool) → bit t ≤ 1
        bit_most true = omega arith
        bit_most false = omega arith

-- ---- The loops of a depth, by falling numbers.
pub record IsChain (s : Shape) (depth : ℕ) (k next : ℕ) : Type 0 where
  pub less : next < k
  pub deep : 0 < next → s.depth next ≡ depth
  pub between : (l : ℕ) → IsUpTo s.loops l → s.depth l ≡ depth → next < l → l < k → ⊥

pub chain-on : (s : Shape) (depth k : ℕ) (heads next : ℕ → ℕ) → AreGrouped s.depth (s.loops + 1) heads next →
    IsUpTo s.loops k → s.depth k ≡ depth → IsChain s depth k (next k)
chain-on s depth k heads next chains u deep = record {
  less = chains.next_less k (omega (arith, u)) (omega (arith, u));
  deep = λ some. chains.next_key k (omega (arith, u)) (omega (arith, u)) some ∙ deep;
  between = λ l v e above below. omega (
    arith,
    chains.next_most k l (omega (arith, u)) (omega (arith, u)) (omega (arith, v)) below (e ∙ sym deep),
    above,
  );
}

pub chain-start : (s : Shape) (depth : ℕ) (heads next : ℕ → ℕ) → AreGrouped s.depth (s.loops + 1) heads next →
    (0 < heads depth → IsUpTo s.loops (heads depth) × (s.depth (heads depth) ≡ depth))
    × ((l : ℕ) → IsUpTo s.loops l → s.depth l ≡ depth → l ≤ heads depth) × (heads depth ≤ s.loops)
chain-start s depth heads next chains = (
  λ some. (omega (arith, some, chains.first_low depth some), chains.first_key depth some),
  λ l u e. subst (λ (d : ℕ). l ≤ heads d) e (chains.first_most l (omega (arith, u)) (omega (arith, u))),
  elim (cases_lt 0 (heads depth)) as (λ _. heads depth ≤ s.loops) [
    | inl some ↦ omega (arith, chains.first_low depth some)
    | inr none ↦ omega (arith, none)
  ],
)

-- With no loop of the depth left the level is done.
pub level-done : (s : Shape) (value turns : ℕ → ℕ) (path : List ℕ) (total depth : ℕ) (best choice start counts : ℕ → ℕ) →
    IsNest s → IsBegun s value turns path total depth best choice start →
    IsPutting s (weight_of s value turns) turns start depth 0 counts →
    IsCountedTo s (weight_of s value turns) turns path depth counts
level-done s value turns path total depth best choice start counts nest begun putting =
    let deep : depth ≡ suc (depth - 1) = omega (arith, begun.deep) in
    subst (λ (d : ℕ). IsCountedTo s (weight_of s value turns) turns path d counts) (sym deep)
    (counted-next s (weight_of s value turns) turns start counts (depth - 1) path nest begun.counted
    (subst (λ (d : ℕ). IsPutting s (weight_of s value turns) turns start d 0 counts) deep putting))

-- A level begins where all loops are solved and the lesser depths are put back.
pub begun-from : (s : Shape) (price weight turns : ℕ → ℕ) (path : List ℕ) (total depth : ℕ)
    (round best choice start : ℕ → ℕ) → 0 < depth → IsReady s price weight turns path total (depth - 1) start →
    IsRound s depth round → IsSwept s depth round weight best choice →
    IsBegun s (value_at_end s price) turns path total depth best choice start
begun-from s price weight turns path total depth round best choice start some ready rounds swept =
    record {
      settled = ready.settled;
      deep = some;
      counted = ready.counted;
      round = round;
      rounds = rounds;
      swept = levels-swept s price weight turns round best choice depth 1 ready.levels swept;
    }
