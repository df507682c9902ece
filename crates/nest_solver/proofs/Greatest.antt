-- The counts of the way out and of all turns have the greatest value, and there are such counts.
use Rattle.std.proofs.Common.{◌≡◌, ◌⊎◌, ◌↔◌, ℕ, zero, suc, ◌+◌, ◌-◌, ◌*◌, ◌<◌, ◌≤◌, nat_lt, Bool, true, false, List, [], ◌∷◌, length, refl, sym, ap, ◌∙◌, subst, inl, inr, arith}
use Rattle.std.proofs.lemmas.Bool.{cases_eq, cases_lt}
use Rattle.std.proofs.lemmas.Bool.Decides.{nat_tests}
use Rattle.std.proofs.lemmas.List.Sums.{sum_by-cons}
use Rattle.std.proofs.lemmas.Int.{ints}
use lib.IntN.{pos}
use lib.Signed.{◌≤ℤ◌}
use Rattle.flow_net.specs.Nested.{IsNested}
use Rattle.flow_net.specs.declared.net.Net.{Net}
use Rattle.ipet_program.specs.Counts.{IsFeasible, IsGreatest, value_of}
use Rattle.ipet_program.specs.Programs.{IsProgramOf}
use Rattle.ipet_program.specs.Sums.{sum_to}
use Rattle.ipet_program.specs.declared.program.Program.{Program}
use Rattle.nest_solver.specs.Nets.{HasDepths, HasHeaders, shape_of, value_at_end}
use Rattle.nest_solver.specs.Shape.{Shape, IsNest, IsUpTo, IsRising}
use Rattle.nest_solver.specs.Ways.{IsRound, IsSwept, IsWay}
use Rattle.nest_solver.specs.Solved.{weight_of, IsSolved, AreSolved, IsDual, base_worth, lifted}
use Rattle.nest_solver.specs.Counted.{bit, times, entered, IsCounted, IsPath, IsTurn, AreWays, put_back, with_ways}
use Rattle.nest_solver.proofs.Sums.{sum-le, sum-part}
use Rattle.nest_solver.proofs.Forward.{entry-live, longest}
use Rattle.nest_solver.proofs.Worths.{base-dual, base-live, base-zero, lift-entry, lift-zero}
use Rattle.nest_solver.proofs.Lifting.{lift-dual}
use Rattle.nest_solver.proofs.Counting.{Keeps, counted-keeps, counted-value}
use Rattle.nest_solver.proofs.PutBack.{AreTurned, counted-start, ways-start, ways-level, counted-level}
use Rattle.nest_solver.proofs.Weak.{weak}
use Rattle.nest_solver.proofs.NetShape.{shape-nest}
use Rattle.nest_solver.proofs.Rows.{feasible-kept, value-sum}

-- ---- Worths that show a total.
pub record IsShown (s : Shape) (value turns : ℕ → ℕ) (total : ℕ) : Type 0 where
  pub worth : ℕ → ℕ
  pub depth : ℕ
  pub all : (l : ℕ) → IsUpTo s.loops l → s.depth l ≤ depth
  pub dual : IsDual s (weight_of s value turns) turns depth worth
  pub is : total + worth 0 ≡ weight_of s value turns 1 + worth (s.to 1)

-- A number of a place that is at most the number of arcs: from how many arcs' sources it is behind.
small_rank : Shape → (ℕ → ℕ) → ℕ → ℕ
small_rank s rank p = sum_to s.arcs (λ i. bit (nat_lt (rank (s.from i)) (rank p)))

small_rises : (s : Shape) (rank : ℕ → ℕ) → IsRising s rank → IsRising s (small_rank s rank)
unfolding small_rank
small_rises s rank rises i u low to_low forward =
    more s.arcs i (λ j. bit (nat_lt (rank (s.from j)) (rank (s.from i))))
    (λ j. bit (nat_lt (rank (s.from j)) (rank (s.to i)))) u
    (λ j. bit_le (rank (s.from j)) (rank (s.from i)) (rank (s.to i)) (rises i u low to_low forward))
    (bit_less (rank (s.from i)) (rank (s.to i)) (rises i u low to_low forward))
  where
    bit_le : (a b c : ℕ) → b < c → bit (nat_lt a b) ≤ bit (nat_lt a c)
    bit_le a b c less = elim (cases_lt a b)
        as (λ _. bit (nat_lt a b) ≤ bit (nat_lt a c)) [
          | inl h ↦ grind (arith, nat_tests)
          | inr h ↦ grind (arith, nat_tests)
        ]

    bit_less : (b c : ℕ) → b < c → bit (nat_lt b b) < bit (nat_lt b c)
    bit_less b c less = grind (arith, nat_tests)

    more : (n k : ℕ) (f g : ℕ → ℕ) → IsUpTo n k → ((j : ℕ) → f j ≤ g j) → f k < g k → sum_to n f < sum_to n g
    more zero k f g v h less = absurd (omega (arith, v))
    more (suc n) k f g v h less = elim (cases_eq k (suc n)) as (λ _. sum_to n f + f (suc n) < sum_to n g + g (suc n)) [
      | inl e ↦ omega (arith, less, ap f e, ap g e, sum-le n f g (λ j w. h j))
      | inr differ ↦ omega (arith, more n k f g (omega (arith, v, differ)) h less, h (suc n))
    ]

small_most : (s : Shape) (rank : ℕ → ℕ) (p : ℕ) → small_rank s rank p ≤ s.arcs
unfolding small_rank
small_most s rank p = by s.arcs
  where
    bit_most : (t : Bool) → bit t ≤ 1
    bit_most true = omega arith
    bit_most false = omega arith

    by : (n : ℕ) → sum_to n (λ i. bit (nat_lt (rank (s.from i)) (rank p))) ≤ n
    by zero = omega arith
    by (suc n) = omega (arith, by n, bit_most (nat_lt (rank (s.from (suc n))) (rank p)))

-- Level by level the worths stay worths, and those of place 0 and of the first place stay what they are.
pub record IsLifted (s : Shape) (value turns base : ℕ → ℕ) (depth : ℕ) : Type 0 where
  pub worth : ℕ → ℕ
  pub dual : IsDual s (weight_of s value turns) turns depth worth
  pub outside : worth 0 ≡ base 0
  pub first : worth (s.to 1) ≡ base (s.to 1)

lifted-all : (s : Shape) (value turns base : ℕ → ℕ) → IsNest s → AreSolved s value turns 1 →
    IsDual s (weight_of s value turns) turns 0 base → (depth : ℕ) → IsLifted s value turns base depth
lifted-all s value turns base nest solved dual zero =
    record { worth = base; dual = dual; outside = refl; first = refl }
lifted-all s value turns base nest solved dual (suc depth) =
    let before = lifted-all s value turns base nest solved dual depth in
    let this = solved (suc depth) (omega arith) in
    record {
      worth = lifted s this.round this.best turns before.worth;
      dual = lift-dual s (weight_of s value turns) turns before.worth depth this.round this.best this.choice nest
          before.dual this.rounds this.swept this.turned;
      outside = lift-zero s (suc depth) this.round this.best turns before.worth nest this.rounds ∙ before.outside;
      first = lift-entry s (suc depth) this.round this.best turns before.worth nest this.rounds this.turned ∙ before.first;
    }

pub shown-total : (s : Shape) (value turns round best choice : ℕ → ℕ) → IsNest s → AreSolved s value turns 1 →
    IsSwept s 0 round (weight_of s value turns) best choice →
    IsShown s value turns (weight_of s value turns 1 + best (s.to 1) - 1)
shown-total s value turns round best choice nest solved swept =
    let step = sum_to s.arcs (weight_of s value turns) in
    let rank = small_rank s nest.rank in
    let base = base_worth s step rank best in
    let live = entry-live s round (weight_of s value turns) best choice nest swept in
    let last = lifted-all s value turns base nest solved
    (base-dual s step rank round (weight_of s value turns) best choice turns nest
    (small_rises s nest.rank nest.rises) (small_most s nest.rank)
    (λ i u. sum-part s.arcs i (weight_of s value turns) u) swept) (sum_to s.loops s.depth) in
    record {
      worth = last.worth;
      depth = sum_to s.loops s.depth;
      all = λ l u. sum-part s.loops l s.depth u;
      dual = last.dual;
      is = omega (
        arith,
        last.outside,
        last.first,
        base-zero s step rank best,
        base-live s step rank best (s.to 1) nest.begins live,
        live,
      );
    }

-- ---- Counts.
pub record HasCounts (s : Shape) (value turns : ℕ → ℕ) (path : List ℕ) (depth : ℕ) : Type 0 where
  pub ways : ℕ → List ℕ
  pub counts : ℕ → ℕ
  pub are : AreWays s (weight_of s value turns) turns depth ways
  pub counted : IsCounted s path ways counts

-- The turn of a loop of a level, where it has one.
pub record IsTurnAt (s : Shape) (weight turns : ℕ → ℕ) (depth l : ℕ) : Type 0 where
  pub way : List ℕ
  pub here : IsUpTo s.loops l → s.depth l ≡ depth → ((way ≡ []) × (turns l ≡ 0)) ⊎ IsTurn s weight l (turns l) way
  pub none : (s.depth l ≡ depth → ⊥) → way ≡ []

pub turn-at : (s : Shape) (value turns : ℕ → ℕ) (depth l : ℕ) → IsNest s → IsSolved s value turns depth →
    IsTurnAt s (weight_of s value turns) turns depth l
turn-at s value turns depth l nest solved =
    elim (cases_eq (s.depth l) depth) as (λ _. IsTurnAt s (weight_of s value turns) turns depth l) [
      | inr other ↦ record { way = []; here = λ u e. absurd (other e); none = λ n. refl }
      | inl e ↦ elim (cases_lt 0 (solved.best (s.header l)))
          as (λ _. IsTurnAt s (weight_of s value turns) turns depth l) [
            | inr nothing ↦ record {
              way = [];
              here = λ u f. inl (refl, omega (arith, solved.turned l u f, nothing));
              none = λ n. refl;
            }
            | inl some ↦
                let way = longest s depth solved.round (weight_of s value turns) solved.best solved.choice nest solved.swept
                (s.header l) some in
                record {
                  way = way.way;
                  here = λ u f. inr (record {
                    round = solved.round;
                    rounds = subst (λ (d : ℕ). IsRound s d solved.round) (sym f) solved.rounds;
                    goes = subst (λ (d : ℕ). IsWay s d solved.round (s.header l) way.way) (sym f) way.goes;
                    weighs = omega (arith, solved.turned l u f, way.weighs);
                  });
                  none = λ n. absurd (n e);
                }
          ]
    ]

counts-to : (s : Shape) (value turns : ℕ → ℕ) (path : List ℕ) → IsNest s → AreSolved s value turns 1 →
    (depth : ℕ) → HasCounts s value turns path depth
counts-to s value turns path nest solved zero =
    record {
      ways = λ l. [];
      counts = times path;
      are = ways-start s (weight_of s value turns) turns nest;
      counted = counted-start s path (times path) (λ i u. refl);
    }
counts-to s value turns path nest solved (suc depth) =
    let before = counts-to s value turns path nest solved depth in
    let turn : (l : ℕ) → IsTurnAt s (weight_of s value turns) turns (suc depth) l =
    λ l. turn-at s value turns (suc depth) l nest (solved (suc depth) (omega arith)) in
    let turned : AreTurned s (weight_of s value turns) turns (suc depth) (λ l. (turn l).way) =
    record { here = λ l u e. (turn l).here u e; none = λ l u n. (turn l).none n } in
    record {
      ways = with_ways s (suc depth) before.ways (λ l. (turn l).way);
      counts = put_back s (entered s before.counts) (λ l. (turn l).way) before.counts;
      are = ways-level s (weight_of s value turns) turns depth before.ways (λ l. (turn l).way) before.are turned;
      counted = counted-level s (weight_of s value turns) turns depth path before.ways (λ l. (turn l).way)
          before.counts nest before.are turned before.counted;
    }

pub path-at : (s : Shape) (value turns round best choice : ℕ → ℕ) → IsNest s → IsRound s 0 round →
    IsSwept s 0 round (weight_of s value turns) best choice →
    (path : List ℕ) × IsPath s (weight_of s value turns) path (weight_of s value turns 1 + best (s.to 1) - 1)
path-at s value turns round best choice nest rounds swept =
    let live = entry-live s round (weight_of s value turns) best choice nest swept in
    let way = longest s 0 round (weight_of s value turns) best choice nest swept (s.to 1) live in (
      1 ∷ way.way,
      record {
        more = way.way;
        round = round;
        begins = refl;
        rounds = rounds;
        way = way.goes;
        weighs = omega (arith, sum_by-cons (weight_of s value turns) 1 way.way, way.weighs, live);
      },
    )

-- ---- The greatest value.
-- Counts that keep the rows and have the total that worths show have the greatest value.
pub greatest-from : (net : Net) (price : ℕ → ℕ) (program : Program) (depths headed turns x : ℕ → ℕ) (total : ℕ) →
    IsNested net → HasDepths net depths → HasHeaders net headed → IsProgramOf net price program →
    IsShown (shape_of net depths headed) (value_at_end (shape_of net depths headed) price) turns total →
    Keeps (shape_of net depths headed) x →
    sum_to (length net.arcs) (λ i. value_at_end (shape_of net depths headed) price i * x i) ≡ total →
    IsGreatest program x × (value_of program x ≡ pos total)
greatest-from net price program depths headed turns x total nested has heads is shown keeps reached =
    (record { feasible = (kept x).1 keeps; greatest = greatest }, value)
  where
    s : Shape
    s = shape_of net depths headed

    nest : IsNest (shape_of net depths headed)
    nest = shape-nest net depths headed nested has heads

    kept : (y : ℕ → ℕ) → (IsFeasible program y ↔ Keeps (shape_of net depths headed) y)
    kept y = feasible-kept net price program depths headed y nested is nest.some

    value : value_of program x ≡ pos total
    value = value-sum net price program depths headed x is ∙ ap (λ (n : ℕ). pos n) reached

    greatest : (other : ℕ → ℕ) → IsFeasible program other → value_of program other ≤ℤ value_of program x
    greatest other feasible =
        let most = weak (shape_of net depths headed) (value_at_end (shape_of net depths headed) price) turns shown.worth
        other shown.depth nest shown.dual shown.all ((kept other).0 feasible) in
        let sum = value-sum net price program depths headed other is in
        let mine = value in
        let total_is = shown.is in
        omega (arith, ints)

-- With all loops put back the counts have the greatest value.
pub counts-best : (net : Net) (price : ℕ → ℕ) (program : Program) (depths headed turns round best choice x : ℕ → ℕ)
    (depth : ℕ) (path : List ℕ) (ways : ℕ → List ℕ) →
    IsNested net → HasDepths net depths → HasHeaders net headed → IsProgramOf net price program →
    AreSolved (shape_of net depths headed) (value_at_end (shape_of net depths headed) price) turns 1 →
    IsSwept (shape_of net depths headed) 0 round
    (weight_of (shape_of net depths headed) (value_at_end (shape_of net depths headed) price) turns) best choice →
    IsPath (shape_of net depths headed)
    (weight_of (shape_of net depths headed) (value_at_end (shape_of net depths headed) price) turns) path
    (weight_of (shape_of net depths headed) (value_at_end (shape_of net depths headed) price) turns 1
    + best ((shape_of net depths headed).to 1) - 1) →
    AreWays (shape_of net depths headed)
    (weight_of (shape_of net depths headed) (value_at_end (shape_of net depths headed) price) turns) turns depth ways →
    ((l : ℕ) → IsUpTo (length net.loops) l → depths l ≤ depth) →
    IsCounted (shape_of net depths headed) path ways x →
    IsGreatest program x
    × (value_of program x
    ≡ pos (weight_of (shape_of net depths headed) (value_at_end (shape_of net depths headed) price) turns 1
    + best ((shape_of net depths headed).to 1) - 1))
counts-best net price program depths headed turns round best choice x depth path ways nested has heads is solved swept
    out are all counted =
    let nest = shape-nest net depths headed nested has heads in
    let s = shape_of net depths headed in
    let value = value_at_end s price in
    greatest-from net price program depths headed turns x (weight_of s value turns 1 + best (s.to 1) - 1) nested has heads
    is (shown-total s value turns round best choice nest solved swept)
    (counted-keeps s (weight_of s value turns) turns depth (weight_of s value turns 1 + best (s.to 1) - 1) path ways x
    nest out are counted)
    (counted-value s value turns depth (weight_of s value turns 1 + best (s.to 1) - 1) path ways x nest out are counted all)

-- There are counts of the greatest value, and it is the total.
pub greatest-counts : (net : Net) (price : ℕ → ℕ) (program : Program) (depths headed turns round best choice : ℕ → ℕ) →
    IsNested net → HasDepths net depths → HasHeaders net headed → IsProgramOf net price program →
    AreSolved (shape_of net depths headed) (value_at_end (shape_of net depths headed) price) turns 1 →
    IsRound (shape_of net depths headed) 0 round →
    IsSwept (shape_of net depths headed) 0 round
    (weight_of (shape_of net depths headed) (value_at_end (shape_of net depths headed) price) turns) best choice →
    (counts : ℕ → ℕ) × IsGreatest program counts
    × (value_of program counts
    ≡ pos (weight_of (shape_of net depths headed) (value_at_end (shape_of net depths headed) price) turns 1
    + best ((shape_of net depths headed).to 1) - 1))
greatest-counts net price program depths headed turns round best choice nested has heads is solved rounds swept =
    let nest = shape-nest net depths headed nested has heads in
    let s = shape_of net depths headed in
    let value = value_at_end s price in
    let out = path-at s value turns round best choice nest rounds swept in
    let found = counts-to s value turns out.0 nest solved (sum_to s.loops s.depth) in
    let both = counts-best net price program depths headed turns round best choice found.counts
    (sum_to s.loops s.depth) out.0 found.ways nested has heads is solved swept out.1 found.are
    (λ l u. sum-part s.loops l s.depth u) found.counted in
    (found.counts, both.0, both.1)
