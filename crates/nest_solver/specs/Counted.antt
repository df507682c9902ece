-- Counts of arcs: a way out, and for each loop its turn as often as it may come again.
use Rattle.std.specs.Prelude.{◌≡◌, ◌⊎◌, ℕ, ◌+◌, ◌-◌, ◌*◌, ◌<◌, ◌≤◌, ◌==◌, ◌&&◌, Bool, true, false, List, [], ◌∷◌, sum_by, if◌then◌else◌}
use Rattle.ipet_program.specs.Sums.{sum_to}
use Rattle.nest_solver.specs.Shape.{Shape, IsUpTo, target, is_back, is_entering}
use Rattle.nest_solver.specs.Ways.{IsRound, IsWay}

-- 1 where a test holds, else 0.
abbrev pub bit : Bool → ℕ
bit true = 1
bit false = 0

-- How often an arc stands in a way.
abbrev pub times : List ℕ → ℕ → ℕ
times [] i = 0
times (k ∷ more) i = bit (k == i) + times more i

-- The arc enters the loop, or goes back to its header.
abbrev pub enters : Shape → (loop : ℕ) → ℕ → Bool
enters s l i = is_entering s i && (target s i == l)

abbrev pub returns : Shape → (loop : ℕ) → ℕ → Bool
returns s l i = is_back s i && (target s i == l)

-- How often counts enter a loop.
abbrev pub entered : Shape → (counts : ℕ → ℕ) → (loop : ℕ) → ℕ
entered s counts l = sum_to s.arcs (λ i. bit (enters s l i) * counts i)

-- What these turns of the loops add to an arc where the loops are entered so often.
abbrev pub added : Shape → (often : ℕ → ℕ) → (ways : ℕ → List ℕ) → ℕ → ℕ
added s often ways i = sum_to s.loops (λ l. ((s.bound l - 1) * often l) * times (ways l) i)

-- The counts are those of the way out and of the turns. A loop that isn't put back yet has no way. (Such counts keep
-- the rows, and with all loops put back their value is what the way out weighs: `counted-keeps` and `counted-value`
-- of proofs/Counting.antt.)
abbrev pub IsCounted : Shape → (path : List ℕ) → (ways : ℕ → List ℕ) → (counts : ℕ → ℕ) → Type 0
IsCounted s path ways counts =
    (i : ℕ) → IsUpTo s.arcs i → counts i ≡ times path i + added s (entered s counts) ways i

-- The way out, of that weight: arc 1, and a way of depth 0 from where it goes to.
pub record IsPath (s : Shape) (weight : ℕ → ℕ) (path : List ℕ) (total : ℕ) : Type 0 where
  pub more : List ℕ
  pub round : ℕ → ℕ
  pub begins : path ≡ 1 ∷ more
  pub rounds : IsRound s 0 round
  pub way : IsWay s 0 round (s.to 1) more
  pub weighs : sum_by weight path ≡ total

-- The turn of a loop: a way from its header back to it, of that weight.
pub record IsTurn (s : Shape) (weight : ℕ → ℕ) (l : ℕ) (turn : ℕ) (way : List ℕ) : Type 0 where
  pub round : ℕ → ℕ
  pub rounds : IsRound s (s.depth l) round
  pub goes : IsWay s (s.depth l) round (s.header l) way
  pub weighs : sum_by weight way ≡ turn

-- The loops down to a depth have their turns, the deeper ones none.
pub record AreWays (s : Shape) (weight turns : ℕ → ℕ) (depth : ℕ) (ways : ℕ → List ℕ) : Type 0 where
  pub done : (l : ℕ) → IsUpTo s.loops l → s.depth l ≤ depth →
      ((ways l ≡ []) × (turns l ≡ 0)) ⊎ IsTurn s weight l (turns l) (ways l)
  pub later : (l : ℕ) → IsUpTo s.loops l → depth < s.depth l → ways l ≡ []

-- Counts with the turns of the loops of one depth added. (`counted-level` of proofs/PutBack.antt)
abbrev pub put_back : Shape → (often : ℕ → ℕ) → (ways : ℕ → List ℕ) → (counts : ℕ → ℕ) → ℕ → ℕ
put_back s often ways counts i = counts i + added s often ways i

-- The ways of one depth beside those that stood before.
abbrev pub with_ways : Shape → (depth : ℕ) → (before turned : ℕ → List ℕ) → ℕ → List ℕ
with_ways s depth before turned l = if s.depth l == depth then turned l else before l
