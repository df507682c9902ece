-- The longest ways of a level: inside the loops of one depth back to their headers, or at depth 0 inside
-- the run to its end. No way takes a back arc but as its last arc.
use Rattle.std.specs.Prelude.{◌≡◌, ◌⊎◌, ℕ, ◌+◌, ◌<◌, ◌≤◌, ◌==◌, ◌&&◌, ◌||◌, not, Bool, true, List, [], ◌∷◌, if◌then◌else◌}
use Rattle.nest_solver.specs.Shape.{Shape, IsUpTo, target, is_back}

-- The loop of a depth that holds a place, 0 for none.
pub record IsRound (s : Shape) (depth : ℕ) (round : ℕ → ℕ) : Type 0 where
  pub here : (p : ℕ) → 0 < round p →
      IsUpTo s.loops (round p) × (s.depth (round p) ≡ depth) × (s.holds (round p) p ≡ true)
  pub all : (l p : ℕ) → IsUpTo s.loops l → s.depth l ≡ depth → s.holds l p ≡ true → round p ≡ l

-- An arc ends a way of depth 0 where it goes to 0, and one of another depth where it is a back arc of a
-- loop of that depth.
abbrev pub closes : Shape → (depth : ℕ) → ℕ → Bool
closes s depth i =
    if s.to i == 0 then depth == 0 else (is_back s i && (s.depth (target s i) == depth))

-- A way goes on by an arc between places that is no back arc and stays inside one loop of the depth.
abbrev pub goes_on : Shape → (depth : ℕ) → (round : ℕ → ℕ) → ℕ → Bool
goes_on s depth round i =
    not (s.from i == 0) && not (s.to i == 0) && not (is_back s i)
    && (depth == 0 || (not (round (s.from i) == 0) && (round (s.from i) == round (s.to i))))

-- What is known behind an arc: 1 where it ends the way, else what is known of the place that it goes to;
-- 0 where no way takes it.
abbrev pub reach : Shape → (depth : ℕ) → (round best : ℕ → ℕ) → ℕ → ℕ
reach s depth round best i =
    if closes s depth i then 1 else (if goes_on s depth round i then best (s.to i) else 0)

-- Of each place 1 more than the weight of the longest way from there, 0 where there is none, and the
-- first arc of such a way. (Two sweeps of one depth with the same weights find the same: `swept-same` of
-- proofs/Forward.antt. From each place with a known way such a way goes: `longest` there.)
pub record IsSwept (s : Shape) (depth : ℕ) (round weight best choice : ℕ → ℕ) : Type 0 where
  pub closed : (i : ℕ) → IsUpTo s.arcs i → 0 < reach s depth round best i →
      weight i + reach s depth round best i ≤ best (s.from i)
  pub up : (p : ℕ) → 0 < best p → IsUpTo s.arcs (choice p)
  pub leaves : (p : ℕ) → 0 < best p → s.from (choice p) ≡ p
  pub leads : (p : ℕ) → 0 < best p → 0 < reach s depth round best (choice p)
  pub tight : (p : ℕ) → 0 < best p →
      best p ≡ weight (choice p) + reach s depth round best (choice p)

-- The arcs of these numbers are a way of the depth from a place.
abbrev pub IsWay : Shape → (depth : ℕ) → (round : ℕ → ℕ) → (from : ℕ) → List ℕ → Type 0
IsWay s depth round from [] = ⊥
IsWay s depth round from (i ∷ more) =
    IsUpTo s.arcs i × (s.from i ≡ from)
    × (((closes s depth i ≡ true) × (more ≡ []))
    ⊎ ((goes_on s depth round i ≡ true) × IsWay s depth round (s.to i) more))

-- What a way of the depth may weigh from each place on, at most the limit. (`room-level` of proofs/Room.antt: so
-- much room there is under the crude bound.)
pub record HasRoom (s : Shape) (depth : ℕ) (round weight : ℕ → ℕ) (limit : ℕ) : Type 0 where
  pub most : ℕ → ℕ
  pub small : (p : ℕ) → most p ≤ limit
  pub ends : (i : ℕ) → IsUpTo s.arcs i → closes s depth i ≡ true → weight i ≤ most (s.from i)
  pub goes : (i : ℕ) → IsUpTo s.arcs i → goes_on s depth round i ≡ true →
      weight i + most (s.to i) ≤ most (s.from i)
