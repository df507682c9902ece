-- Nets as plain tables: arcs between places, and loops that lie in one another.
use Rattle.std.specs.Prelude.{◌≡◌, ◌⊎◌, ℕ, ◌<◌, ◌≤◌, ◌==◌, ◌&&◌, not, Bool, true, false}

-- The number is one of 1 to n.
abbrev pub IsUpTo : (n number : ℕ) → Type 0
IsUpTo n number = (1 ≤ number) × (number ≤ n)

-- Arcs, places and loops have numbers from 1. Place 0 is outside: arc 1 comes from it, and a run ends
-- with an arc to it. A loop that lies in no other one has the depth 1, and one directly inside another
-- is deeper by 1. `headed` gives the loop whose header a place is, 0 for none.
pub record Shape : Type 0 where
  pub arcs : ℕ
  pub places : ℕ
  pub loops : ℕ
  pub from : ℕ → ℕ
  pub to : ℕ → ℕ
  pub header : ℕ → ℕ
  pub bound : ℕ → ℕ
  pub depth : ℕ → ℕ
  pub holds : (loop place : ℕ) → Bool
  pub headed : ℕ → ℕ

-- The loop to whose header an arc goes, 0 for none.
abbrev pub target : Shape → ℕ → ℕ
target s i = s.headed (s.to i)

-- A back arc goes to the header of a loop that holds its source; an entering arc from a place that the
-- loop doesn't hold, or from 0.
abbrev pub is_back : Shape → ℕ → Bool
is_back s i = not (target s i == 0) && s.holds (target s i) (s.from i)

abbrev pub is_entering : Shape → ℕ → Bool
is_entering s i = not (target s i == 0) && not (s.holds (target s i) (s.from i))

-- The numbers rise along each arc between places that isn't a back arc.
abbrev pub IsRising : Shape → (ℕ → ℕ) → Type 0
IsRising s rank = (i : ℕ) → IsUpTo s.arcs i → 0 < s.from i → 0 < s.to i → is_back s i ≡ false →
    rank (s.from i) < rank (s.to i)

-- The places to which arcs lead from the first one on, back arcs left out.
pub data IsAhead (s : Shape) : ℕ → Type 0 where
  start : IsAhead s (s.to 1)
  along : (i : ℕ) → IsUpTo s.arcs i → 0 < s.from i → is_back s i ≡ false → IsAhead s (s.from i) →
      IsAhead s (s.to i)

-- The loops are nested, and each is entered at its header alone. (The plain tables of a nested net are a nest:
-- `shape-nest` of proofs/NetShape.antt.)
pub record IsNest (s : Shape) : Type 0 where
  pub some : 1 ≤ s.arcs
  pub first : s.from 1 ≡ 0
  pub begins : 1 ≤ s.to 1
  pub only : (i : ℕ) → IsUpTo s.arcs i → s.from i ≡ 0 → i ≡ 1
  pub starts : (i : ℕ) → IsUpTo s.arcs i → s.from i ≤ s.places
  pub ends : (i : ℕ) → IsUpTo s.arcs i → s.to i ≤ s.places
  pub headers : (l : ℕ) → IsUpTo s.loops l → IsUpTo s.places (s.header l)
  pub headed : (l : ℕ) → IsUpTo s.loops l → s.headed (s.header l) ≡ l
  pub heads : (p : ℕ) → 0 < s.headed p → IsUpTo s.loops (s.headed p) × (s.header (s.headed p) ≡ p)
  pub bounds : (l : ℕ) → IsUpTo s.loops l → 1 ≤ s.bound l
  pub deep : (l : ℕ) → IsUpTo s.loops l → 1 ≤ s.depth l
  pub held : (l : ℕ) → IsUpTo s.loops l → s.holds l (s.header l) ≡ true
  pub outside : (l : ℕ) → s.holds l 0 ≡ false
  pub entering : (i l : ℕ) → IsUpTo s.arcs i → IsUpTo s.loops l → s.holds l (s.from i) ≡ false →
      s.holds l (s.to i) ≡ true → s.to i ≡ s.header l
  -- What holds the header of a loop is the loop, or lies round it.
  pub own : (l k : ℕ) → IsUpTo s.loops l → IsUpTo s.loops k → s.holds k (s.header l) ≡ true →
      (k ≡ l) ⊎ (s.depth k < s.depth l)
  -- Of two loops that hold one place the one that isn't deeper holds all places of the other.
  pub inside : (k l p q : ℕ) → IsUpTo s.loops k → IsUpTo s.loops l → s.holds k p ≡ true →
      s.holds l p ≡ true → s.depth k ≤ s.depth l → s.holds l q ≡ true → s.holds k q ≡ true
  -- Two loops of one depth hold no place in common.
  pub apart : (k l p : ℕ) → IsUpTo s.loops k → IsUpTo s.loops l → s.holds k p ≡ true →
      s.holds l p ≡ true → s.depth k ≡ s.depth l → k ≡ l
  pub rank : ℕ → ℕ
  pub rises : IsRising s rank
  -- A run can end: some arc to 0 comes from a place ahead.
  pub last : ℕ
  pub last_up : IsUpTo s.arcs last
  pub ends_run : s.to last ≡ 0
  pub comes : IsAhead s (s.from last)
