-- Which loops lie round the units of a function, by the positions of the loops, or none.
use Rattle.std.specs.Prelude.{◌≡◌, ℕ, ◌<◌, ◌⊎◌, List, length, map, All, AllPairs, Contains, Option, Some, None, slice_get}
use Rattle.elf_mips.specs.declared.image.Image.{Image}
use Rattle.loop_nest.specs.declared.nest.Loop.{Loop}
use Rattle.loop_nest.specs.Nests.{IsNest}
use Rattle.net_model.specs.Functions.{IsReached}
use Rattle.unit_graph.specs.declared.node.Unit.{Unit as Node}

-- The addresses of units.
abbrev pub addresses_of : List Node → List ℕ
addresses_of units = map (λ (node : Node). node.address) units

-- The addresses rise.
abbrev pub Rise : List Node → Type 0
Rise units = AllPairs (λ (a b : Node). a.address < b.address) units

-- Rising units, among them one at each address that the function reaches.
pub record AreUnitsOf (image : Image) (function : ℕ) (units : List Node) : Type 0 where
  pub rising : Rise units
  pub whole : (address : ℕ) → IsReached image function address → Contains (addresses_of units) address

-- The units and the loops of a function of an image.
abbrev pub AreOfFunction : List Node → List Loop → Type 0
AreOfFunction units loops =
    (image : Image) × (function : ℕ) × AreUnitsOf image function units × IsNest image function loops

-- The bodies of the loops rise.
abbrev pub AreRising : List Loop → Type 0
AreRising loops = All (λ (l : Loop). AllPairs (λ (a b : ℕ). a < b) l.body) loops

-- The loop of a position holds an address that isn't its header.
pub record IsRound (loops : List Loop) (position address : ℕ) : Type 0 where
  pub one : Loop
  pub there : slice_get loops position ≡ Some one
  pub other : one.header ≡ address → ⊥
  pub held : Contains one.body address

-- Of the first loops that hold an address which isn't their header, this is the innermost one: each of them
-- holds its header.
pub record IsNearest (loops : List Loop) (done address position : ℕ) : Type 0 where
  pub before : position < done
  pub round : IsRound loops position address
  pub inner : (other : ℕ) → other < done → (one : IsRound loops other address) →
      Contains one.one.body round.one.header

-- The position of that loop, or none.
abbrev pub IsNearestBy : List Loop → (done address : ℕ) → Option ℕ → Type 0
IsNearestBy loops done address None = (position : ℕ) → position < done → IsRound loops position address → ⊥
IsNearestBy loops done address (Some position) = IsNearest loops done address position

-- For each unit the innermost of the first loops.
pub record AreNearest (units : List Node) (loops : List Loop) (done : ℕ) (around : List (Option ℕ)) : Type 0 where
  pub count : length around ≡ length units
  pub each : (position : ℕ) (found : Option ℕ) (one : Node) → slice_get units position ≡ Some one →
      slice_get around position ≡ Some found → IsNearestBy loops done one.address found

-- The inner one of two loops that hold a unit: the one of a position where the other one holds its header, else
-- the other one.
pub record IsInnerOf (loops : List Loop) (other position result : ℕ) : Type 0 where
  pub outer : Loop
  pub there : slice_get loops other ≡ Some outer
  pub one : Loop
  pub here : slice_get loops position ≡ Some one
  pub told : ((result ≡ position) × Contains outer.body one.header)
      ⊎ ((result ≡ other) × (Contains outer.body one.header → ⊥))

-- The same where there may be no other one.
abbrev pub IsInner : List Loop → (other : Option ℕ) → (position result : ℕ) → Type 0
IsInner loops None position result = result ≡ position
IsInner loops (Some other) position result = IsInnerOf loops other position result

-- The own loop of a unit among the first loops: that of which it is the header, else the innermost one round it.
abbrev pub IsHeaderOf : List Loop → (done address : ℕ) → Option ℕ → Type 0
IsHeaderOf loops done address found =
    (position : ℕ) × (position < done) × (found ≡ Some position)
    × ((one : Loop) × (slice_get loops position ≡ Some one) × (one.header ≡ address))

abbrev pub IsNoHeader : List Loop → (done address : ℕ) → Type 0
IsNoHeader loops done address =
    (position : ℕ) (one : Loop) → position < done → slice_get loops position ≡ Some one → one.header ≡ address → ⊥

abbrev pub IsOwnBy : List Loop → (done address : ℕ) → Option ℕ → Type 0
IsOwnBy loops done address found =
    IsHeaderOf loops done address found
    ⊎ (IsNoHeader loops done address × IsNearestBy loops (length loops) address found)

pub record AreOwn (units : List Node) (loops : List Loop) (done : ℕ) (own : List (Option ℕ)) : Type 0 where
  pub count : length own ≡ length units
  pub each : (position : ℕ) (found : Option ℕ) (one : Node) → slice_get units position ≡ Some one →
      slice_get own position ≡ Some found → IsOwnBy loops done one.address found
