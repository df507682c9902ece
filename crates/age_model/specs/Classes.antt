-- What a table of classes says: its rows, its letters, and that all of it holds of every walk.
use Rattle.std.specs.Prelude.{◌≡◌, ℕ, List, [], ◌∷◌, length, All, Option, Some, None}
use Rattle.std.specs.List.{AllZip}
use Rattle.cache_config.specs.Chains.{side_of}
use Rattle.flow_net.specs.Letters.{next_letter}
use Rattle.flow_net.specs.Numbers.{item_at}
use Rattle.flow_net.specs.Scopes.{Holds}
use Rattle.flow_net.specs.declared.letter.Class.{Class}
use Rattle.flow_net.specs.declared.letter.Class.TheVariants.{First, Unclassified}
use Rattle.flow_net.specs.declared.letter.ClassTable.{ClassTable}
use Rattle.flow_net.specs.declared.letter.Letter.{Letter}
use Rattle.flow_net.specs.declared.letter.Letter.TheVariants.{Always, Never}
use Rattle.flow_net.specs.declared.letter.Level2.{Level2}
use Rattle.flow_net.specs.declared.net.Access.{Access}
use Rattle.flow_net.specs.declared.net.Net.{Net}
use Rattle.lru_concrete.specs.Chains.{Held, chain, levels_of}
use Rattle.lru_concrete.specs.Contents.{IsLawful}
use Rattle.lru_concrete.specs.declared.level.Level.{Level}
use Rattle.lru_concrete.specs.declared.level.Side.{Side}
use Rattle.net_model.specs.Accesses.{kind_of}
use Rattle.net_model.specs.Claims.{ClassHolds, LetterHolds}
use Rattle.net_model.specs.Moments.{Moment}
use Rattle.net_model.specs.Walks.{IsWalk}
use Rattle.age_model.specs.Moves.{Moves}

-- How many caches an access of a side goes through.
abbrev pub chain_length : List Level → Option Side → ℕ
chain_length levels None = 0
chain_length levels (Some side) = length (chain side levels)

-- A row of the class table has an entry for each cache of its access's chain, and a first miss names a scope that holds
-- the access's place.
abbrev pub NamesHolding : Net → (place : ℕ) → Class → Type 0
NamesHolding net place (First scope) = Holds net scope place
NamesHolding net place class = Unit {0}

pub record IsRowOf (net : Net) (levels : List Level) (access : Access) (row : List Level2) : Type 0 where
  pub chain : length row ≡ chain_length levels (side_of (kind_of access.role))
  pub firsts : All (λ (entry : Level2). NamesHolding net access.place entry.class) row

-- The class table has such a row for each access.
abbrev pub HasRows : Net → List Level → ClassTable → Type 0
HasRows net levels classes = AllZip (IsRowOf net levels) net.accesses classes.rows

-- Of an access that never arrives at a cache nothing more is said there.
abbrev pub SaysNothing : Letter → Class → Type 0
SaysNothing Never class = class ≡ Unclassified
SaysNothing letter class = Unit {0}

-- The letters of a row from this one on: each next one follows from the letter and the class before it.
abbrev pub FollowLetters : Letter → List Level2 → Type 0
FollowLetters letter [] = Unit {0}
FollowLetters letter (entry ∷ more) =
    (entry.letter ≡ letter) × SaysNothing entry.letter entry.class
    × FollowLetters (next_letter entry.letter entry.class) more

-- At the first cache of its chain an access always arrives.
abbrev pub HasLetters : ClassTable → Type 0
HasLetters classes = All (FollowLetters Always) classes.rows

-- What a class table says of each access at each cache of its chain holds of these moments: the letter and the class.
abbrev pub TableHolds : Net → ClassTable → List Moment → Type 0
TableHolds net classes moments =
    (access level : ℕ) (row : List Level2) (entry : Level2) → item_at access classes.rows ≡ Some row →
    item_at level row ≡ Some entry →
    LetterHolds access level entry.letter moments × ClassHolds net access level entry.class moments

-- Caches of these levels with any lawful contents.
pub record AreLawful (levels : List Level) (caches : List Held) : Type 0 where
  pub of_levels : levels_of caches ≡ levels
  pub lawful : All (λ (cache : Held). IsLawful cache.level.shape cache.blocks) caches

-- It holds of every walk whose accesses keep their ranges, and of each front of one, from any lawful contents of the
-- caches on.
abbrev pub HoldsOfWalks : Net → List Level → (range : ℕ → ℕ → Type 0) → ClassTable → Type 0
HoldsOfWalks net levels range classes =
    (caches : List Held) (moments : List Moment) → AreLawful levels caches → IsWalk net range moments →
    Moves net caches moments → TableHolds net classes moments
