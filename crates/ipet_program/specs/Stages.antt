-- The further stages of the accesses of a net: the caches of a chain but the first one, and memory.
use Rattle.std.specs.Prelude.{ℕ, suc, ◌+◌, ◌==◌, ◌||◌, Bool, true, false, List, [], ◌∷◌, ◌++◌, length, if◌then◌else◌}
use Rattle.cache_config.specs.Instructions.{Costs, stage_latency}
use Rattle.flow_net.specs.Scopes.{scopes_round}
use Rattle.flow_net.specs.declared.letter.Class.{Class}
use Rattle.flow_net.specs.declared.letter.Class.TheVariants.{Hit, Miss, First, Unclassified}
use Rattle.flow_net.specs.declared.letter.ClassTable.{ClassTable}
use Rattle.flow_net.specs.declared.letter.Letter.{Letter}
use Rattle.flow_net.specs.declared.letter.Letter.TheVariants.{Always, Never, Uncertain}
use Rattle.flow_net.specs.declared.letter.Level2.{Level2}
use Rattle.flow_net.specs.declared.net.Access.{Access}
use Rattle.flow_net.specs.declared.net.Net.{Net}
use Rattle.ipet_program.specs.declared.program.Stage.{Stage}
use Rattle.net_model.specs.Accesses.{kind_of}

-- Whether what is known of an access at a cache keeps it from going on to the next stage: it never arrives there, or
-- each arrival finds its block.
abbrev pub never_arrives : Letter → Bool
never_arrives Never = true
never_arrives Always = false
never_arrives Uncertain = false

abbrev pub always_hits : Class → Bool
always_hits Hit = true
always_hits Miss = false
always_hits (First scope) = false
always_hits Unclassified = false

abbrev pub stops_at : Level2 → Bool
stops_at entry = never_arrives entry.letter || always_hits entry.class

-- The listed scopes from this one on.
abbrev pub from_scope : (scope : ℕ) → List ℕ → List ℕ
from_scope scope [] = []
from_scope scope (own ∷ inner) = if own == scope then own ∷ inner else from_scope scope inner

-- A first miss comes at most once in each stay in its scope, and so in each stay in a scope inside that one which holds
-- the place: the outermost first.
abbrev pub firsts_of : Net → (place : ℕ) → Class → List ℕ
firsts_of net place (First scope) = from_scope scope (scopes_round net place)
firsts_of net place class = []

-- The stage behind the cache of this number, by what is known of the access there.
abbrev pub stage_behind : Net → Costs → (number : ℕ) → Access → (before level : ℕ) → Level2 → Stage
stage_behind net costs number access before level entry = record {
  access = number;
  place = access.place;
  level = level;
  before = before;
  latency = stage_latency costs (kind_of access.role) (suc level);
  never = stops_at entry;
  firsts = firsts_of net access.place entry.class;
}

-- The stages of an access behind the caches from this one on, each with its own column: the first of them has the
-- given one.
abbrev pub stages_from : Net → Costs → (number : ℕ) → Access → (before level column : ℕ) → List Level2 → List Stage
stages_from net costs number access before level column [] = []
stages_from net costs number access before level column (entry ∷ more) =
    stage_behind net costs number access before level entry
    ∷ stages_from net costs number access column (suc level) (suc column) more

-- The same of these accesses, which have the numbers from the given one on. The first stage of each is counted by the
-- arcs into its place, and has no column.
abbrev pub stages_by : Net → Costs → (number column : ℕ) → List Access → (rows : List (List Level2)) → List Stage
stages_by net costs number column [] rows = []
stages_by net costs number column (access ∷ more) [] = []
stages_by net costs number column (access ∷ more) (row ∷ rows) =
    stages_from net costs number access 0 1 column row
    ++ stages_by net costs (suc number) (column + length row) more rows

-- The further stages of a net, access by access and cache by cache. Their columns follow those of the arcs.
abbrev pub further_stages : Net → Costs → ClassTable → List Stage
further_stages net costs classes = stages_by net costs 1 (suc (length net.arcs)) net.accesses classes.rows
