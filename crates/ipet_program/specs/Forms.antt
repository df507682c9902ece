-- Forms of a program by what is made of its first misses: all that follows is read off its further stages.
use Rattle.std.specs.Prelude.{ℕ, suc, ◌+◌, ◌==◌, ◌&&◌, ◌||◌, not, Bool, true, false, ℤ, pos, ◌+ℤ◌, List, [], ◌∷◌, ◌++◌, length, map, if◌then◌else◌}
use Rattle.flow_net.specs.declared.net.Net.{Net}
use Rattle.ipet_program.specs.Leaves.{value_at}
use Rattle.ipet_program.specs.Rows.{rows_of}
use Rattle.ipet_program.specs.StageRows.{enters_by, stage_rows}
use Rattle.ipet_program.specs.Sums.{numbered}
use Rattle.ipet_program.specs.declared.program.Program.{Program}
use Rattle.ipet_program.specs.declared.program.Stage.{Stage}

-- A first miss lets an access come to the stage: the stage has rows of first misses.
abbrev pub some_scope : List ℕ → Bool
some_scope [] = false
some_scope (scope ∷ inner) = true

abbrev pub is_first_miss : Stage → Bool
is_first_miss stage = some_scope stage.firsts

-- The stage without its rows of first misses, and the stage when each first miss is taken as a hit: nothing comes to it.
abbrev pub without_firsts : Stage → Stage
without_firsts stage = record {
  access = stage.access;
  place = stage.place;
  level = stage.level;
  before = stage.before;
  latency = stage.latency;
  never = stage.never;
  firsts = [];
}

abbrev pub as_hit : Stage → Stage
as_hit stage = record {
  access = stage.access;
  place = stage.place;
  level = stage.level;
  before = stage.before;
  latency = stage.latency;
  never = stage.never || is_first_miss stage;
  firsts = [];
}

-- The program of a net with other further stages in the same columns: its rows are those of these stages.
abbrev pub with_further : Net → Program → List Stage → Program
with_further net program stages = record {
  columns = program.columns;
  rows = rows_of net ++ stage_rows net (suc (length net.arcs)) stages;
  value = program.value;
  caps = program.caps;
  stages = stages;
}

-- The plain form has no rows of first misses.
abbrev pub plain_form : Net → Program → Program
plain_form net program = with_further net program (map without_firsts program.stages)

-- The hit form has in place of a stage's rows of first misses the row that its column is at most 0. (What is feasible for
-- it is feasible for the program: `hit-feasible` of proofs/HitForm.antt.)
abbrev pub hit_form : Net → Program → Program
hit_form net program = with_further net program (map as_hit program.stages)

-- The once form pays a first miss once for each entering of its scope. An access that comes to a stage by a first miss pays
-- it, and the stages after it up to the next cache at which it surely stops or may have another first miss.
abbrev pub goes_on : (access : ℕ) → Stage → Bool
goes_on access stage = (stage.access == access) && not (stage.never || is_first_miss stage)

abbrev pub paid_after : (access : ℕ) → List Stage → ℕ
paid_after access [] = 0
paid_after access (stage ∷ more) = if goes_on access stage then stage.latency + paid_after access more else 0

-- What an arc pays for a first miss of which it enters the scope, the outermost one of its rows.
abbrev pub pays_at : Net → (arc : ℕ) → (scopes : List ℕ) → (fee : ℕ) → ℕ
pays_at net arc [] fee = 0
pays_at net arc (scope ∷ inner) fee = if enters_by net scope arc then fee else 0

abbrev pub fees_at : Net → (arc : ℕ) → List Stage → ℕ
fees_at net arc [] = 0
fees_at net arc (stage ∷ more) =
    pays_at net arc stage.firsts (stage.latency + paid_after stage.access more) + fees_at net arc more

-- A paid stage costs nothing more; another one costs its latency. `paying` is the access whose first miss is being paid,
-- 0 for none.
abbrev pub once_latencies : (paying : ℕ) → List Stage → List ℤ
once_latencies paying [] = []
once_latencies paying (stage ∷ more) =
    if is_first_miss stage then pos 0 ∷ once_latencies stage.access more
    else (if goes_on paying stage then pos 0 ∷ once_latencies paying more
    else pos stage.latency ∷ once_latencies 0 more)

-- So each arc pays its value and the fees of the scopes that it enters.
abbrev pub once_arcs : Net → Program → List ℤ
once_arcs net program =
    numbered (λ arc. value_at program arc +ℤ pos (fees_at net arc program.stages)) (length net.arcs)

abbrev pub once_form : Net → Program → Program
once_form net program = record {
  columns = program.columns;
  rows = rows_of net ++ stage_rows net (suc (length net.arcs)) (map without_firsts program.stages);
  value = once_arcs net program ++ once_latencies 0 program.stages;
  caps = program.caps;
  stages = map without_firsts program.stages;
}
