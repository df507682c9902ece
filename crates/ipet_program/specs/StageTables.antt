-- The tables from which the rows of further stages are built.
use Rattle.std.specs.Prelude.{◌≡◌, ℕ, suc, ◌+◌, ◌≤◌, ◌==◌, Bool, false, pos, ◌-ℤ◌, List, ◌++◌, length, map, All, Some}
use Rattle.cache_config.specs.Limits.{most_cycles}
use Rattle.flow_net.specs.Numbers.{item_at, IsNumberOf, IsNumberOrZero}
use Rattle.flow_net.specs.Scopes.{holds_of}
use Rattle.flow_net.specs.declared.net.LoopInst.{LoopInst}
use Rattle.flow_net.specs.declared.net.Net.{Net}
use Rattle.flow_net.specs.declared.net.NetArc.{NetArc}
use Rattle.ipet_program.specs.Rows.{comes_to, is_entering, one_if, terms_of}
use Rattle.ipet_program.specs.Scopes.{turns_at}
use Rattle.ipet_program.specs.StageRows.{enters_by, stage_rows}
use Rattle.ipet_program.specs.Sums.{numbered}
use Rattle.ipet_program.specs.declared.program.Program.{Program}
use Rattle.ipet_program.specs.declared.program.Row.{Row}
use Rattle.ipet_program.specs.declared.program.Stage.{Stage}

-- The picked ones of the first arcs, each taken off: what a column with such a row is at most.
abbrev pub less_arcs : (picks : ℕ → Bool) → (count : ℕ) → Row
less_arcs picks count =
    record { equal = false; terms = terms_of (λ arc. pos 0 -ℤ one_if (picks arc)) count; right = pos 0 }

-- The arcs into a place.
abbrev pub into_row : List NetArc → (count place : ℕ) → Row
into_row arcs count place = less_arcs (λ arc. comes_to place (item_at arc arcs)) count

-- The arcs that enter a scope.
abbrev pub entering_row : Net → (count scope : ℕ) → Row
entering_row net count scope = less_arcs (enters_by net scope) count

-- The number of the loop instance that an arc enters; 0 where it enters none.
pub record IsEnteredBy (net : Net) (arc : NetArc) (number : ℕ) : Type 0 where
  pub within : number ≤ length net.loops
  pub only : (scope : ℕ) (inst : LoopInst) → item_at scope net.loops ≡ Some inst →
      is_entering (holds_of net scope) inst.header (Some arc) ≡ (number == scope)

-- Such a row for each place, and for each loop instance.
pub record HasArcRows (net : Net) (places loops : List Row) : Type 0 where
  pub into : places ≡ numbered (into_row net.arcs (length net.arcs)) (length net.places)
  pub entering : loops ≡ numbered (entering_row net (length net.arcs)) (length net.loops)

-- The place and the scopes of a stage are the net's, and its latency keeps its limit.
pub record IsStageOf (net : Net) (stage : Stage) : Type 0 where
  pub place : IsNumberOf net.places stage.place
  pub firsts : All (IsNumberOrZero net.loops) stage.firsts
  pub latency : stage.latency ≤ most_cycles

-- A program with further stages behind the plain part, which has the arcs as its columns.
pub record IsStaged (net : Net) (plain : Program) (further : List Stage) (program : Program) : Type 0 where
  pub stages : program.stages ≡ further
  pub columns : program.columns ≡ length net.arcs + length further
  pub rows : program.rows ≡ plain.rows ++ stage_rows net (suc (length net.arcs)) further
  pub value : program.value ≡ plain.value ++ map (λ (stage : Stage). pos stage.latency) further
  pub caps : program.caps ≡ plain.caps ++ map (λ (stage : Stage). turns_at net stage.place) further
