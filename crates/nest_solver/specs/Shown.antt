-- What a leaf and counts show, whatever program of the net they are asked for.
use Rattle.std.specs.Prelude.{ℕ, List}
use Rattle.flow_net.specs.declared.net.Net.{Net}
use Rattle.ipet_program.specs.Programs.{IsProgramOf}
use Rattle.ipet_program.specs.declared.certificate.Count.{Count}
use Rattle.ipet_program.specs.declared.leaf.Leaf.{Leaf}
use Rattle.ipet_program.specs.declared.program.Program.{Program}
use Rattle.nest_solver.specs.Answers.{AreGreatest, ShowsGreatest}
use Rattle.nest_solver.specs.Levels.{AreLevels}
use Rattle.nest_solver.specs.Plain.{plain}
use Rattle.nest_solver.specs.declared.tables.Tables.{Tables}

-- From levels of a program's prices the leaf comes out that shows its greatest value.
pub record ShowsFrom (net : Net) (tables : Tables) (weight turns : ℕ → ℕ) (depth : ℕ) (leaf : Leaf) : Type 0 where
  pub shows : (price : ℕ → ℕ) (program : Program) → IsProgramOf net price program →
      AreLevels (plain net tables) price weight turns depth → ShowsGreatest program leaf

-- And the counts that have it.
pub record CountsFrom (net : Net) (tables : Tables) (weight turns : ℕ → ℕ) (depth : ℕ) (counts : List Count) : Type 0 where
  pub greatest : (price : ℕ → ℕ) (program : Program) → IsProgramOf net price program →
      AreLevels (plain net tables) price weight turns depth → AreGreatest program counts

-- There is a program of the net at whose prices the levels are.
pub record SomeProgram (net : Net) (tables : Tables) (weight turns : ℕ → ℕ) (depth : ℕ) : Type 0 where
  pub price : ℕ → ℕ
  pub program : Program
  pub of_net : IsProgramOf net price program
  pub levels : AreLevels (plain net tables) price weight turns depth
