-- Before any level is solved, and what the levels show when all are.
use Rattle.std.proofs.Common.{◌≡◌, ℕ, ◌+◌, ◌-◌, ◌^◌, ◌≤◌, false, length, sym, ap, ◌∙◌, subst, arith, unsigned_abs}
use Rattle.flow_net.specs.Nested.{IsNested}
use Rattle.flow_net.specs.Numbers.{item_at}
use Rattle.flow_net.specs.declared.net.Net.{Net}
use Rattle.ipet_program.specs.Programs.{IsProgramOf, arc_value}
use Rattle.ipet_program.specs.declared.leaf.Leaf.{Leaf}
use Rattle.ipet_program.specs.declared.program.Program.{Program}
use Rattle.ipet_program.proofs.Numbered.{length-numbered}
use Rattle.nest_solver.specs.Answers.{AreWorths, ShowsGreatest}
use Rattle.nest_solver.specs.Bases.{AreRanks, base_by, rank_by}
use Rattle.nest_solver.specs.LeafWeights.{weights_to}
use Rattle.nest_solver.specs.Levels.{AreLevels}
use Rattle.nest_solver.specs.Nets.{AreUp, entry, round_by, value_at_end}
use Rattle.nest_solver.specs.Plain.{AreTables, plain}
use Rattle.nest_solver.specs.Shape.{Shape, IsNest}
use Rattle.nest_solver.specs.Solved.{base_worth, weight_of}
use Rattle.nest_solver.specs.Tables.{IsFew}
use Rattle.nest_solver.specs.Values.{AreValues, times_of}
use Rattle.nest_solver.specs.Ways.{IsSwept}
use Rattle.nest_solver.specs.declared.tables.Tables.{Tables}
use Rattle.nest_solver.proofs.Answering.{crude-tables, leaf-greatest}
use Rattle.nest_solver.proofs.Best.{worths-base}
use Rattle.nest_solver.proofs.Levels.{levels-light, levels-none, levels-swept}
use Rattle.nest_solver.proofs.NetShape.{round-up}
use Rattle.nest_solver.proofs.Plains.{tables-nest}
use Rattle.nest_solver.proofs.Rows.{value-table}
use lib.IntN.{pos}

-- The program has a value for each arc.
pub values-count : (net : Net) (price : ℕ → ℕ) (program : Program) → IsProgramOf net price program →
    length program.value ≡ length net.arcs
values-count net price program is =
    ap length is.value ∙ length-numbered (λ (column : ℕ). arc_value price (item_at column net.arcs)) (length net.arcs)

pub start-levels : (net : Net) (tables : Tables) (price : ℕ → ℕ) (program : Program) (weight turns : ℕ → ℕ) (deepest : ℕ) →
    IsNested net → AreTables net tables → IsProgramOf net price program → AreValues program weight →
    ((l : ℕ) → turns l ≡ 0) → ((l : ℕ) → entry tables.scopes.depths.items l ≤ deepest) →
    AreLevels (plain net tables) price weight turns (deepest + 1)
start-levels net tables price program weight turns deepest nested are is values fresh deep =
    levels-none (plain net tables) price weight turns (deepest + 1) (tables-nest net tables nested are) (omega arith)
    (crude-tables net price program (entry tables.scopes.depths.items) (entry tables.headed.items) nested are.scopes.depths
    are.headed is)
    (λ l u. omega (arith, deep l)) fresh
    (λ i u. values.told i (omega (arith, u, values-count net price program is))
    ∙ ap unsigned_abs (value-table net price program (entry tables.scopes.depths.items) (entry tables.headed.items) i is u))

-- Worths before any back arc is looked at.
pub start-worths : (net : Net) (tables : Tables) (price weight turns : ℕ → ℕ) (up latest best choice worth : ℕ → ℕ) (total : ℕ) →
    IsNested net → AreTables net tables → AreRanks net tables latest →
    AreLevels (plain net tables) price weight turns 1 → ((p : ℕ) → best p ≤ 2 ^ 63) →
    IsSwept (plain net tables) 0 (round_by net up) weight best choice →
    total ≡ weight 1 + best ((plain net tables).to 1) - 1 → ((p : ℕ) → worth p ≡ base_by net latest best p) →
    AreWorths (plain net tables) (weight_of (plain net tables) (value_at_end (plain net tables) price) turns) turns 0 total worth
start-worths net tables price weight turns up latest best choice worth total nested are ranks levels short swept is bases =
    subst (AreWorths s weights turns 0 total) same
    (worths-base s (value_at_end s price) turns (rank_by net latest) (round_by net up) best choice total nest ranks.rises
    (λ p. omega arith)
    (λ i u. omega (arith, sym (levels.weights i u), levels-light s price weight turns i nest levels u))
    short (levels-swept s price weight turns (round_by net up) best choice 0 1 levels swept)
    (is ∙ ap (λ (w : ℕ). w + best (s.to 1) - 1) (levels.weights 1 (omega (arith, nest.some)))))
  where
    s : Shape
    s = plain net tables

    nest : IsNest (plain net tables)
    nest = tables-nest net tables nested are

    weights : ℕ → ℕ
    weights = weight_of (plain net tables) (value_at_end (plain net tables) price) turns

    same : base_worth (plain net tables) (2 ^ 63) (rank_by net latest) best ≡ worth
    same = λ i p. sym (bases p) i

-- So the leaf of the worths of all levels shows the greatest value.
pub end-leaf : (net : Net) (tables : Tables) (price : ℕ → ℕ) (program : Program) (weight turns : ℕ → ℕ)
    (up best choice worth : ℕ → ℕ) (deepest total scopes : ℕ) (leaf : Leaf) →
    IsNested net → IsFew net → AreTables net tables → IsProgramOf net price program →
    AreLevels (plain net tables) price weight turns 1 → AreUp net (entry tables.scopes.depths.items) 0 up →
    IsSwept (plain net tables) 0 (round_by net up) weight best choice →
    total ≡ weight 1 + best ((plain net tables).to 1) - 1 →
    ((l : ℕ) → entry tables.scopes.depths.items l ≤ deepest) → deepest ≤ length net.loops + 1 →
    AreWorths (plain net tables) (weight_of (plain net tables) (value_at_end (plain net tables) price) turns) turns deepest
    total worth → leaf.denom ≡ pos 1 → leaf.empty ≡ false → scopes ≡ length net.loops + 1 →
    leaf.weights ≡ weights_to (times_of (length net.places) total worth turns) (length net.places + scopes) →
    ShowsGreatest program leaf
end-leaf net tables price program weight turns up best choice worth deepest total scopes leaf nested few are is levels ups
    swept sum deep low worths denom shows count listed =
    let s : Shape = plain net tables in
    let nest = tables-nest net tables nested are in
    leaf-greatest net price program (entry tables.scopes.depths.items) (entry tables.headed.items) turns (round_by net up)
    best choice worth deepest total leaf nested few.arcs are.scopes.depths are.headed is levels.solved
    (round-up net (entry tables.scopes.depths.items) (entry tables.headed.items) 0 up nested are.scopes.depths ups)
    (levels-swept s price weight turns (round_by net up) best choice 0 1 levels swept)
    (sum ∙ ap (λ (w : ℕ). w + best (s.to 1) - 1) (levels.weights 1 (omega (arith, nest.some))))
    (λ l u. deep l) (omega (arith, low, few.loops)) worths
    (record {
      denom = denom;
      shows = shows;
      weights = listed ∙ ap (weights_to (times_of (length net.places) total worth turns))
          (let n : length net.places + scopes ≡ length net.places + 1 + length net.loops = omega (arith, count) in n);
    })
