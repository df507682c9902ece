-- The way out is counted first, and there is room for it.
use Rattle.std.proofs.Common.{◌≡◌, ℕ, ◌+◌, ◌-◌, ◌*◌, ◌^◌, ◌<◌, ◌≤◌, ◌==◌, List, [], ◌∷◌, length, refl, sym, ap, ◌∙◌, arith}
use Rattle.std.proofs.lemmas.List.Sums.{sum_by-cons}
use Rattle.std.proofs.lemmas.Bool.{cases_eq}
use Rattle.std.proofs.Common.{inl, inr, set}
use Rattle.nest_solver.proofs.Puts.{puts-set}
use Rattle.nest_solver.proofs.Times.{bit_other, bit_same}
use Rattle.flow_net.specs.Nested.{IsNested}
use Rattle.flow_net.specs.declared.net.Net.{Net}
use Rattle.ipet_program.specs.Programs.{IsProgramOf}
use Rattle.ipet_program.specs.declared.program.Program.{Program}
use Rattle.nest_solver.specs.Answers.{AreGreatest, counts_to}
use Rattle.nest_solver.specs.Begun.{IsReady, IsSettled}
use Rattle.nest_solver.specs.Counted.{IsPath, bit, times}
use Rattle.nest_solver.specs.Levels.{AreLevels}
use Rattle.nest_solver.specs.Nets.{AreUp, entry, round_by, value_at_end}
use Rattle.nest_solver.specs.Plain.{AreTables, plain}
use Rattle.nest_solver.specs.Shape.{Shape, IsNest, IsUpTo}
use Rattle.nest_solver.specs.Solved.{weight_of}
use Rattle.nest_solver.specs.Walks.{Follows}
use Rattle.nest_solver.specs.Ways.{IsRound, IsSwept}
use Rattle.nest_solver.specs.declared.tables.Tables.{Tables}
use Rattle.nest_solver.proofs.Answering.{counts-greatest, total-in, values-some}
use Rattle.nest_solver.proofs.CountRoom.{counted-small}
use Rattle.nest_solver.proofs.Following.{follows-way}
use Rattle.nest_solver.proofs.Forward.{entry-live}
use Rattle.nest_solver.proofs.Levels.{levels-swept}
use Rattle.nest_solver.proofs.NetShape.{round-up}
use Rattle.nest_solver.proofs.Plains.{tables-nest}
use Rattle.nest_solver.proofs.PutBack.{counted-start, ways-start}

module _ (net : Net) (tables : Tables) (price : ℕ → ℕ) (program : Program) (weight turns up best choice : ℕ → ℕ)
    (total : ℕ) (nested : IsNested net) (are : AreTables net tables) (is : IsProgramOf net price program)
    (levels : AreLevels (plain net tables) price weight turns 1)
    (found : AreUp net (entry tables.scopes.depths.items) 0 up)
    (swept : IsSwept (plain net tables) 0 (round_by net up) weight best choice)
    (shown : total ≡ weight 1 + best ((plain net tables).to 1) - 1) where
  abbrev s : Shape
  s = plain net tables

  nest : IsNest (plain net tables)
  nest = tables-nest net tables nested are

  rounds : IsRound (plain net tables) 0 (round_by net up)
  rounds = round-up net (entry tables.scopes.depths.items) (entry tables.headed.items) 0 up nested are.scopes.depths found

  ways : IsSwept (plain net tables) 0 (round_by net up)
      (weight_of (plain net tables) (value_at_end (plain net tables) price) turns) best choice
  ways = levels-swept s price weight turns (round_by net up) best choice 0 1 levels swept

  pub live : 0 < best ((plain net tables).to 1)
  live = entry-live s (round_by net up) weight best choice nest swept

  total-is : total ≡ weight_of (plain net tables) (value_at_end (plain net tables) price) turns 1
      + best ((plain net tables).to 1) - 1
  total-is = omega (arith, shown, levels.weights 1 (omega (arith, nest.some)), live)

  out-path : (way : List ℕ) → Follows (plain net tables) 0 choice ((plain net tables).to 1) way →
      IsPath (plain net tables) (weight_of (plain net tables) (value_at_end (plain net tables) price) turns) (1 ∷ way) total
  out-path way follows =
      let goes = follows-way s 0 (round_by net up) (weight_of s (value_at_end s price) turns) best choice (s.to 1) way ways
      live follows in
      record {
        more = way;
        round = round_by net up;
        begins = refl;
        rounds = rounds;
        way = goes.goes;
        weighs = omega (
          arith,
          sum_by-cons (weight_of s (value_at_end s price) turns) 1 way,
          goes.weighs,
          total-is,
          live,
        );
      }

  out-settled : (way : List ℕ) → Follows (plain net tables) 0 choice ((plain net tables).to 1) way →
      IsSettled (plain net tables) (value_at_end (plain net tables) price) turns (1 ∷ way) total
  out-settled way follows = record {
    costly = λ i u low. values-some net price program (entry tables.scopes.depths.items) (entry tables.headed.items) i
        nest is u low;
    out = out-path way follows;
    solved = levels.solved;
    low = (total-in net price program (entry tables.scopes.depths.items) (entry tables.headed.items) turns
        (round_by net up) best choice total nested are.scopes.depths are.headed is levels.solved rounds ways total-is).1;
  }

  -- The counts of the way out have room.
  pub out-room : (way : List ℕ) → Follows (plain net tables) 0 choice ((plain net tables).to 1) way → (i : ℕ) →
      IsUpTo (length net.arcs) i → bit (1 == i) + 1 * times way i < 2 ^ 64
  out-room way follows i u =
      let settled = out-settled way follows in
      omega (
        arith,
        counted-small s (value_at_end s price) turns 0 total (1 ∷ way) (λ l. []) (times (1 ∷ way)) nest settled.costly
            settled.out (ways-start s (weight_of s (value_at_end s price) turns) turns nest)
            (counted-start s (1 ∷ way) (times (1 ∷ way)) (λ k v. refl)) i u,
        settled.low,
      )

  -- With them the levels can be put back.
  pub out-ready : (way : List ℕ) (counts : ℕ → ℕ) →
      Follows (plain net tables) 0 choice ((plain net tables).to 1) way →
      ((i : ℕ) → IsUpTo (length net.arcs) i → counts i ≡ bit (1 == i) + 1 * times way i) →
      IsReady (plain net tables) price weight turns (1 ∷ way) total 0 counts
  out-ready way counts follows is_counted = record {
    levels = levels;
    settled = out-settled way follows;
    counted = record {
      ways = λ l. [];
      are = ways-start s (weight_of s (value_at_end s price) turns) turns nest;
      counted = counted-start s (1 ∷ way) counts (λ i u. omega (arith, is_counted i u));
    };
  }

  -- And all put back they have the greatest value.
  pub out-greatest : (way : List ℕ) (counts : ℕ → ℕ) (deepest : ℕ) →
      ((scope : ℕ) → entry tables.scopes.depths.items scope ≤ deepest) →
      IsReady (plain net tables) price weight turns (1 ∷ way) total deepest counts →
      AreGreatest program (counts_to counts (length net.arcs))
  out-greatest way counts deepest deep ready =
      counts-greatest net price program (entry tables.scopes.depths.items) (entry tables.headed.items) turns
      (round_by net up) best choice counts deepest total (1 ∷ way) nested are.scopes.depths are.headed is levels.solved
      ways total-is ready.settled.out (λ l u. deep l) ready.counted

-- A fresh table in which arc 1 came once.
pub counts-first : (table : List ℕ) (i : ℕ) → ((k : ℕ) → entry table k ≡ 0) → 1 < length table →
    entry (set table 1 1) i ≡ bit (1 == i)
counts-first table i fresh low =
    let puts = puts-set table 1 1 low in
    elim (cases_eq i 1) as (λ _. entry (set table 1 1) i ≡ bit (1 == i)) [
      | inl same ↦ ap (entry (set table 1 1)) same ∙ puts.here ∙ sym (bit_same 1 i (sym same))
      | inr differ ↦ puts.others i differ ∙ fresh i ∙ sym (bit_other 1 i (λ e. differ (sym e)))
    ]
