-- A program with further stages keeps the limits that the check of a certificate asks of it.
use Rattle.std.proofs.Common.{◌≡◌, ℕ, zero, suc, ◌+◌, ◌*◌, ◌^◌, ◌≤◌, Bool, true, false, ℤ, pos, negsuc, ◌-ℤ◌, List, [], ◌∷◌, ◌++◌, length, map, All, refl, sym, ◌∙◌, ap, subst, arith}
use Rattle.std.specs.Prelude.{if◌then◌else◌}
use Rattle.std.proofs.lemmas.List.{length-append, length-map}
use Rattle.std.proofs.lemmas.List.Elements.{All-append, All-cons, All-head, All-map, All-nil, All-same, All-tail, All-weaker}
use Rattle.cache_config.specs.Instructions.{Costs}
use Rattle.flow_net.specs.Numbers.{item_at}
use Rattle.flow_net.specs.declared.letter.Level2.{Level2}
use Rattle.flow_net.specs.declared.net.Access.{Access}
use Rattle.flow_net.specs.declared.net.Net.{Net}
use Rattle.flow_net.specs.declared.net.NetArc.{NetArc}
use Rattle.ipet_program.specs.Programs.{IsCheckable, IsSmall, IsSmallRow}
use Rattle.ipet_program.specs.Programs.IsSmall.{above, below}
use Rattle.ipet_program.specs.Rows.{comes_to, one_if, term_of, terms_of}
use Rattle.ipet_program.specs.Scopes.{turns_at}
use Rattle.ipet_program.specs.StageRows.{at_most_arcs, chain_row, enters_by, first_row, rows_for, stage_rows, zero_row, zero_rows}
use Rattle.ipet_program.specs.StageTables.{IsStageOf, IsStaged}
use Rattle.ipet_program.specs.Stages.{stages_by, stages_from}
use Rattle.ipet_program.specs.declared.program.Program.{Program}
use Rattle.ipet_program.specs.declared.program.Row.{Row}
use Rattle.ipet_program.specs.declared.program.Stage.{Stage}
use Rattle.ipet_program.specs.declared.program.Term.{Term}
use Rattle.ipet_program.proofs.Checkable.{IsTerm, few-terms, one-term, small-term, small-terms}
use Rattle.ipet_program.proofs.StageLists.{length-stages_from}

small-less : (b : Bool) → IsSmall (pos 0 -ℤ one_if b)
small-less true = below 0 (omega arith)
small-less false = above 0 (omega arith)

-- ---- The rows of a stage, in a program of so many columns.
module _ (total : ℕ) where
  small-at_most : (arcs : ℕ) (picks : ℕ → Bool) (column : ℕ) → arcs ≤ 2 ^ 25 → arcs ≤ total → 1 ≤ column → column ≤ total →
      IsSmallRow total (at_most_arcs arcs picks column)
  small-at_most arcs picks column few within low high =
      record {
        terms = All-append (IsTerm total) (terms_of (λ arc. pos 0 -ℤ one_if (picks arc)) arcs) (term_of column (pos 1))
            (small-terms total (λ arc. pos 0 -ℤ one_if (picks arc)) arcs within (λ arc. small-less (picks arc)))
            (small-term total column (pos 1) low high (above 1 (omega arith)));
        short = omega (
          arith,
          length-append (terms_of (λ arc. pos 0 -ℤ one_if (picks arc)) arcs) (term_of column (pos 1)),
          few-terms (λ arc. pos 0 -ℤ one_if (picks arc)) arcs,
          one-term column (pos 1),
        );
        right = above 0 (omega arith);
      }

  small-chain : (arcs : List NetArc) (place before column : ℕ) → length arcs ≤ 2 ^ 25 → length arcs ≤ total → before ≤ total →
      1 ≤ column → column ≤ total → IsSmallRow total (chain_row arcs place before column)
  small-chain arcs place zero column few within earlier low high =
      small-at_most (length arcs) (λ arc. comes_to place (item_at arc arcs)) column few within low high
  small-chain arcs place (suc before) column few within earlier low high =
      record {
        terms = All-append (IsTerm total) (term_of (suc before) (negsuc 0)) (term_of column (pos 1))
            (small-term total (suc before) (negsuc 0) (omega arith) earlier (below 0 (omega arith)))
            (small-term total column (pos 1) low high (above 1 (omega arith)));
        short = omega arith;
        right = above 0 (omega arith);
      }

  small-zeros : (never : Bool) (column : ℕ) → 1 ≤ column → column ≤ total → All (IsSmallRow total) (zero_rows never column)
  small-zeros false column low high = All-nil (IsSmallRow total)
  small-zeros true column low high =
      All-cons (IsSmallRow total) (zero_row column) []
      (record {
        terms = small-term total column (pos 1) low high (above 1 (omega arith));
        short = omega arith;
        right = above 0 (omega arith);
      })
      (All-nil (IsSmallRow total))

  small-firsts : (net : Net) (column : ℕ) (scopes : List ℕ) → length net.arcs ≤ 2 ^ 25 → length net.arcs ≤ total → 1 ≤ column →
      column ≤ total → All (IsSmallRow total) (map (first_row net column) scopes)
  small-firsts net column [] few within low high = All-nil (IsSmallRow total)
  small-firsts net column (scope ∷ more) few within low high =
      All-cons (IsSmallRow total) (first_row net column scope) (map (first_row net column) more)
      (small-at_most (length net.arcs) (enters_by net scope) column few within low high)
      (small-firsts net column more few within low high)

  small-stages : (net : Net) (column : ℕ) (stages : List Stage) → length net.arcs ≤ 2 ^ 25 → length net.arcs ≤ total → 1 ≤ column →
      column + length stages ≤ suc total → All (λ (stage : Stage). stage.before ≤ total) stages →
      All (IsSmallRow total) (stage_rows net column stages)
  small-stages net column [] few within low high earlier = All-nil (IsSmallRow total)
  small-stages net column (stage ∷ more) few within low high earlier =
      All-append (IsSmallRow total) (rows_for net column stage) (stage_rows net (suc column) more)
      (All-cons (IsSmallRow total) (chain_row net.arcs stage.place stage.before column)
      (zero_rows stage.never column ++ map (first_row net column) stage.firsts)
      (small-chain net.arcs stage.place stage.before column few within
      (All-head (λ (s : Stage). s.before ≤ total) stage more earlier) low (omega arith))
      (All-append (IsSmallRow total) (zero_rows stage.never column) (map (first_row net column) stage.firsts)
      (small-zeros stage.never column low (omega arith))
      (small-firsts net column stage.firsts few within low (omega arith))))
      (small-stages net (suc column) more few within (omega arith) (omega arith)
      (All-tail (λ (s : Stage). s.before ≤ total) stage more earlier))

  -- ---- Each stage comes after the one before it.
  after-before : (net : Net) (costs : Costs) (number : ℕ) (access : Access) (before level column : ℕ) (row : List Level2) →
      before ≤ total → column + length row ≤ suc total →
      All (λ (stage : Stage). stage.before ≤ total) (stages_from net costs number access before level column row)
  after-before net costs number access before level column [] earlier high = All-nil (λ (stage : Stage). stage.before ≤ total)
  after-before net costs number access before level column (entry ∷ more) earlier high =
      All-cons (λ (stage : Stage). stage.before ≤ total) _
      (stages_from net costs number access column (suc level) (suc column) more) earlier
      (after-before net costs number access column (suc level) (suc column) more (omega arith) (omega arith))

  pub befores : (net : Net) (costs : Costs) (number column : ℕ) (accesses : List Access) (rows : List (List Level2)) →
      column + length (stages_by net costs number column accesses rows) ≤ suc total →
      All (λ (stage : Stage). stage.before ≤ total) (stages_by net costs number column accesses rows)
  befores net costs number column [] rows high = All-nil (λ (stage : Stage). stage.before ≤ total)
  befores net costs number column (access ∷ more) [] high = All-nil (λ (stage : Stage). stage.before ≤ total)
  befores net costs number column (access ∷ more) (row ∷ rows) high =
      let front = stages_from net costs number access 0 1 column row in
      let rest = stages_by net costs (suc number) (column + length row) more rows in
      let both = length-append front rest in
      let long = length-stages_from net costs number access 0 1 column row in
      All-append (λ (stage : Stage). stage.before ≤ total) front rest
      (after-before net costs number access 0 1 column row (omega arith) (omega (arith, both, long, high)))
      (befores net costs (suc number) (column + length row) more rows (omega (arith, both, long, high)))

-- A program's rows are small in one with more columns.
more-columns : (n total : ℕ) (row : Row) → n ≤ total → IsSmallRow n row → IsSmallRow total row
more-columns n total row more small =
    record {
      terms = All-weaker (IsTerm n) (IsTerm total) (λ term is. (is.0, omega (arith, is.1), is.2)) row.terms small.terms;
      short = small.short;
      right = small.right;
    }

pub staged-checkable : (net : Net) (plain : Program) (further : List Stage) (program : Program) → IsCheckable plain →
    plain.columns ≡ length net.arcs → length net.arcs ≤ 2 ^ 25 → length further ≤ 9 * 2 ^ 16 → All (IsStageOf net) further →
    All (λ (stage : Stage). stage.before ≤ length net.arcs + length further) further → IsStaged net plain further program →
    IsCheckable program
staged-checkable net plain further program small columns few short known earlier staged =
    let total = length net.arcs + length further in
    let values = map (λ (stage : Stage). pos stage.latency) further in
    let caps = map (λ (stage : Stage). turns_at net stage.place) further in
    record {
      few = omega (arith, staged.columns);
      rows = subst (λ (n : ℕ). All (IsSmallRow n) program.rows) (sym staged.columns)
          (All-same (IsSmallRow total) program.rows (plain.rows ++ stage_rows net (suc (length net.arcs)) further) staged.rows
          (All-append (IsSmallRow total) plain.rows (stage_rows net (suc (length net.arcs)) further)
          (All-weaker (IsSmallRow plain.columns) (IsSmallRow total)
          (λ row is. more-columns plain.columns total row (omega (arith, columns)) is) plain.rows small.rows)
          (small-stages total net (suc (length net.arcs)) further few (omega arith) (omega arith) (omega arith) earlier)));
      values = All-same IsSmall program.value (plain.value ++ values) staged.value
          (All-append IsSmall plain.value values small.values
          (All-map IsSmall (λ (stage : Stage). pos stage.latency) further
          (All-weaker (IsStageOf net) (λ (stage : Stage). IsSmall (pos stage.latency))
          (λ stage is. above stage.latency (omega (arith, is.latency))) further known)));
      value = omega (
        arith,
        ap length staged.value,
        length-append plain.value values,
        length-map further (λ (stage : Stage). pos stage.latency),
        small.value,
        columns,
        staged.columns,
      );
      caps = omega (
        arith,
        ap length staged.caps,
        length-append plain.caps caps,
        length-map further (λ (stage : Stage). turns_at net stage.place),
        small.caps,
        columns,
        staged.columns,
      );
    }
