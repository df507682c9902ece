-- What is feasible when each first miss is taken as a hit is feasible for the program.
use Rattle.std.proofs.Common.{◌≡◌, ℕ, zero, suc, ◌≤◌, ◌||◌, Bool, true, false, List, [], ◌∷◌, ◌++◌, length, map, All, refl, sym, subst, arith}
use Rattle.std.proofs.lemmas.Int.{ints}
use Rattle.std.proofs.lemmas.List.Elements.{All-append, All-cons, All-head, All-nil, All-same, All-tail}
use lib.IntN.{ℤ, pos, ◌-ℤ◌, ◌*ℤ◌}
use lib.Signed.{◌≤ℤ◌}
use Rattle.flow_net.specs.declared.net.Net.{Net}
use Rattle.ipet_program.specs.Counts.{IsFeasible, IsMet, row_sum}
use Rattle.ipet_program.specs.Forms.{as_hit, hit_form, is_first_miss, some_scope}
use Rattle.ipet_program.specs.Rows.{one_if, rows_of, term_of, terms_of}
use Rattle.ipet_program.specs.StageRows.{chain_row, enters_by, first_row, rows_for, stage_rows, zero_row, zero_rows}
use Rattle.ipet_program.specs.declared.program.Program.{Program}
use Rattle.ipet_program.specs.declared.program.Row.{Row}
use Rattle.ipet_program.specs.declared.program.Stage.{Stage}
use Rattle.ipet_program.proofs.Caps.{All-behind, All-front}
use Rattle.ipet_program.proofs.Terms.{row_sum-append, row_sum-term, row_sum-terms}
use Rattle.ipet_program.proofs.Totals.{total_to}

module _ (net : Net) (counts : ℕ → ℕ) where
  -- Less the picked arcs, nothing is above 0.
  picked-low : (picks : Bool) (n : ℕ) → ((pos 0 -ℤ one_if picks) *ℤ pos n) ≤ℤ pos 0
  picked-low true n = omega (arith, ints)
  picked-low false n = omega (arith, ints)

  less-low : (picks : ℕ → Bool) (n : ℕ) → total_to n (λ j. (pos 0 -ℤ one_if (picks j)) *ℤ pos (counts j)) ≤ℤ pos 0
  less-low picks zero = omega (arith, ints)
  less-low picks (suc n) =
      let rest = less-low picks n in
      let last = picked-low (picks (suc n)) (counts (suc n)) in
      omega (arith, ints)

  -- A column that doesn't count is at most any arcs.
  first-low : (column scope : ℕ) → counts column ≡ 0 → IsMet counts (first_row net column scope)
  first-low column scope none =
      let factor : ℕ → ℤ = λ arc. pos 0 -ℤ one_if (enters_by net scope arc) in
      let parts = row_sum-append counts (terms_of factor (length net.arcs)) (term_of column (pos 1)) in
      let first = row_sum-terms counts factor (length net.arcs) in
      let low = less-low (enters_by net scope) (length net.arcs) in
      let last = row_sum-term counts column (pos 1) in
      omega (arith, ints)

  firsts-low : (column : ℕ) → counts column ≡ 0 → (scopes : List ℕ) → All (IsMet counts) (map (first_row net column) scopes)
  firsts-low column none [] = All-nil (IsMet counts)
  firsts-low column none (scope ∷ more) =
      All-cons (IsMet counts) (first_row net column scope) (map (first_row net column) more)
      (first-low column scope none) (firsts-low column none more)

  zero-none : (column : ℕ) → IsMet counts (zero_row column) → counts column ≡ 0
  zero-none column met =
      let last = row_sum-term counts column (pos 1) in
      omega (arith, ints, met)

  -- ---- The rows of a stage.
  rest-met : (column : ℕ) (never : Bool) (firsts : List ℕ) →
      All (IsMet counts) (zero_rows (never || some_scope firsts) column ++ []) →
      All (IsMet counts) (zero_rows never column ++ map (first_row net column) firsts)
  rest-met column true firsts met =
      let zero_met = All-head (IsMet counts) (zero_row column) [] met in
      All-cons (IsMet counts) (zero_row column) (map (first_row net column) firsts) zero_met
      (firsts-low column (zero-none column zero_met) firsts)
  rest-met column false [] met = All-nil (IsMet counts)
  rest-met column false (scope ∷ inner) met =
      firsts-low column (zero-none column (All-head (IsMet counts) (zero_row column) [] met)) (scope ∷ inner)

  rows-met : (column : ℕ) (stage : Stage) → All (IsMet counts) (rows_for net column (as_hit stage)) →
      All (IsMet counts) (rows_for net column stage)
  rows-met column stage met =
      let chain = chain_row net.arcs stage.place stage.before column in
      let rest = zero_rows (stage.never || some_scope stage.firsts) column ++ [] in
      All-cons (IsMet counts) chain (zero_rows stage.never column ++ map (first_row net column) stage.firsts)
      (All-head (IsMet counts) chain rest met)
      (rest-met column stage.never stage.firsts (All-tail (IsMet counts) chain rest met))

  stages-met : (column : ℕ) (stages : List Stage) → All (IsMet counts) (stage_rows net column (map as_hit stages)) →
      All (IsMet counts) (stage_rows net column stages)
  stages-met column [] met = All-nil (IsMet counts)
  stages-met column (stage ∷ more) met =
      let own = rows_for net column (as_hit stage) in
      let others = stage_rows net (suc column) (map as_hit more) in
      All-append (IsMet counts) (rows_for net column stage) (stage_rows net (suc column) more)
      (rows-met column stage (All-front (IsMet counts) own others met))
      (stages-met (suc column) more (All-behind (IsMet counts) own others met))

pub hit-feasible : (net : Net) (program : Program) (counts : ℕ → ℕ) →
    program.rows ≡ rows_of net ++ stage_rows net (suc (length net.arcs)) program.stages →
    IsFeasible (hit_form net program) counts → IsFeasible program counts
hit-feasible net program counts rows met =
    let own = stage_rows net (suc (length net.arcs)) (map as_hit program.stages) in
    All-same (IsMet counts) program.rows (rows_of net ++ stage_rows net (suc (length net.arcs)) program.stages) rows
    (All-append (IsMet counts) (rows_of net) (stage_rows net (suc (length net.arcs)) program.stages)
    (All-front (IsMet counts) (rows_of net) own met)
    (stages-met net counts (suc (length net.arcs)) program.stages (All-behind (IsMet counts) (rows_of net) own met)))
