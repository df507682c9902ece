-- The rows of loop instances get a further arc.
use Rattle.std.proofs.Common.{◌≡◌, ℕ, zero, suc, ◌+◌, ◌≤◌, ◌==◌, ◌&&◌, not, Bool, true, false, ℤ, pos, ◌-ℤ◌, ◌*ℤ◌, List, length, Option, Some, None, refl, sym, ◌∙◌, ap, subst, ◌++◌, inl, inr, arith}
use Rattle.std.proofs.lemmas.Bool.{cases_eq}
use Rattle.std.proofs.lemmas.Bool.Decides.{Decides-eqb}
use Rattle.std.proofs.lemmas.Int.{ints}
use Rattle.flow_net.specs.Nested.{IsNested}
use Rattle.flow_net.specs.Numbers.{IsNumberOf, item_at}
use Rattle.flow_net.specs.Scopes.{holds_of}
use Rattle.flow_net.specs.declared.net.LoopInst.{LoopInst}
use Rattle.flow_net.specs.declared.net.Net.{Net}
use Rattle.flow_net.specs.declared.net.NetArc.{NetArc}
use Rattle.flow_net.specs.declared.net.Place.{Place}
use Rattle.flow_net.proofs.Headers.{header-scope}
use Rattle.flow_net.proofs.Numbers.{item_at-all, item_at-same}
use Rattle.ipet_program.specs.Rows.{comes_to, is_entering, loop_factor, loop_row, loop_row_of, one_if, term_of, terms_of}
use Rattle.ipet_program.specs.Sums.{numbered}
use Rattle.ipet_program.specs.Tables.{IsLoopAt, empty_row, grown, loop_part, loop_row_by, loop_row_to, with_term}
use Rattle.ipet_program.specs.declared.program.Row.{Row}
use Rattle.ipet_program.specs.declared.program.Term.{Term}
use Rattle.ipet_program.proofs.Growth.{grown-there, grown-other, terms_of-more, with_term-zero}
use Rattle.ipet_program.proofs.Numbered.{numbered-same}
use Rattle.ipet_program.proofs.Told.{not_told}

-- No loop instance has 0 as its header.
pub loop-none : (net : Net) → IsNested net → (place : ℕ) → place ≡ 0 → IsLoopAt net place 0
loop-none net nested place outside =
    record {
      within = omega arith;
      only = λ scope inst there. (
        λ same. absurd (omega (
          arith,
          same,
          outside,
          (item_at-all (λ (i : LoopInst). IsNumberOf net.places i.header) net.loops scope inst
              nested.numbers.headers there).from_one,
        )),
        λ none. absurd (run scope inst there none),
      );
    }
  where
    run : (scope : ℕ) (inst : LoopInst) → item_at scope net.loops ≡ Some inst → scope ≡ 0 → ⊥
    run zero inst there none = grind arith
    run (suc scope) inst there none = omega (arith, none)

-- The innermost scope of a header is its loop instance.
pub loop-own : (net : Net) → IsNested net → (number : ℕ) (place : Place) (own : LoopInst) →
    item_at number net.places ≡ Some place → item_at place.scope net.loops ≡ Some own → own.header ≡ number →
    place.scope ≤ length net.loops → IsLoopAt net number place.scope
loop-own net nested number place own at there same within =
    record {
      within = within;
      only = λ scope inst found. (
        λ header. sym (header-scope net nested scope inst place found
            (subst (λ (n : ℕ). item_at n net.places ≡ Some place) (sym header) at)),
        λ is. ap (λ (i : LoopInst). i.header) (item_at-same net.loops scope inst own found
            (subst (λ (s : ℕ). item_at s net.loops ≡ Some own) (sym is) there)) ∙ same,
      );
    }

-- A place whose innermost scope has another header is no header.
pub loop-other : (net : Net) → IsNested net → (number : ℕ) (place : Place) →
    item_at number net.places ≡ Some place →
    ((own : LoopInst) → item_at place.scope net.loops ≡ Some own → own.header ≡ number → ⊥) →
    IsLoopAt net number 0
loop-other net nested number place at differ =
    record {
      within = omega arith;
      only = λ scope inst found. (
        λ header. absurd (differ inst (subst (λ (s : ℕ). item_at s net.loops ≡ Some inst)
            (sym (header-scope net nested scope inst place found
            (subst (λ (n : ℕ). item_at n net.places ≡ Some place) (sym header) at))) found) header),
        λ none. absurd (run scope inst found none),
      );
    }
  where
    run : (scope : ℕ) (inst : LoopInst) → item_at scope net.loops ≡ Some inst → scope ≡ 0 → ⊥
    run zero inst found none = grind arith
    run (suc scope) inst found none = omega (arith, none)

-- An arc to another place has no part in the row of a loop instance.
part-other : (bound : ℕ) (to out : Bool) → to ≡ false →
    one_if to -ℤ pos bound *ℤ one_if (to && out) ≡ pos 0
part-other bound true out e = cc
part-other bound false out e = omega (arith, ints)

part-there : (bound : ℕ) (to out : Bool) → to ≡ true →
    one_if to -ℤ pos bound *ℤ one_if (to && out) ≡ pos 1 -ℤ pos bound *ℤ one_if out
part-there bound true out e = refl
part-there bound false out e = cc

-- The part of an arc in the row of each loop instance, by the one that has its end as its header.
module _ (net : Net) (arc : NetArc) (number : ℕ) (is : IsLoopAt net arc.to number) where
  pub part-elsewhere : (scope : ℕ) (found : Option LoopInst) → item_at scope net.loops ≡ found →
      (scope ≡ number → ⊥) → loop_part (holds_of net scope) arc found ≡ pos 0
  part-elsewhere scope None there differ = refl
  part-elsewhere scope (Some inst) there differ =
      part-other inst.bound (arc.to == inst.header) (not (holds_of net scope arc.from))
      (not_told (arc.to == inst.header)
      (λ e. differ ((is.only scope inst there).0 (sym ((Decides-eqb arc.to inst.header).0 e)))))

  pub part-own : (inst : LoopInst) → item_at number net.loops ≡ Some inst →
      loop_part (holds_of net number) arc (Some inst) ≡ pos 1 -ℤ pos inst.bound *ℤ one_if (not (holds_of net number arc.from))
  part-own inst there =
      part-there inst.bound (arc.to == inst.header) (not (holds_of net number arc.from))
      ((Decides-eqb arc.to inst.header).1 (sym ((is.only number inst there).1 refl)))

  -- Rows that got the arc's term.
  pub grown-loop : (row : ℕ → Row) (column n : ℕ) (factor : ℤ) (inst : LoopInst) →
      item_at number net.loops ≡ Some inst →
      factor ≡ pos 1 -ℤ pos inst.bound *ℤ one_if (not (holds_of net number arc.from)) →
      numbered (grown row number column factor) n
      ≡ numbered (λ scope. with_term (row scope) column (loop_part (holds_of net scope) arc (item_at scope net.loops))) n
  grown-loop row column n factor inst there same =
      numbered-same (grown row number column factor)
      (λ scope. with_term (row scope) column (loop_part (holds_of net scope) arc (item_at scope net.loops))) n
      (λ scope low high. elim (cases_eq scope number)
      as (λ _. grown row number column factor scope
      ≡ with_term (row scope) column (loop_part (holds_of net scope) arc (item_at scope net.loops))) [
        | inl e ↦ subst (λ (s : ℕ). grown row number column factor s
            ≡ with_term (row s) column (loop_part (holds_of net s) arc (item_at s net.loops))) (sym e)
            (grown-there row number column factor
            ∙ ap (λ (f : ℤ). with_term (row number) column f)
            (same ∙ sym (ap (loop_part (holds_of net number) arc) there ∙ part-own inst there)))
        | inr differ ↦ sym (grown-other row number column factor scope differ)
            ∙ sym (with_term-zero (row scope) column)
            ∙ ap (λ (f : ℤ). with_term (row scope) column f)
            (sym (part-elsewhere scope (item_at scope net.loops) refl differ))
      ])

  -- Where the arc's end is no header, no row gets a term.
  pub grown-none : (row : ℕ → Row) (column n : ℕ) → number ≡ 0 →
      numbered row n
      ≡ numbered (λ scope. with_term (row scope) column (loop_part (holds_of net scope) arc (item_at scope net.loops))) n
  grown-none row column n none =
      numbered-same row
      (λ scope. with_term (row scope) column (loop_part (holds_of net scope) arc (item_at scope net.loops))) n
      (λ scope low high. sym (with_term-zero (row scope) column)
      ∙ ap (λ (f : ℤ). with_term (row scope) column f)
      (sym (part-elsewhere scope (item_at scope net.loops) refl (λ e. omega (arith, e, none, low)))))

-- The rows by one more arc.
row-next : (arcs : List NetArc) (held : ℕ → Bool) (index : ℕ) (arc : NetArc) (found : Option LoopInst) →
    item_at (index + 1) arcs ≡ Some arc →
    with_term (loop_row_by arcs held index found) (index + 1) (loop_part held arc found)
    ≡ loop_row_by arcs held (index + 1) found
row-next arcs held index arc None there = refl
row-next arcs held index arc (Some inst) there =
    ap (λ (terms : List Term). record { equal = false; terms = terms; right = pos 0 })
    (ap (λ (at : Option NetArc). terms_of (loop_factor arcs held inst) index
    ++ term_of (index + 1) (one_if (comes_to inst.header at) -ℤ pos inst.bound *ℤ one_if
    (is_entering held inst.header at)))
    (sym there)
    ∙ sym (terms_of-more (loop_factor arcs held inst) index))

pub loop_rows-next : (net : Net) (index n : ℕ) (arc : NetArc) →
    item_at (index + 1) net.arcs ≡ Some arc →
    numbered (λ scope. with_term (loop_row_to net index scope) (index + 1)
    (loop_part (holds_of net scope) arc (item_at scope net.loops))) n
    ≡ numbered (loop_row_to net (index + 1)) n
loop_rows-next net index n arc there =
    numbered-same (λ scope. with_term (loop_row_to net index scope) (index + 1)
    (loop_part (holds_of net scope) arc (item_at scope net.loops))) (loop_row_to net (index + 1)) n
    (λ scope low high. row-next net.arcs (holds_of net scope) index arc (item_at scope net.loops) there)

-- With all arcs they are the rows of the program.
row-whole : (arcs : List NetArc) (held : ℕ → Bool) (found : Option LoopInst) →
    loop_row_by arcs held (length arcs) found ≡ loop_row_of arcs held found
row-whole arcs held None = refl
row-whole arcs held (Some inst) = refl

pub loop_rows-whole : (net : Net) (n : ℕ) →
    numbered (loop_row_to net (length net.arcs)) n ≡ numbered (loop_row net) n
loop_rows-whole net n =
    numbered-same (loop_row_to net (length net.arcs)) (loop_row net) n
    (λ scope low high. row-whole net.arcs (holds_of net scope) (item_at scope net.loops))

-- Without arcs they have no terms.
row-first : (arcs : List NetArc) (held : ℕ → Bool) (found : Option LoopInst) →
    empty_row false ≡ loop_row_by arcs held 0 found
row-first arcs held None = refl
row-first arcs held (Some inst) = refl

pub loop_rows-first : (net : Net) (n : ℕ) →
    numbered (λ (number : ℕ). empty_row false) n ≡ numbered (loop_row_to net 0) n
loop_rows-first net n =
    numbered-same (λ (number : ℕ). empty_row false) (loop_row_to net 0) n
    (λ scope low high. row-first net.arcs (holds_of net scope) (item_at scope net.loops))
