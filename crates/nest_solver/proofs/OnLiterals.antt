-- A loop within a loop, and its program, written out: the net is nested, and the program is that of the net.
use Rattle.std.proofs.Common.{◌≡◌, ℕ, zero, suc, ◌^◌, ◌≤◌, List, [], ◌∷◌, length, true, false, refl, subst, sym, arith}
use Rattle.flow_net.specs.Nested.{IsNested}
use Rattle.flow_net.specs.Numbers.{IsNumberOf}
use Rattle.flow_net.specs.declared.net.Net.{Net}
use Rattle.flow_net.proofs.OnNested.{two_loops, nested_two_loops}
use Rattle.ipet_program.specs.declared.program.Program.{Program}
use Rattle.ipet_program.specs.declared.program.Row.{Row}
use Rattle.ipet_program.specs.declared.program.Term.{Term}
use Rattle.nest_solver.specs.Nets.{IsProgramOfNet}
use lib.IntN.{ℤ, pos, negsuc}

abbrev pub term : (column : ℕ) (factor : ℤ) → Term
term column factor = record { column = column; factor = factor }

-- The rows of the entry, of the two places and of the two loops.
abbrev pub two_rows : List Row
two_rows =
    record { equal = true; terms = term 1 (pos 1) ∷ []; right = pos 1 }
    ∷ record {
      equal = true;
      terms = term 1 (pos 1) ∷ term 2 (negsuc 0) ∷ term 4 (pos 1) ∷ term 5 (negsuc 0) ∷ [];
      right = pos 0;
    }
    ∷ record { equal = true; terms = term 2 (pos 1) ∷ term 4 (negsuc 0) ∷ []; right = pos 0 }
    ∷ record { equal = false; terms = term 1 (negsuc 1) ∷ term 4 (pos 1) ∷ []; right = pos 0 }
    ∷ record { equal = false; terms = term 2 (negsuc 2) ∷ term 3 (pos 1) ∷ []; right = pos 0 }
    ∷ []

-- Place 1 costs 10 cycles, place 2 costs 100.
abbrev pub two_price : ℕ → ℕ
two_price zero = 0
two_price (suc zero) = 10
two_price (suc (suc p)) = 100

abbrev pub two_program : Program
two_program =
    record {
      columns = 5;
      rows = two_rows;
      value = pos 10 ∷ pos 100 ∷ pos 100 ∷ pos 10 ∷ pos 0 ∷ [];
      caps = 1 ∷ 3 ∷ 12 ∷ 12 ∷ 3 ∷ [];
      stages = [];
    }

costly : (p : ℕ) → IsNumberOf two_loops.places p → 1 ≤ two_price p
costly zero number = absurd (omega (arith, number.from_one))
costly (suc zero) number = omega arith
costly (suc (suc p)) number = omega arith

pub two_program_of : IsProgramOfNet two_loops two_program
two_program_of = record {
  price = two_price;
  of_net = record {
    outside = refl;
    columns = refl;
    rows = refl;
    value = refl;
    caps = refl;
    stages = refl;
    costly = costly;
    low = omega arith;
  };
}

-- What is known of a net and a program that are these.
pub record AreTwo (net : Net) (program : Program) : Type 0 where
  pub nested : IsNested net
  pub few : length net.arcs ≤ 2 ^ 28
  pub program_of : IsProgramOfNet net program

are_two : AreTwo two_loops two_program
are_two = record {
  nested = nested_two_loops;
  few = omega arith;
  program_of = two_program_of;
}

pub two : (net : Net) (program : Program) → net.contexts ≡ two_loops.contexts → net.places ≡ two_loops.places →
    net.arcs ≡ two_loops.arcs → net.loops ≡ two_loops.loops → net.accesses ≡ two_loops.accesses →
    program.columns ≡ 5 → program.rows ≡ two_rows → program.value ≡ two_program.value →
    program.caps ≡ two_program.caps → program.stages ≡ [] → AreTwo net program
two net program a b c d e f g h i j =
    let nets : two_loops ≡ net =
    λ t. record { contexts = sym a t; places = sym b t; arcs = sym c t; loops = sym d t; accesses = sym e t } in
    let programs : two_program ≡ program =
    λ t. record { columns = sym f t; rows = sym g t; value = sym h t; caps = sym i t; stages = sym j t } in
    subst (λ (n : Net). AreTwo n program) nets (subst (λ (p : Program). AreTwo two_loops p) programs are_two)

pub two_all : (net : Net) (program : Program) → net.contexts ≡ two_loops.contexts → net.places ≡ two_loops.places →
    net.arcs ≡ two_loops.arcs → net.loops ≡ two_loops.loops → net.accesses ≡ two_loops.accesses →
    program.columns ≡ 5 → program.rows ≡ two_rows → program.value ≡ two_program.value →
    program.caps ≡ two_program.caps → program.stages ≡ [] →
    IsNested net × (length net.arcs ≤ 2 ^ 28) × IsProgramOfNet net program
two_all net program a b c d e f g h i j =
    let are = two net program a b c d e f g h i j in
    (are.nested, are.few, are.program_of)
