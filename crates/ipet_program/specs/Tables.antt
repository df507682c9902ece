-- The tables from which a program is built: prices, turns, and rows that grow by a column at a time.
use Rattle.std.specs.Prelude.{◌≡◌, ℕ, ◌-◌, ◌^◌, ◌≤◌, ◌↔◌, ◌==◌, ◌&&◌, not, min, Bool, true, false, ℤ, pos, ◌-ℤ◌, ◌*ℤ◌, List, [], ◌++◌, length, All, Option, Some, None, if◌then◌else◌}
use Rattle.flow_net.specs.Numbers.{item_at, IsNumberOf, IsNumberOrZero}
use Rattle.flow_net.specs.Scopes.{ChainsEnd, IsWithin, holds_of}
use Rattle.flow_net.specs.declared.net.LoopInst.{LoopInst}
use Rattle.flow_net.specs.declared.net.Net.{Net}
use Rattle.flow_net.specs.declared.net.NetArc.{NetArc}
use Rattle.ipet_program.specs.Costs.{full_limit, price_limit}
use Rattle.ipet_program.specs.Programs.{arc_cap, arc_value, crude_limit, crude_of}
use Rattle.ipet_program.specs.Rows.{loop_factor, one_if, place_factor, rows_of, term_of, terms_of}
use Rattle.ipet_program.specs.Scopes.{bound_of, turns_at}
use Rattle.ipet_program.specs.Sums.{numbered, product_to}
use Rattle.ipet_program.specs.declared.program.Program.{Program}
use Rattle.ipet_program.specs.declared.program.Row.{Row}

-- The cycles of a unit: at least one, as each class takes one.
abbrev pub IsPrice : ℕ → Type 0
IsPrice price = (1 ≤ price) × (price ≤ price_limit)

-- The most cycles of a unit, through all stages.
abbrev pub IsFullPrice : ℕ → Type 0
IsFullPrice price = (1 ≤ price) × (price ≤ full_limit)

-- A number is kept with 128 bits: a greater one as the greatest of them.
abbrev pub in_128 : ℕ → ℕ
in_128 n = min n (2 ^ 128 - 1)

-- A test of two scopes that tells whether the second one is within the first.
abbrev pub TellsWithin : List LoopInst → (ℕ → ℕ → Bool) → Type 0
TellsWithin loops within = (outer scope : ℕ) → (within outer scope ≡ true) ↔ IsWithin loops outer scope

-- The product of the bounds of the loop instances round a scope, itself among them.
abbrev pub turns_round : List LoopInst → (ℕ → ℕ → Bool) → ℕ → ℕ
turns_round loops within scope =
    product_to (length loops) (λ outer. if within outer scope then bound_of (item_at outer loops) else 1)

-- The turns of a scope, whatever the test.
abbrev pub AreTurnsOf : List LoopInst → (scope turns : ℕ) → Type 0
AreTurnsOf loops scope turns =
    (within : ℕ → ℕ → Bool) → TellsWithin loops within → turns ≡ in_128 (turns_round loops within scope)

-- How often the loops round a place let it be visited.
abbrev pub AreTurnsAt : Net → (place turns : ℕ) → Type 0
AreTurnsAt net place turns = turns ≡ in_128 (turns_at net place)

-- The table of the turns of the loop instances.
abbrev pub AreTurns : List LoopInst → List ℕ → Type 0
AreTurns loops turns =
    (within : ℕ → ℕ → Bool) → TellsWithin loops within →
    turns ≡ numbered (λ scope. in_128 (turns_round loops within scope)) (length loops)

-- The chains of outer scopes end, and each bound is at least 1.
pub record AreChains (loops : List LoopInst) : Type 0 where
  pub outers : All (λ inst. IsNumberOrZero loops inst.outer) loops
  pub ends : ChainsEnd loops
  pub bounds : All (λ inst. 1 ≤ inst.bound) loops

-- The crude bound, of a table of the prices of the places.
abbrev pub IsCrude : Net → List ℕ → (crude : ℕ) → Type 0
IsCrude net prices crude =
    (price : ℕ → ℕ) → prices ≡ numbered price (length net.places) → crude ≡ in_128 (crude_of net price)

-- The value of each arc, of a table of the prices of the places.
abbrev pub AreValues : Net → List ℕ → List ℤ → Type 0
AreValues net prices values =
    (price : ℕ → ℕ) → price 0 ≡ 0 → prices ≡ numbered price (length net.places) →
    values ≡ numbered (λ column. arc_value price (item_at column net.arcs)) (length net.arcs)

-- The cap of an arc from a place, and of each arc.
abbrev pub IsCap : Net → (from cap : ℕ) → Type 0
IsCap net from cap = cap ≡ (if from == 0 then 1 else turns_at net from)

abbrev pub AreCaps : Net → List ℕ → Type 0
AreCaps net caps = caps ≡ numbered (λ column. arc_cap net (item_at column net.arcs)) (length net.arcs)

-- The loops round each place let it be visited at most as often as the limit of the crude bound says.
abbrev pub AreLow : Net → Type 0
AreLow net = (place : ℕ) → IsNumberOf net.places place → turns_at net place ≤ crude_limit

-- A row without terms, with the right side 0.
abbrev pub empty_row : (equal : Bool) → Row
empty_row equal = record { equal = equal; terms = []; right = pos 0 }

-- A row with a further term.
abbrev pub with_term : Row → (column : ℕ) → (factor : ℤ) → Row
with_term row column factor =
    record { equal = row.equal; terms = row.terms ++ term_of column factor; right = row.right }

-- Rows of which one, if it is among them, has got a further term.
abbrev pub grown : (ℕ → Row) → (number column : ℕ) → (factor : ℤ) → ℕ → Row
grown row number column factor place =
    if number == place then with_term (row place) column factor else row place

-- The row of a number gains a term.
abbrev pub GainTerm : List Row → (number column : ℕ) → (factor : ℤ) → List Row → Type 0
GainTerm before number column factor after =
    (row : ℕ → Row) → before ≡ numbered row (length before) →
    after ≡ numbered (grown row number column factor) (length before)

-- The rows of places by the first arcs alone.
abbrev pub place_row_to : List NetArc → (count : ℕ) → ℕ → Row
place_row_to arcs count place =
    record { equal = true; terms = terms_of (place_factor arcs place) count; right = pos 0 }

-- The factor of an arc in the row of a place.
abbrev pub place_part : NetArc → ℕ → ℤ
place_part arc place = one_if (arc.to == place) -ℤ one_if (arc.from == place)

-- The rows of places gain an arc.
abbrev pub GainAtPlaces : List Row → (column : ℕ) → NetArc → List Row → Type 0
GainAtPlaces before column arc after =
    (row : ℕ → Row) → before ≡ numbered row (length before) →
    after ≡ numbered (λ place. with_term (row place) column (place_part arc place)) (length before)

-- The rows of loop instances by the first arcs alone.
abbrev pub loop_row_by : List NetArc → (held : ℕ → Bool) → (count : ℕ) → Option LoopInst → Row
loop_row_by arcs held count None = record { equal = false; terms = []; right = pos 0 }
loop_row_by arcs held count (Some inst) =
    record { equal = false; terms = terms_of (loop_factor arcs held inst) count; right = pos 0 }

abbrev pub loop_row_to : Net → (count : ℕ) → (scope : ℕ) → Row
loop_row_to net count scope = loop_row_by net.arcs (holds_of net scope) count (item_at scope net.loops)

-- Such a row for each loop instance.
abbrev pub AreLoopRows : Net → (count : ℕ) → List Row → Type 0
AreLoopRows net count rows = rows ≡ numbered (loop_row_to net count) (length net.loops)

-- The factor of an arc in the row of a loop instance.
abbrev pub loop_part : (held : ℕ → Bool) → NetArc → Option LoopInst → ℤ
loop_part held arc None = pos 0
loop_part held arc (Some inst) =
    one_if (arc.to == inst.header)
    -ℤ pos inst.bound *ℤ one_if ((arc.to == inst.header) && not (held arc.from))

-- The rows of loop instances gain an arc.
abbrev pub GainAtLoops : Net → List Row → (column : ℕ) → NetArc → List Row → Type 0
GainAtLoops net before column arc after =
    (row : ℕ → Row) → before ≡ numbered row (length before) →
    after ≡ numbered
    (λ scope. with_term (row scope) column (loop_part (holds_of net scope) arc (item_at scope net.loops)))
    (length before)

-- The number of the loop instance with this header; 0 where none has it.
pub record IsLoopAt (net : Net) (place number : ℕ) : Type 0 where
  pub within : number ≤ length net.loops
  pub only : (scope : ℕ) (inst : LoopInst) → item_at scope net.loops ≡ Some inst →
      (inst.header ≡ place) ↔ (scope ≡ number)

-- The parts of the program of a net, of a table of the prices of its places.
pub record HasParts (net : Net) (prices : List ℕ) (program : Program) : Type 0 where
  pub columns : program.columns ≡ length net.arcs
  pub rows : program.rows ≡ rows_of net
  pub value : AreValues net prices program.value
  pub caps : AreCaps net program.caps
  pub stages : program.stages ≡ []
