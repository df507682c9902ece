-- The plain tables of a net.
use Rattle.std.specs.Prelude.{◌≡◌, ℕ, suc, ◌<◌, ◌==◌, nat_lt, List, length, Option, Some, None, slice_index_or, if◌then◌else◌}
use Rattle.flow_net.specs.Numbers.{item_at}
use Rattle.flow_net.specs.Scopes.{holds_of}
use Rattle.flow_net.specs.Visits.{target_of}
use Rattle.flow_net.specs.declared.net.LoopInst.{LoopInst}
use Rattle.flow_net.specs.declared.net.Net.{Net}
use Rattle.flow_net.specs.declared.net.NetArc.{NetArc}
use Rattle.flow_net.specs.declared.net.Place.{Place}
use Rattle.ipet_program.specs.Programs.{IsProgramOf}
use Rattle.ipet_program.specs.Scopes.{bound_of}
use Rattle.ipet_program.specs.declared.program.Program.{Program}
use Rattle.nest_solver.specs.Shape.{Shape}

-- The program is that of the net, at some prices of its places.
pub record IsProgramOfNet (net : Net) (program : Program) : Type 0 where
  pub price : ℕ → ℕ
  pub of_net : IsProgramOf net price program

-- A table by number: the entry of a number, 0 beyond its end. It has an entry for 0.
abbrev pub entry : List ℕ → ℕ → ℕ
entry table number = slice_index_or table number 0

-- Where an arc comes from, and the header of a loop instance.
abbrev pub source_of : Option NetArc → ℕ
source_of None = 0
source_of (Some arc) = arc.from

abbrev pub header_of : Option LoopInst → ℕ
header_of None = 0
header_of (Some inst) = inst.header

-- The innermost scope of a place, and the next scope outward of a scope; the run has none and stays.
abbrev pub scope_of : Option Place → ℕ
scope_of None = 0
scope_of (Some place) = place.scope

abbrev pub outer_of : Option LoopInst → ℕ
outer_of None = 0
outer_of (Some inst) = inst.outer

-- The depths of scopes: the run has 0, a loop instance one more than the next scope outward.
pub record HasDepths (net : Net) (depth : ℕ → ℕ) : Type 0 where
  pub run : depth 0 ≡ 0
  pub outward : (scope : ℕ) (inst : LoopInst) → item_at scope net.loops ≡ Some inst →
      depth scope ≡ suc (depth inst.outer)

-- The loop instance whose header a place is, 0 for none.
pub record HasHeaders (net : Net) (headed : ℕ → ℕ) : Type 0 where
  pub own : (scope : ℕ) (inst : LoopInst) → item_at scope net.loops ≡ Some inst →
      headed inst.header ≡ scope
  pub only : (place : ℕ) → 0 < headed place →
      (inst : LoopInst) × (item_at (headed place) net.loops ≡ Some inst) × (inst.header ≡ place)

-- The net as plain tables.
abbrev pub shape_of : Net → (depth headed : ℕ → ℕ) → Shape
shape_of net depth headed =
    record {
      arcs = length net.arcs;
      places = length net.places;
      loops = length net.loops;
      from = λ i. source_of (item_at i net.arcs);
      to = λ i. target_of (item_at i net.arcs);
      header = λ l. header_of (item_at l net.loops);
      bound = λ l. bound_of (item_at l net.loops);
      depth = depth;
      holds = holds_of net;
      headed = headed;
    }

-- The scope of a depth round another one, by the one round the next scope outward.
abbrev pub up_step : (deep depth scope outward : ℕ) → ℕ
up_step deep depth scope outward = if deep == depth then scope else (if nat_lt depth deep then outward else 0)

-- Of each scope the one of this depth that is round it, itself or further outward; 0 where there is none.
pub record AreUp (net : Net) (depths : ℕ → ℕ) (depth : ℕ) (up : ℕ → ℕ) : Type 0 where
  pub run : up 0 ≡ 0
  pub outward : (scope : ℕ) (inst : LoopInst) → item_at scope net.loops ≡ Some inst →
      up scope ≡ up_step (depths scope) depth scope (up inst.outer)

-- Of each place the loop of that depth that is round it. (`round-up` of proofs/NetShape.antt)
abbrev pub round_by : Net → (up : ℕ → ℕ) → ℕ → ℕ
round_by net up place = up (scope_of (item_at place net.places))

-- The value of an arc: the price of the place that it goes to.
abbrev pub value_at_end : Shape → (price : ℕ → ℕ) → ℕ → ℕ
value_at_end s price i = price (s.to i)
