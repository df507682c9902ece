-- What the tables of a net tell of its plain tables.
use Rattle.std.proofs.Common.{◌≡◌, ℕ, ◌+◌, ◌-◌, ◌<◌, Bool, List, length, get_or, sym, ap, subst, ◌∙◌, arith}
use Rattle.flow_net.specs.Nested.{IsNested}
use Rattle.flow_net.specs.declared.net.Net.{Net}
use Rattle.nest_solver.specs.Nets.{HasDepths, HasHeaders, entry, round_by}
use Rattle.nest_solver.specs.Orders.{AreAcyclic, arcs_of}
use Rattle.nest_solver.specs.Plain.{AreTables, IsUpSomewhere, plain}
use Rattle.nest_solver.specs.Shape.{IsNest, IsUpTo, is_back}
use Rattle.nest_solver.specs.Tables.{AreBacks, test_at}
use Rattle.nest_solver.specs.declared.tables.Tables.{Tables}
use Rattle.nest_solver.proofs.NetShape.{round-up, shape-nest}
use Rattle.nest_solver.proofs.Puts.{entry-read}
use Rattle.nest_solver.proofs.Sweeping.{AreBehind}

pub acyclic-backs : (net : Net) (depths headed : ℕ → ℕ) (backs : List Bool) → IsNested net → HasDepths net depths →
    HasHeaders net headed → AreBacks net headed backs → AreAcyclic (arcs_of net backs) (length net.places)
acyclic-backs net depths headed backs nested has heads told =
    let nest = shape-nest net depths headed nested has heads in
    record {
      starts = nest.starts;
      ends = nest.ends;
      rank = nest.rank;
      rises = λ i u from to forward. nest.rises i u from to (sym (told.told i u) ∙ forward);
    }

pub tables-nest : (net : Net) (tables : Tables) → IsNested net → AreTables net tables → IsNest (plain net tables)
tables-nest net tables nested are =
    shape-nest net (entry tables.scopes.depths.items) (entry tables.headed.items) nested are.scopes.depths are.headed

pub tables-back : (net : Net) (tables : Tables) → AreTables net tables → (i : ℕ) → IsUpTo (length net.arcs) i →
    test_at tables.backs.items i ≡ is_back (plain net tables) i
tables-back net tables are i u = are.backs.told i u

-- The arc that an index reads from the order is an arc, at the position behind it.
pub order-arc : (net : Net) (tables : Tables) (at arc : ℕ) → AreTables net tables →
    at < length tables.order.arcs.items → arc ≡ get_or tables.order.arcs.items at arc →
    IsUpTo (length net.arcs) arc × (entry tables.order.positions.items arc ≡ at + 1)
order-arc net tables at arc are low e =
    let read = entry-read tables.order.arcs.items at arc low e in (
      subst (λ (i : ℕ). IsUpTo (length net.arcs) i) (sym read) (are.order.up at low),
      ap (entry tables.order.positions.items) read ∙ are.order.told at low,
    )

pub tables-behind : (net : Net) (tables : Tables) → AreTables net tables →
    AreBehind (plain net tables) (entry tables.order.positions.items)
tables-behind net tables are = record {
  behind = λ i j u v forward goes same. are.order.behind i j u v (tables-back net tables are i u ∙ forward) goes same;
  one = λ i j u v same. sym (are.order.there i u)
      ∙ ap (λ (k : ℕ). entry tables.order.arcs.items (k - 1)) same ∙ are.order.there j v;
  some = λ i u. omega (arith, are.order.all i u);
}

-- The loop round a place is a loop of the depth.
pub round-here : (net : Net) (tables : Tables) (up : ℕ → ℕ) (place scope : ℕ) → IsNested net → AreTables net tables →
    IsUpSomewhere net tables up → scope ≡ round_by net up place → (scope ≡ 0 → ⊥) → IsUpTo (length net.loops) scope
round-here net tables up place scope nested are somewhere is some =
    subst (λ (l : ℕ). IsUpTo (length net.loops) l) (sym is)
    ((round-up net (entry tables.scopes.depths.items) (entry tables.headed.items) somewhere.depth up nested
    are.scopes.depths somewhere.are).here place (omega (arith, is, some))).0
