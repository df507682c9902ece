-- What the tables tell of an arc that enters a loop.
use Rattle.std.proofs.Common.{◌≡◌, ℕ, ◌-◌, ◌*◌, Bool, false, List, length, get_or, ap, subst, sym, arith, ◌∙◌}
use Rattle.flow_net.specs.Nested.{IsNested}
use Rattle.flow_net.specs.Numbers.{item_at}
use Rattle.flow_net.specs.Visits.{target_of}
use Rattle.flow_net.specs.declared.net.Net.{Net}
use Rattle.ipet_program.specs.Scopes.{bound_of}
use Rattle.nest_solver.specs.Levels.{extra}
use Rattle.nest_solver.specs.Nets.{entry}
use Rattle.nest_solver.specs.Plain.{AreTables, plain}
use Rattle.nest_solver.specs.Shape.{IsUpTo, target}
use Rattle.nest_solver.specs.Tables.{test_at}
use Rattle.nest_solver.specs.declared.tables.Tables.{Tables}
use Rattle.nest_solver.proofs.Heading.{marks-low}
use Rattle.nest_solver.proofs.Levels.{extra-in}
use Rattle.nest_solver.proofs.Plains.{tables-back}
use Rattle.nest_solver.proofs.Puts.{entry-read}
use Rattle.nest_solver.proofs.Sources.{target-within}

-- The loop to whose header an arc goes, as the table tells it.
pub target-read : (net : Net) (tables : Tables) (arc to scope : ℕ) → IsNested net → AreTables net tables →
    IsUpTo (length net.arcs) arc → to ≡ target_of (item_at arc net.arcs) →
    scope ≡ get_or tables.headed.items to scope → scope ≡ target (plain net tables) arc
target-read net tables arc to scope nested are up goes read =
    entry-read tables.headed.items to scope
    (omega (arith, goes, target-within net nested arc up, are.headed_count)) read
    ∙ ap (entry tables.headed.items) goes

-- A test that an index reads.
pub test-read : (table : List Bool) (at : ℕ) (value : Bool) → value ≡ get_or table at value → value ≡ false →
    test_at table at ≡ false
test-read table at value read e = sym (subst (λ (b : Bool). b ≡ get_or table at b) e read)

pub extra-read : (net : Net) (tables : Tables) (depth arc to scope deep bound factor : ℕ) (back : Bool) (turns : List ℕ) →
    IsNested net → AreTables net tables → IsUpTo (length net.arcs) arc → to ≡ target_of (item_at arc net.arcs) →
    scope ≡ get_or tables.headed.items to scope → (scope ≡ 0 → ⊥) →
    back ≡ get_or tables.backs.items arc back → back ≡ false →
    deep ≡ get_or tables.scopes.depths.items scope deep → deep ≡ depth →
    bound ≡ bound_of (item_at scope net.loops) → factor ≡ bound - 1 →
    factor * entry turns scope ≡ extra (plain net tables) depth (entry turns) arc
extra-read net tables depth arc to scope deep bound factor back turns nested are up goes read some tested forward deeps same
    bounds factors =
    let s = plain net tables in
    let is = target-read net tables arc to scope nested are up goes read in
    let low = marks-low net (entry tables.headed.items) (target_of (item_at arc net.arcs)) are.headed in
    let depths : s.depth scope ≡ depth = sym (entry-read tables.scopes.depths.items scope deep
    (omega (arith, is, low, are.scopes.count)) deeps) ∙ same in
    ap (λ (k : ℕ). k * entry turns scope) (factors ∙ ap (λ (k : ℕ). k - 1) bounds)
    ∙ ap (λ (l : ℕ). (s.bound l - 1) * entry turns l) is
    ∙ sym (extra-in s depth (entry turns) arc (λ none. some (is ∙ none))
    (sym (tables-back net tables are arc up) ∙ test-read tables.backs.items arc back tested forward)
    (sym (ap s.depth is) ∙ depths))
