-- From the tables of all levels to the answers.
use Rattle.std.proofs.Common.{◌≡◌, ℕ, suc, ◌+◌, ◌-◌, ◌^◌, ◌<◌, ◌≤◌, List, length, All, refl, sym, ap, ◌∙◌, subst, arith}
use lib.IntN.{pos}
use Rattle.flow_net.specs.Nested.{IsNested}
use Rattle.flow_net.specs.declared.net.Net.{Net}
use Rattle.ipet_program.specs.Counts.{listed}
use Rattle.ipet_program.specs.Programs.{IsProgramOf, crude_limit}
use Rattle.ipet_program.specs.declared.certificate.Count.{Count}
use Rattle.ipet_program.specs.declared.leaf.Leaf.{Leaf}
use Rattle.ipet_program.specs.declared.program.Program.{Program}
use Rattle.nest_solver.specs.Answers.{ShowsGreatest, AreGreatest, AreWorths, counts_to}
use Rattle.nest_solver.specs.Counted.{IsPath}
use Rattle.nest_solver.specs.LeafWeights.{IsLeafOf, multiplier, weights_to}
use Rattle.nest_solver.specs.Nets.{HasDepths, HasHeaders, shape_of, value_at_end}
use Rattle.nest_solver.specs.Shape.{IsNest, IsUpTo}
use Rattle.nest_solver.specs.Solved.{weight_of, AreSolved}
use Rattle.nest_solver.specs.Ways.{IsRound, IsSwept}
use Rattle.nest_solver.proofs.Forward.{entry-live}
use Rattle.nest_solver.proofs.Room.{total-small}
use Rattle.nest_solver.proofs.NetShape.{shape-nest}
use Rattle.nest_solver.proofs.Rows.{crude-net}
use Rattle.nest_solver.proofs.Facing.{small-numbers}
use Rattle.nest_solver.specs.Putting.{IsCountedTo}
use Rattle.nest_solver.proofs.Putting.{counted-same}
use Rattle.nest_solver.proofs.Greatest.{greatest-counts, counts-best}
use Rattle.nest_solver.proofs.LeafLaw.{leaf-shows}
use Rattle.nest_solver.proofs.Best.{weights-first, counts-named, counts-rising, counts-taken, counts-listed}
use Rattle.nest_solver.specs.Crude.{IsCrude}

-- Each arc to a place has a value, since each place costs something.
pub values-some : (net : Net) (price : ℕ → ℕ) (program : Program) (depths headed : ℕ → ℕ) (i : ℕ) →
    IsNest (shape_of net depths headed) → IsProgramOf net price program → IsUpTo (length net.arcs) i →
    0 < (shape_of net depths headed).to i → 1 ≤ value_at_end (shape_of net depths headed) price i
values-some net price program depths headed i nest is u low =
    is.costly ((shape_of net depths headed).to i) (record { from_one = low; within = nest.ends i u })

pub crude-tables : (net : Net) (price : ℕ → ℕ) (program : Program) (depths headed : ℕ → ℕ) → IsNested net →
    HasDepths net depths → HasHeaders net headed → IsProgramOf net price program →
    IsCrude (shape_of net depths headed) price crude_limit
crude-tables net price program depths headed nested has heads is =
    crude-net net price program depths headed nested is (shape-nest net depths headed nested has heads).deep

-- The total is at least 1, and at most the limit.
pub total-in : (net : Net) (price : ℕ → ℕ) (program : Program) (depths headed turns round best choice : ℕ → ℕ)
    (total : ℕ) → IsNested net → HasDepths net depths → HasHeaders net headed → IsProgramOf net price program →
    AreSolved (shape_of net depths headed) (value_at_end (shape_of net depths headed) price) turns 1 →
    IsRound (shape_of net depths headed) 0 round →
    IsSwept (shape_of net depths headed) 0 round
    (weight_of (shape_of net depths headed) (value_at_end (shape_of net depths headed) price) turns) best choice →
    total ≡ weight_of (shape_of net depths headed) (value_at_end (shape_of net depths headed) price) turns 1
    + best ((shape_of net depths headed).to 1) - 1 →
    (0 < total) × (total ≤ crude_limit)
total-in net price program depths headed turns round best choice total nested has heads is solved rounds swept e =
    let nest = shape-nest net depths headed nested has heads in
    let s = shape_of net depths headed in
    let value = value_at_end s price in
    omega (
      arith,
      e,
      entry-live s round (weight_of s value turns) best choice nest swept,
      values-some net price program depths headed 1 nest is (omega (arith, nest.some)) nest.begins,
      total-small s price turns round best choice crude_limit nest
          (crude-tables net price program depths headed nested has heads is) solved rounds swept,
    )

-- The leaf of the worths of all levels shows the greatest value.
pub leaf-greatest : (net : Net) (price : ℕ → ℕ) (program : Program) (depths headed turns round best choice worth : ℕ → ℕ)
    (depth total : ℕ) (leaf : Leaf) → IsNested net → length net.arcs ≤ 2 ^ 28 → HasDepths net depths →
    HasHeaders net headed → IsProgramOf net price program →
    AreSolved (shape_of net depths headed) (value_at_end (shape_of net depths headed) price) turns 1 →
    IsRound (shape_of net depths headed) 0 round →
    IsSwept (shape_of net depths headed) 0 round
    (weight_of (shape_of net depths headed) (value_at_end (shape_of net depths headed) price) turns) best choice →
    total ≡ weight_of (shape_of net depths headed) (value_at_end (shape_of net depths headed) price) turns 1
    + best ((shape_of net depths headed).to 1) - 1 →
    ((l : ℕ) → IsUpTo (length net.loops) l → depths l ≤ depth) → depth ≤ 2 ^ 29 →
    AreWorths (shape_of net depths headed)
    (weight_of (shape_of net depths headed) (value_at_end (shape_of net depths headed) price) turns) turns depth total
    worth →
    IsLeafOf (shape_of net depths headed) total worth turns leaf → ShowsGreatest program leaf
leaf-greatest net price program depths headed turns round best choice worth depth total leaf nested few has heads is
    solved rounds swept e low shallow are of_leaf =
    let nest = shape-nest net depths headed nested has heads in
    let s = shape_of net depths headed in
    let bounds = total-in net price program depths headed turns round best choice total nested has heads is solved rounds
    swept e in
    let found = greatest-counts net price program depths headed turns round best choice nested has heads is solved rounds
    swept in
    let row_first = weights-first (multiplier s total worth turns) total (s.places + s.loops) refl bounds.0 in
    record {
      bound = total;
      valid = leaf-shows net price program depths headed turns worth depth total leaf nested has heads is are.dual low
          are.shown
          (small-numbers s price turns worth depth crude_limit total nest
          (crude-tables net price program depths headed nested has heads is) solved (omega arith) bounds.1 few shallow
          are.small)
          of_leaf;
      whole = of_leaf.denom;
      some = of_leaf.shows;
      more = row_first.0;
      first = of_leaf.weights
          ∙ ap (weights_to (multiplier s total worth turns))
          (let n : s.places + 1 + s.loops ≡ suc (s.places + s.loops) = omega arith in n)
          ∙ row_first.1;
      counts = found.0;
      greatest = found.1;
      reached = found.2 ∙ ap (λ (n : ℕ). pos n) (sym e);
    }

-- The counts of all levels, listed, have the greatest value.
pub counts-greatest : (net : Net) (price : ℕ → ℕ) (program : Program)
    (depths headed turns round best choice counts : ℕ → ℕ) (depth total : ℕ) (path : List ℕ) →
    IsNested net → HasDepths net depths → HasHeaders net headed → IsProgramOf net price program →
    AreSolved (shape_of net depths headed) (value_at_end (shape_of net depths headed) price) turns 1 →
    IsSwept (shape_of net depths headed) 0 round
    (weight_of (shape_of net depths headed) (value_at_end (shape_of net depths headed) price) turns) best choice →
    total ≡ weight_of (shape_of net depths headed) (value_at_end (shape_of net depths headed) price) turns 1
    + best ((shape_of net depths headed).to 1) - 1 →
    IsPath (shape_of net depths headed)
    (weight_of (shape_of net depths headed) (value_at_end (shape_of net depths headed) price) turns) path total →
    ((l : ℕ) → IsUpTo (length net.loops) l → depths l ≤ depth) →
    IsCountedTo (shape_of net depths headed)
    (weight_of (shape_of net depths headed) (value_at_end (shape_of net depths headed) price) turns) turns path depth
    counts →
    AreGreatest program (counts_to counts (length net.arcs))
counts-greatest net price program depths headed turns round best choice counts depth total path nested has heads is
    solved swept e out low counted =
    let s = shape_of net depths headed in
    let value = value_at_end s price in
    let both = counts-best net price program depths headed turns round best choice
    (listed (counts_to counts (length net.arcs))) depth path counted.ways nested has heads is solved swept
    (subst (IsPath s (weight_of s value turns) path) e out) counted.are low
    (counted-same s path counted.ways counts (listed (counts_to counts (length net.arcs)))
    (λ i u. sym (counts-listed counts (length net.arcs) i u)) counted.counted) in
    record {
      named = subst
          (λ (n : ℕ). All (λ (count : Count). (1 ≤ count.column) × (count.column ≤ n)) (counts_to counts (length net.arcs)))
          (sym is.columns) (counts-named counts (length net.arcs));
      rising = counts-rising counts (length net.arcs);
      taken = counts-taken counts (length net.arcs);
      greatest = both.0;
    }
