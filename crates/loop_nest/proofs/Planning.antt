-- The plan of a graph, and what is found by it.
use Rattle.std.proofs.Common.{◌≡◌, ℕ, ◌<◌, List, map, length, get_or, Some, None, refl, sym, subst, ap, ◌∙◌, arith}
use Rattle.std.specs.Prelude.{AllPairs, Contains, slice_get}
use Rattle.std.proofs.lemmas.List.{length-map}
use Rattle.std.proofs.lemmas.Option.{get_or_from_slice_get, slice_get-get_or, slice_get_within}
use Rattle.elf_mips.specs.declared.image.Image.{Image}
use Rattle.net_model.specs.Functions.{first}
use Rattle.unit_graph.specs.declared.graph.Graph.{Graph}
use Rattle.unit_graph.specs.declared.node.Unit.{Unit as Node}
use Rattle.unit_graph.specs.Graphs.{IsGraph}
use Rattle.loop_nest.specs.declared.plan.Plan.{Plan}
use Rattle.loop_nest.specs.Arcs.{AreBacks}
use Rattle.step_table.specs.Cycles.{IsCyclic}
use Rattle.loop_nest.specs.Cycles.{IsFirstIrregular}
use Rattle.loop_nest.specs.Plans.{IsCrossed, IsPlan}
use Rattle.step_table.specs.Table.{IsReverse, IsWithin}
use Rattle.loop_nest.specs.Table.{IsTableOf}
use Rattle.loop_nest.proofs.Bounding.{address_of, unit_at}
use Rattle.loop_nest.proofs.Bridge.{count_is, IsLaid, met_all, step_goes}
use Rattle.loop_nest.proofs.Cycling.{crossed_cyclic}
use Rattle.step_table.proofs.Positions.{Rises}
use Rattle.step_table.proofs.Reversing.{within_by}

rises_map : (units : List Node) → AllPairs (λ (a b : Node). a.address < b.address) units → Rises (map address_of units)
rises_map units pairs i j d less inside =
    let long : length (map address_of units) ≡ length units = length-map units address_of in
    let (one, there, same) = unit_at units i (get_or (map address_of units) i d)
    (slice_get-get_or (map address_of units) i d (omega (arith, less, inside))) in
    let (other, at, equal) = unit_at units j (get_or (map address_of units) j d)
    (slice_get-get_or (map address_of units) j d inside) in
    let first_is : get_or units i one ≡ one = get_or_from_slice_get units i one one there in
    let second_is : get_or units j one ≡ other = get_or_from_slice_get units j other one at in
    omega (
      arith,
      pairs i j one less (omega (arith, long, inside)),
      ap (λ (n : Node). n.address) first_is,
      ap (λ (n : Node). n.address) second_is,
      same,
      equal,
    )

pub rises_by : (image : Image) (entry : ℕ) (graph : Graph) → IsGraph image entry graph → (units : List Node) (addresses a : List ℕ) →
    units ≡ graph.units → addresses ≡ map address_of units → a ≡ addresses → Rises a
rises_by image entry graph graphed units addresses a units_are are same =
    subst Rises (sym (same ∙ are ∙ ap (λ (us : List Node). map address_of us) units_are)) (rises_map graph.units graphed.rising)

pub entry_there : (image : Image) (entry : ℕ) (graph : Graph) → IsGraph image entry graph → (units : List Node) (addresses a : List ℕ) →
    units ≡ graph.units → addresses ≡ map address_of units → a ≡ addresses → Contains a graph.entry
entry_there image entry graph graphed units addresses a units_are are same =
    subst (λ (xs : List ℕ). Contains xs graph.entry) (sym (same ∙ are ∙ ap (λ (us : List Node). map address_of us) units_are))
    (subst (Contains (map address_of graph.units)) (sym graphed.begins) (graphed.whole entry (first entry)))

-- The pieces of a plan.
pub laid_by : (image : Image) (entry : ℕ) (graph : Graph) → IsGraph image entry graph → (units : List Node) (addresses a b : List ℕ)
    (table : List (List ℕ)) (start : ℕ) → units ≡ graph.units → addresses ≡ map address_of units → a ≡ addresses →
    slice_get a start ≡ Some graph.entry → b ≡ addresses → IsTableOf b units table →
    IsLaid image entry graph addresses table start
laid_by image entry graph graphed units addresses a b table start units_are are a_is at b_is follows = record {
  graphed = graphed;
  are = are ∙ ap (λ (us : List Node). map address_of us) units_are;
  rising = rises_by image entry graph graphed units addresses addresses units_are are refl;
  follows = subst (λ (us : List Node). IsTableOf addresses us table) units_are
      (subst (λ (xs : List ℕ). IsTableOf xs units table) b_is follows);
  begins = subst (λ (x : ℕ). slice_get addresses start ≡ Some x) graphed.begins
      (subst (λ (xs : List ℕ). slice_get xs start ≡ Some graph.entry) a_is at);
}

pub within_laid : (image : Image) (entry : ℕ) (graph : Graph) (addresses : List ℕ) (table : List (List ℕ)) (start : ℕ) →
    IsLaid image entry graph addresses table start → IsWithin table
within_laid image entry graph addresses table start laid =
    within_by table (length table)
    (λ i j step. let (a, b, at, there, on) = step_goes image entry graph addresses table start laid i j step in
    omega (arith, slice_get_within addresses j b there, count_is image entry graph addresses table start laid))

pub plan_by : (image : Image) (entry : ℕ) (graph : Graph) (plan : Plan) (reversed : List (List ℕ)) →
    IsLaid image entry graph plan.addresses.items plan.table.items plan.entry →
    reversed ≡ plan.table.items → IsReverse reversed plan.reverse.items → IsWithin plan.reverse.items → IsPlan graph plan
plan_by image entry graph plan reversed laid e is behind = record {
  are = laid.are;
  rising = laid.rising;
  follows = laid.follows;
  count = count_is image entry graph plan.addresses.items plan.table.items plan.entry laid;
  within = within_laid image entry graph plan.addresses.items plan.table.items plan.entry laid;
  reversed = subst (λ (t : List (List ℕ)). IsReverse t plan.reverse.items) e is;
  behind = behind;
  begins = subst (λ (x : ℕ). slice_get plan.addresses.items plan.entry ≡ Some x) (sym laid.graphed.begins) laid.begins;
  met = met_all image entry graph plan.addresses.items plan.table.items plan.entry laid;
}

pub laid_of : (image : Image) (entry : ℕ) (graph : Graph) (plan : Plan) → IsGraph image entry graph → IsPlan graph plan →
    IsLaid image entry graph plan.addresses.items plan.table.items plan.entry
laid_of image entry graph plan graphed is = record {
  graphed = graphed;
  are = is.are;
  rising = is.rising;
  follows = is.follows;
  begins = subst (λ (x : ℕ). slice_get plan.addresses.items plan.entry ≡ Some x) graphed.begins is.begins;
}

-- Where some step crosses, there is a cycle without back arcs.
pub no_escape : (plan : Plan) (steps sources : List (List ℕ)) → IsCrossed plan steps →
    AreBacks plan.table.items plan.entry sources → IsFirstIrregular plan.table.items sources None → ⊥
no_escape plan steps sources crossed are none =
    let cyclic : IsCyclic none.forward crossed.from =
    crossed_cyclic plan.table.items sources none.forward plan.entry crossed.ranks crossed.from crossed.header
    crossed.within crossed.ranked none.is are.sound crossed.crosses in
    none.first crossed.from (slice_get_within none.forward crossed.from cyclic.steps cyclic.there) cyclic
