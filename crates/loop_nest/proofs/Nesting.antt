-- The loops that were listed are those of the function.
use Rattle.std.proofs.Common.{◌≡◌, ℕ, ◌<◌, List, [], ◌∷◌, map, length, get_or, Option, Some, None, refl, sym, subst, ap, ◌∙◌, arith}
use Rattle.std.specs.Prelude.{Contains, slice_get, zero, suc}
use Rattle.std.proofs.lemmas.Option.{none-some, same_Some, slice_get-get_or, slice_get_within}
use Rattle.std.proofs.lemmas.List.Elements.{Contains-get_or}
use Rattle.elf_mips.specs.declared.image.Image.{Image}
use Rattle.net_model.specs.Loops.{IsLoopBound, IsUnbounded}
use Rattle.unit_graph.specs.declared.graph.Graph.{Graph}
use Rattle.unit_graph.specs.Graphs.{IsGraph}
use Rattle.loop_nest.specs.declared.listing.Listed.{Listed}
use Rattle.loop_nest.specs.declared.listing.Listed.TheVariants.{Loops, Unbounded}
use Rattle.loop_nest.specs.declared.nest.Loop.{Loop}
use Rattle.loop_nest.specs.declared.plan.Plan.{Plan}
use Rattle.loop_nest.specs.Bodies.{AreInner}
use Rattle.loop_nest.specs.Bounds.{AreBounds, AreRecorded, IsLeastOf}
use Rattle.loop_nest.specs.Listing.{AreLoopsAt, IsHead, IsLoopAt, IsUnboundedAt}
use Rattle.loop_nest.specs.Nests.{IsFirstIrreducible, IsFirstUnbounded, IsLoop, IsNest}
use Rattle.loop_nest.specs.Plans.{AreRegular, IsIrregularAt, IsPlan}
use Rattle.loop_nest.proofs.Bounding.{bound_is, IsBoundOf}
use Rattle.loop_nest.proofs.Bridge.{place_at, same_at}
use Rattle.loop_nest.proofs.Dominance.{body-reached, header-reached}
use Rattle.loop_nest.proofs.HeaderRank.{ranks-reducible}
use Rattle.loop_nest.proofs.Irreducibles.{first_irreducible, lesser_place}
use Rattle.loop_nest.proofs.Planning.{laid_of}
use Rattle.step_table.proofs.Positions.{contains_at, place_of}
use Rattle.loop_nest.proofs.Regular.{body_holds, bounds_named, head_of, header_of, holds_body, IsRegular, named_bounds, ranks_by}

-- What was found, with the image.
pub record IsKnown (image : Image) (entry : ℕ) (graph : Graph) (addresses : List ℕ) (table reverse sources : List (List ℕ))
    (ranks : List ℕ) (start : ℕ) (innermost bounds : List (Option ℕ)) : Type 0 where
  pub regular : IsRegular image entry graph addresses table reverse sources ranks start
  pub inner : AreInner reverse sources ranks (length reverse) innermost
  pub recorded : ℕ → Option ℕ
  pub records : AreRecorded image.marks recorded
  pub bounded : AreBounds graph.units innermost recorded bounds
  pub count : length sources ≡ length addresses

pub loop_bound : (image : Image) (entry : ℕ) (graph : Graph) (addresses : List ℕ) (table reverse sources : List (List ℕ)) (ranks : List ℕ) (start : ℕ)
    (innermost bounds : List (Option ℕ)) → IsKnown image entry graph addresses table reverse sources ranks start innermost bounds →
    (h hd b : ℕ) → slice_get addresses h ≡ Some hd → slice_get bounds h ≡ Some (Some b) → IsLoopBound image entry hd b
loop_bound image entry graph addresses table reverse sources ranks start innermost bounds k h hd b ath there =
    let least : IsLeastOf (IsBoundOf graph.units innermost image.marks h) (Some b) =
    bound_is graph.units innermost image.marks k.recorded bounds k.records k.bounded h (Some b) there in
    let one : IsBoundOf graph.units innermost image.marks h b = least.0 in
    record {
      mark = one.mark;
      listed = one.listed;
      named = bounds_named image entry graph addresses table reverse sources ranks start innermost k.regular k.inner h hd ath one.mark one.names;
      same = one.same;
      least = λ other listed named. least.1 other.x (record {
        mark = other;
        listed = listed;
        names = named_bounds image entry graph addresses table reverse sources ranks start innermost k.regular k.inner h hd ath other named;
        same = refl;
      });
    }

unbounded_at : (image : Image) (entry : ℕ) (graph : Graph) (addresses : List ℕ) (table reverse sources : List (List ℕ)) (ranks : List ℕ) (start : ℕ)
    (innermost bounds : List (Option ℕ)) → IsKnown image entry graph addresses table reverse sources ranks start innermost bounds →
    (h hd : ℕ) → slice_get addresses h ≡ Some hd → IsHead sources h → slice_get bounds h ≡ Some None → IsUnbounded image entry hd
unbounded_at image entry graph addresses table reverse sources ranks start innermost bounds k h hd ath head there =
    let none : IsLeastOf (IsBoundOf graph.units innermost image.marks h) None =
    bound_is graph.units innermost image.marks k.recorded bounds k.records k.bounded h None there in
    record {
      loops = header_of image entry graph addresses table reverse sources ranks start k.regular h hd ath head;
      unnamed = λ mark listed named. none mark.x (record {
        mark = mark;
        listed = listed;
        names = named_bounds image entry graph addresses table reverse sources ranks start innermost k.regular k.inner h hd ath mark named;
        same = refl;
      });
    }

loop_is : (image : Image) (entry : ℕ) (graph : Graph) (addresses : List ℕ) (table reverse sources : List (List ℕ)) (ranks : List ℕ) (start : ℕ)
    (innermost bounds : List (Option ℕ)) → IsKnown image entry graph addresses table reverse sources ranks start innermost bounds →
    (h : ℕ) (l : Loop) → IsLoopAt addresses reverse sources bounds h l → IsLoop image entry l
loop_is image entry graph addresses table reverse sources ranks start innermost bounds k h l is = record {
  headed = header_of image entry graph addresses table reverse sources ranks start k.regular h l.header is.address is.head;
  rising = is.rising;
  sound = λ i d less.
      let (x, at, holds) = is.sound (get_or l.body i d) (Contains-get_or l.body i d less) in
      holds_body image entry graph addresses table reverse sources ranks start k.regular h l.header x (get_or l.body i d) is.address at holds;
  whole = λ a body.
      let (x, at) = place_at image entry graph addresses table start k.regular.laid a (body-reached image entry l.header a body) in
      is.whole x a at
      (body_holds image entry graph addresses table reverse sources ranks start k.regular h l.header x a is.address at body);
  bounded = loop_bound image entry graph addresses table reverse sources ranks start innermost bounds k h l.header l.bound is.address is.bounded;
}

header_listed : (loops : List Loop) (i : ℕ) (l : Loop) → slice_get loops i ≡ Some l →
    slice_get (map (λ (m : Loop). m.header) loops) i ≡ Some l.header
header_listed [] i l h = absurd (none-some l h)
header_listed (one ∷ loops) zero l h = ap (λ (m : Loop). Some m.header) (same_Some one l h)
header_listed (one ∷ loops) (suc i) l h = header_listed loops i l h

nest_is : (image : Image) (entry : ℕ) (graph : Graph) (addresses : List ℕ) (table reverse sources : List (List ℕ)) (ranks : List ℕ) (start : ℕ)
    (innermost bounds : List (Option ℕ)) → IsKnown image entry graph addresses table reverse sources ranks start innermost bounds →
    (loops : List Loop) → AreLoopsAt addresses reverse sources bounds (length sources) loops → IsNest image entry loops
nest_is image entry graph addresses table reverse sources ranks start innermost bounds k loops are = record {
  rising = are.rising;
  each = λ i d less.
      let (h, before, is) = are.sound (get_or loops i d) (Contains-get_or loops i d less) in
      loop_is image entry graph addresses table reverse sources ranks start innermost bounds k h (get_or loops i d) is;
  whole = λ hd headed.
      let (h, at) = place_at image entry graph addresses table start k.regular.laid hd (header-reached image entry hd headed) in
      let (l, among, is) = are.whole h (omega (arith, k.count, slice_get_within addresses h hd at))
      (head_of image entry graph addresses table reverse sources ranks start k.regular h hd at headed) in
      let (i, there) = place_of loops l among in
      subst (Contains (map (λ (m : Loop). m.header) loops)) (same_at addresses h l.header hd is.address at)
      (contains_at (map (λ (m : Loop). m.header) loops) i l.header (header_listed loops i l there));
  ranks = ranks_by image entry graph addresses table reverse sources ranks start k.regular;
}

first_unbounded : (image : Image) (entry : ℕ) (graph : Graph) (addresses : List ℕ) (table reverse sources : List (List ℕ)) (ranks : List ℕ) (start : ℕ)
    (innermost bounds : List (Option ℕ)) → IsKnown image entry graph addresses table reverse sources ranks start innermost bounds →
    (h hd : ℕ) → slice_get addresses h ≡ Some hd → IsUnboundedAt sources bounds h → IsFirstUnbounded image entry hd
first_unbounded image entry graph addresses table reverse sources ranks start innermost bounds k h hd ath is = record {
  accepted = ranks-reducible image entry (ranks_by image entry graph addresses table reverse sources ranks start k.regular);
  here = unbounded_at image entry graph addresses table reverse sources ranks start innermost bounds k h hd ath is.head is.none;
  least = λ lesser less unbounded.
      let (q, atq) = place_at image entry graph addresses table start k.regular.laid lesser (header-reached image entry lesser unbounded.loops) in
      let (b, there) = is.first q (lesser_place addresses k.regular.laid.rising q h lesser hd atq ath less)
      (head_of image entry graph addresses table reverse sources ranks start k.regular q lesser atq unbounded.loops) in
      let bound = loop_bound image entry graph addresses table reverse sources ranks start innermost bounds k q lesser b atq there in
      unbounded.unnamed bound.mark bound.listed bound.named;
}

-- The same by the plan of a graph.
known_by : (image : Image) (entry : ℕ) (graph : Graph) (plan : Plan) (recorded : ℕ → Option ℕ) → IsGraph image entry graph → IsPlan graph plan →
    AreRecorded image.marks recorded → (listed : Listed) → (found : AreRegular graph plan recorded listed) →
    IsKnown image entry graph plan.addresses.items plan.table.items plan.reverse.items found.sources found.ranks
    plan.entry found.innermost found.bounds
known_by image entry graph plan recorded graphed is records listed found = record {
  regular = record {
    laid = laid_of image entry graph plan graphed is;
    ranked = found.ranked;
    are = record { sound = found.are.sound; whole = found.are.whole };
    kept = found.kept;
    reversed = is.reversed;
  };
  inner = found.inner;
  recorded = recorded;
  records = records;
  bounded = found.bounded;
  count = found.are.count ∙ is.count;
}

pub nest_by : (image : Image) (entry : ℕ) (graph : Graph) (plan : Plan) (recorded : ℕ → Option ℕ) → IsGraph image entry graph → IsPlan graph plan →
    AreRecorded image.marks recorded → (loops : List Loop) → AreRegular graph plan recorded (Loops loops) → IsNest image entry loops
nest_by image entry graph plan recorded graphed is records loops found =
    nest_is image entry graph plan.addresses.items plan.table.items plan.reverse.items found.sources found.ranks
    plan.entry found.innermost found.bounds (known_by image entry graph plan recorded graphed is records (Loops loops) found) loops found.listed

pub unbounded_within : (graph : Graph) (plan : Plan) (recorded : ℕ → Option ℕ) → IsPlan graph plan → (header : ℕ) →
    AreRegular graph plan recorded (Unbounded header) → header < length plan.addresses.items
unbounded_within graph plan recorded is header found =
    omega (
      arith,
      is.count,
      found.are.count,
      slice_get_within found.sources header found.listed.head.from found.listed.head.there,
    )

pub unbounded_by : (image : Image) (entry : ℕ) (graph : Graph) (plan : Plan) (recorded : ℕ → Option ℕ) → IsGraph image entry graph → IsPlan graph plan →
    AreRecorded image.marks recorded → (header address : ℕ) → AreRegular graph plan recorded (Unbounded header) →
    address ≡ get_or plan.addresses.items header address → IsFirstUnbounded image entry address
unbounded_by image entry graph plan recorded graphed is records header address found same =
    first_unbounded image entry graph plan.addresses.items plan.table.items plan.reverse.items found.sources found.ranks
    plan.entry found.innermost found.bounds
    (known_by image entry graph plan recorded graphed is records (Unbounded header) found)
    header address
    (slice_get-get_or plan.addresses.items header address (unbounded_within graph plan recorded is header found)
    ∙ ap (λ (a : ℕ). Some a) (sym same))
    found.listed

pub irregular_by : (image : Image) (entry : ℕ) (graph : Graph) (plan : Plan) → IsGraph image entry graph → IsPlan graph plan →
    (position address : ℕ) → IsIrregularAt plan position → address ≡ get_or plan.addresses.items position address →
    IsFirstIrreducible image entry address
irregular_by image entry graph plan graphed is position address found same =
    let first = found.first in
    first_irreducible image entry graph plan.addresses.items plan.table.items found.sources plan.entry
    (laid_of image entry graph plan graphed is) (record { sound = found.are.sound; whole = found.are.whole }) position address
    (slice_get-get_or plan.addresses.items position address
    (omega (arith, is.count, first.is.count, slice_get_within first.forward position first.first.0.steps first.first.0.there))
    ∙ ap (λ (a : ℕ). Some a) (sym same))
    first
