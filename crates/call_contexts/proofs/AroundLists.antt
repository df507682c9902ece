-- The innermost loops round units, as they are written one after the other.
use Rattle.std.proofs.Common.{◌≡◌, ℕ, ◌+◌, ◌<◌, ◌≤◌, ◌⊎◌, inl, inr, List, [], ◌∷◌, length, take, get_or, set, replicate, slice_get, AllPairs, Contains, Option, Some, None, sym, ap, subst, ◌∙◌, arith}
use Rattle.std.proofs.lemmas.Bool.{cases_eq}
use Rattle.std.proofs.lemmas.List.{get_or-take, length-replicate, length-set, length-take-le, take_all, take_more}
use Rattle.std.proofs.lemmas.List.Elements.{All-contains, Contains-append_left, Contains-get_or, Contains-push, Contains-push_cases}
use Rattle.std.proofs.lemmas.Option.{get_or_from_slice_get, same_Some, slice_get-get_or, slice_get_within}
use Rattle.elf_mips.specs.declared.image.Image.{Image}
use Rattle.loop_nest.specs.Nests.{IsLoop, IsNest}
use Rattle.loop_nest.specs.declared.nest.Loop.{Loop}
use Rattle.loop_nest.proofs.Dominance.{body-reached, header-reached}
use Rattle.loop_nest.proofs.NestLaws.{among}
use Rattle.step_table.proofs.Seen.{slice_get-set_other, slice_get-set_same, slice_get-replicate}
use Rattle.unit_graph.specs.declared.node.Unit.{Unit as Node}
use Rattle.call_contexts.specs.Around.{AreNearest, AreUnitsOf, IsInner, IsNearestBy, addresses_of}
use Rattle.call_contexts.specs.Layout.{HasNode}
use Rattle.call_contexts.proofs.AroundLaws.{body-of, loop-at, nearest-more, nearest-same, same-loop}
use Rattle.call_contexts.proofs.Nodes.{same_node}

-- The next unit of a rising body isn't one of those before it.
not-before : (body : List ℕ) (k d : ℕ) → AllPairs (λ (a b : ℕ). a < b) body → k < length body → Contains (take k body) (get_or body k d) → ⊥
not-before body k d rising inside there =
    let a : ℕ = get_or body k d in
    let low : there.0 < k = omega (arith, there.1, length-take-le k body (omega (arith, inside))) in
    let same : get_or body there.0 a ≡ a = sym (get_or-take k body there.0 a low) ∙ there.2 in
    let up : get_or body there.0 a < get_or body k a = rising there.0 k a low inside in
    let one : get_or body k a ≡ a = get_or-inside body k a d inside in
    omega (arith, same, up, one)
  where
    get_or-inside : (xs : List ℕ) (k a d : ℕ) → k < length xs → get_or xs k a ≡ get_or xs k d
    get_or-inside xs k a d inside =
        get_or_from_slice_get xs k (get_or xs k d) a (slice_get-get_or xs k d inside)

-- One unit more of a body.
more-cases : (body : List ℕ) (k d x : ℕ) → k < length body → Contains (take (k + 1) body) x → Contains (take k body) x ⊎ (get_or body k d ≡ x)
more-cases body k d x inside there =
    Contains-push_cases (take k body) (get_or body k d) x
    (subst (λ (xs : List ℕ). Contains xs x) (take_more body k d inside) there)

more-before : (body : List ℕ) (k d x : ℕ) → k < length body → Contains (take k body) x → Contains (take (k + 1) body) x
more-before body k d x inside there =
    subst (λ (xs : List ℕ). Contains xs x) (sym (take_more body k d inside))
    (Contains-append_left (take k body) (get_or body k d ∷ []) x there)

more-last : (body : List ℕ) (k d : ℕ) → k < length body → Contains (take (k + 1) body) (get_or body k d)
more-last body k d inside =
    subst (λ (xs : List ℕ). Contains xs (get_or body k d)) (sym (take_more body k d inside)) (Contains-push (take k body) (get_or body k d))

-- The innermost of the first loops for each unit, while the next one is looked at: it counts for the first units of
-- its body and not yet for the others.
pub record AreNearing (units : List Node) (loops : List Loop) (done : ℕ) (body : List ℕ) (around : List (Option ℕ)) : Type 0 where
  pub count : length around ≡ length units
  pub seen : (position : ℕ) (found : Option ℕ) (one : Node) → slice_get units position ≡ Some one →
      slice_get around position ≡ Some found → Contains body one.address → IsNearestBy loops (done + 1) one.address found
  pub left : (position : ℕ) (found : Option ℕ) (one : Node) → slice_get units position ≡ Some one →
      slice_get around position ≡ Some found → (Contains body one.address → ⊥) → IsNearestBy loops done one.address found

-- Before the units of a body.
pub nearing-none : (units : List Node) (loops : List Loop) (done : ℕ) (body : List ℕ) (around : List (Option ℕ)) → AreNearest units loops done around →
    AreNearing units loops done (take 0 body) around
nearing-none units loops done body around are = record {
  count = are.count;
  seen = λ position found one there here among. absurd (omega (arith, among.1, length-take-le 0 body (omega arith)));
  left = λ position found one there here away. are.each position found one there here;
}

-- The next unit is the header: nothing is written.
skip-seen : (units : List Node) (loops : List Loop) (done : ℕ) (l : Loop) (around : List (Option ℕ)) (k d address : ℕ) (found : Option ℕ) →
    AllPairs (λ (a b : ℕ). a < b) l.body → slice_get loops done ≡ Some l → k < length l.body → get_or l.body k d ≡ l.header →
    ((Contains (take k l.body) address → ⊥) → IsNearestBy loops done address found) →
    get_or l.body k d ≡ address → IsNearestBy loops (done + 1) address found
skip-seen units loops done l around k d address found rising there inside header left same =
    nearest-same loops done address found
    (λ round. round.other (ap (λ (m : Loop). m.header) (same-loop loops done round.one l round.there there) ∙ sym header ∙ same))
    (left (λ among. not-before l.body k d rising inside (subst (Contains (take k l.body)) (sym same) among)))

pub nearing-skip : (units : List Node) (loops : List Loop) (done : ℕ) (l : Loop) (around : List (Option ℕ)) (k d : ℕ) →
    AllPairs (λ (a b : ℕ). a < b) l.body → slice_get loops done ≡ Some l → k < length l.body → get_or l.body k d ≡ l.header →
    AreNearing units loops done (take k l.body) around → AreNearing units loops done (take (k + 1) l.body) around
nearing-skip units loops done l around k d rising there inside header are = record {
  count = are.count;
  seen = λ position found one at here among. elim (more-cases l.body k d one.address inside among) [
    | inl before ↦ are.seen position found one at here before
    | inr same ↦ skip-seen units loops done l around k d one.address found rising there inside header (are.left position found one at here) same
  ];
  left = λ position found one at here away.
      are.left position found one at here (λ among. away (more-before l.body k d one.address inside among));
}

-- The next unit is another one: the inner one of the loop and the innermost so far is written.
pub record IsWritten (units : List Node) (loops : List Loop) (done : ℕ) (l : Loop) (around : List (Option ℕ)) (k d place result : ℕ) : Type 0 where
  pub rising : AllPairs (λ (a b : ℕ). a < b) l.body
  pub there : slice_get loops done ≡ Some l
  pub inside : k < length l.body
  pub apart : get_or l.body k d ≡ l.header → ⊥
  pub at : HasNode units (get_or l.body k d) place
  pub before : Option ℕ
  pub stood : slice_get around place ≡ Some before
  pub inner : IsInner loops before done result

-- The unit's place gets the inner one, and all others keep theirs.
written-here : (image : Image) (entry : ℕ) (units : List Node) (loops : List Loop) (done : ℕ) (l : Loop) (around : List (Option ℕ)) (k d place result : ℕ) (found : Option ℕ)
    (one : Node) → IsNest image entry loops → IsWritten units loops done l around k d place result →
    AreNearing units loops done (take k l.body) around → slice_get units place ≡ Some one → Some result ≡ found →
    IsNearestBy loops (done + 1) one.address found
written-here image entry units loops done l around k d place result found one nest is are there same =
    let equal : is.at.node ≡ one = same_Some is.at.node one (sym is.at.there ∙ there) in
    let address : get_or l.body k d ≡ one.address = sym is.at.same ∙ ap (λ (n : Node). n.address) equal in
    let before : IsNearestBy loops done one.address is.before =
    are.left place is.before one there is.stood
    (λ among. not-before l.body k d is.rising is.inside (subst (Contains (take k l.body)) (sym address) among)) in
    let held : Contains l.body one.address = subst (Contains l.body) address (Contains-get_or l.body k d is.inside) in
    subst (IsNearestBy loops (done + 1) one.address) same
    (nearest-more image entry loops nest done one.address is.before result before
    (record { one = l; there = is.there; other = λ e. is.apart (address ∙ sym e); held = held }) is.inner)

pub nearing-write : (image : Image) (entry : ℕ) (units : List Node) (loops : List Loop) (done : ℕ) (l : Loop) (around : List (Option ℕ)) (k d place result : ℕ) →
    IsNest image entry loops → AreUnitsOf image entry units → IsWritten units loops done l around k d place result →
    AreNearing units loops done (take k l.body) around → AreNearing units loops done (take (k + 1) l.body) (set around place (Some result))
nearing-write image entry units loops done l around k d place result nest of is are = record {
  count = length-set around place (Some result) ∙ are.count;
  seen = λ position found one there here among. seen_by position found one there here among (cases_eq place position);
  left = λ position found one there here away. left_by position found one there here away (cases_eq place position);
} where
  seen_by : (position : ℕ) (found : Option ℕ) (one : Node) → slice_get units position ≡ Some one → slice_get (set around place (Some result)) position ≡ Some found →
      Contains (take (k + 1) l.body) one.address → ((place ≡ position) ⊎ (place ≡ position → ⊥)) → IsNearestBy loops (done + 1) one.address found
  seen_by position found one there here among (inl same) =
      written-here image entry units loops done l around k d place result found one nest is are
      (subst (λ (p : ℕ). slice_get units p ≡ Some one) (sym same) there)
      (same_Some (Some result) found (sym (slice_get-set_same around place (Some result) (slice_get_within around place is.before is.stood))
      ∙ subst (λ (p : ℕ). slice_get (set around place (Some result)) p ≡ Some found) (sym same) here))
  seen_by position found one there here among (inr differ) =
      let kept : slice_get around position ≡ Some found = sym (slice_get-set_other around place position (Some result) differ) ∙ here in
      elim (more-cases l.body k d one.address is.inside among) [
        | inl before ↦ are.seen position found one there kept before
        | inr same ↦ absurd (differ (same_node units place position is.at.node one of.rising is.at.there there (is.at.same ∙ same)))
      ]

  left_by : (position : ℕ) (found : Option ℕ) (one : Node) → slice_get units position ≡ Some one → slice_get (set around place (Some result)) position ≡ Some found →
      (Contains (take (k + 1) l.body) one.address → ⊥) → ((place ≡ position) ⊎ (place ≡ position → ⊥)) → IsNearestBy loops done one.address found
  left_by position found one there here away (inl same) =
      let equal : is.at.node ≡ one =
      same_Some is.at.node one (sym is.at.there ∙ subst (λ (p : ℕ). slice_get units p ≡ Some one) (sym same) there) in
      absurd (away (subst (Contains (take (k + 1) l.body)) (sym is.at.same ∙ ap (λ (n : Node). n.address) equal)
      (more-last l.body k d is.inside)))
  left_by position found one there here away (inr differ) =
      are.left position found one there (sym (slice_get-set_other around place position (Some result) differ) ∙ here)
      (λ among. away (more-before l.body k d one.address is.inside among))

-- Behind the last unit of the body.
pub nearing-all : (units : List Node) (loops : List Loop) (done : ℕ) (l : Loop) (around : List (Option ℕ)) (k : ℕ) →
    slice_get loops done ≡ Some l → length l.body ≤ k → AreNearing units loops done (take k l.body) around →
    AreNearest units loops (done + 1) around
nearing-all units loops done l around k there past are = record {
  count = are.count;
  each = λ position found one at here. each_by position found one at here (among l.body one.address);
} where
  each_by : (position : ℕ) (found : Option ℕ) (one : Node) → slice_get units position ≡ Some one → slice_get around position ≡ Some found →
      Contains l.body one.address ⊎ (Contains l.body one.address → ⊥) → IsNearestBy loops (done + 1) one.address found
  each_by position found one at here (inl held) =
      are.seen position found one at here (subst (λ (xs : List ℕ). Contains xs one.address) (sym (take_all k l.body past)) held)
  each_by position found one at here (inr away) =
      nearest-same loops done one.address found
      (λ round. away (subst (λ (m : Loop). Contains m.body one.address) (same-loop loops done round.one l round.there there) round.held))
      (are.left position found one at here
      (λ c. away (subst (λ (xs : List ℕ). Contains xs one.address) (take_all k l.body past) c)))

-- Before the first loop.
pub nearest-none : (units : List Node) (loops : List Loop) → AreNearest units loops 0 (replicate (length units) None)
nearest-none units loops = record {
  count = length-replicate {A = Option ℕ} (length units) None;
  each = λ position found one there here.
      subst (IsNearestBy loops 0 one.address) (slice_get-replicate (length units) position None found here)
      (λ at less round. omega (arith, less));
}

-- At what the body of a loop holds there are units, and at its header.
pub body-among : (image : Image) (entry : ℕ) (units : List Node) (loops : List Loop) → AreUnitsOf image entry units → IsNest image entry loops →
    (position : ℕ) (one : Loop) → slice_get loops position ≡ Some one → (address : ℕ) → Contains one.body address →
    Contains (addresses_of units) address
body-among image entry units loops of nest position one there address held =
    let is = loop-at image entry loops nest position one there in
    of.whole address (body-reached image entry one.header address (body-of image entry one is address held))

pub header-among : (image : Image) (entry : ℕ) (units : List Node) (loops : List Loop) → AreUnitsOf image entry units → IsNest image entry loops →
    (one : Loop) → Contains loops one → Contains (addresses_of units) one.header
header-among image entry units loops of nest one listed =
    let is = All-contains (IsLoop image entry) loops one nest.each listed in
    of.whole one.header (header-reached image entry one.header is.headed)

-- What stands at a unit that is looked at next is an earlier loop.
pub nearing-low : (units : List Node) (loops : List Loop) (done : ℕ) (body : List ℕ) (around : List (Option ℕ)) (k d place : ℕ) (before : Option ℕ) →
    AllPairs (λ (a b : ℕ). a < b) body → k < length body → HasNode units (get_or body k d) place → slice_get around place ≡ Some before →
    AreNearing units loops done (take k body) around → IsNearestBy loops done (get_or body k d) before
nearing-low units loops done body around k d place before rising inside at stood are =
    subst (λ (a : ℕ). IsNearestBy loops done a before) at.same
    (are.left place before at.node at.there stood
    (λ among. not-before body k d rising inside (subst (Contains (take k body)) at.same among)))
