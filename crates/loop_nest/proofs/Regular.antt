-- A graph in which all steps but the back arcs go to lesser ranks: its loops, by the positions and by the addresses.
use Rattle.std.proofs.Common.{◌≡◌, ℕ, ◌+◌, ◌-◌, ◌<◌, ◌≤◌, Bool, true, false, List, [], ◌∷◌, length, get_or, Option, Some, None, refl, sym, subst, ap, ◌∙◌, arith, inl, inr, ◌⊎◌, if◌then◌else◌}
use Rattle.std.specs.Prelude.{slice_get, zero, suc, ◌==◌, is_some}
use Rattle.std.proofs.lemmas.Bool.{cases_lt, cases_eq}
use Rattle.std.proofs.lemmas.Bool.Decides.{Decides-eqb}
use Rattle.std.proofs.lemmas.Option.{none-some, same_Some, slice_get-get_or, slice_get_within}
use Rattle.elf_mips.specs.declared.image.Image.{Image}
use Rattle.elf_mips.specs.declared.mark.Mark.{Mark}
use Rattle.net_model.specs.declared.unit.CodeUnit.{CodeUnit}
use Rattle.net_model.specs.declared.unit.Content.TheVariants.{Unit as Stands}
use Rattle.net_model.specs.Targets.{unit_at}
use Rattle.net_model.specs.Loops.{GoesForward, HasRanks, IsBackArc, IsHeader, IsInBody, IsInnermost, IsNamedBy}
use Rattle.unit_graph.specs.declared.graph.Graph.{Graph}
use Rattle.unit_graph.specs.declared.node.Unit.{Unit as Node}
use Rattle.unit_graph.specs.Graphs.{IsNode}
use Rattle.loop_nest.specs.Arcs.{IsBack}
use Rattle.loop_nest.specs.Bodies.{AreInner, Holds, IsInner}
use Rattle.loop_nest.specs.Listing.{IsHead}
use Rattle.step_table.specs.Numbers.{number_of}
use Rattle.loop_nest.specs.Ranks.{AreRanks}
use Rattle.step_table.specs.Table.{IsMet, IsReverse, IsStep}
use Rattle.loop_nest.proofs.Bounding.{Names, node_is, place_is}
use Rattle.loop_nest.proofs.Bridge.{arc_back, back_arc, count_is, goes_at, goes_step, is_node, IsLaid, place_at, reached_at, same_at, step_goes}
use Rattle.loop_nest.proofs.Dominance.{body-header, goes-reached, header-reached}
use Rattle.loop_nest.proofs.ForwardWays.{AreToldApart}
use Rattle.loop_nest.proofs.Innermost.{innermost-of, innermost-one}
use Rattle.loop_nest.proofs.Irreducibles.{AreListed}
use Rattle.step_table.proofs.Meeting.{a_step, step_among}
use Rattle.step_table.proofs.Positions.{Rises, same_place}
use Rattle.loop_nest.proofs.Removing.{falling_met}

pub record IsRegular (image : Image) (entry : ℕ) (graph : Graph) (addresses : List ℕ) (table reverse sources : List (List ℕ))
    (ranks : List ℕ) (start : ℕ) : Type 0 where
  pub laid : IsLaid image entry graph addresses table start
  pub ranked : AreRanks table start ranks
  pub are : AreListed table start sources
  pub kept : (from header : ℕ) → IsStep table from header → number_of ranks from ≤ number_of ranks header → IsBack table start from header
  pub reversed : IsReverse table reverse

-- Where a number stands first in a list.
abbrev pub place : List ℕ → ℕ → ℕ
place [] a = 0
place (x ∷ xs) a = if x == a then 0 else suc (place xs a)

place_by : (x : ℕ) (xs : List ℕ) (a : ℕ) (b : Bool) → (x == a) ≡ b → slice_get xs (place xs a) ≡ Some a ⊎ (x ≡ a) →
    slice_get (x ∷ xs) (if b then 0 else suc (place xs a)) ≡ Some a
place_by x xs a true e h = ap (λ (n : ℕ). Some n) ((Decides-eqb x a).0 e)
place_by x xs a false e (inl h) = h
place_by x xs a false e (inr same) =
    let clash : false ≡ true = sym e ∙ (Decides-eqb x a).1 same in absurd (apart clash)
  where
    apart : false ≡ true → ⊥
    apart f = cc

place_there : (xs : List ℕ) (k a : ℕ) → slice_get xs k ≡ Some a → slice_get xs (place xs a) ≡ Some a
place_there [] k a h = absurd (none-some a h)
place_there (x ∷ xs) zero a h = place_by x xs a (x == a) refl (inr (same_Some x a h))
place_there (x ∷ xs) (suc k) a h = place_by x xs a (x == a) refl (inl (place_there xs k a h))

abbrev pub rank_of : (addresses : List ℕ) → (n : ℕ) → (ranks : List ℕ) → ℕ → ℕ
rank_of addresses n ranks a = n - number_of ranks (place addresses a)

pub rank_is : (addresses : List ℕ) (n : ℕ) (ranks : List ℕ) → Rises addresses → (k a : ℕ) → slice_get addresses k ≡ Some a →
    rank_of addresses n ranks a ≡ n - number_of ranks k
rank_is addresses n ranks rising k a h =
    ap (λ (at : ℕ). n - number_of ranks at)
    (same_place addresses rising (place addresses a) k a (place_there addresses k a h) h)

-- Ranks for the addresses, and of each arc whether it is a back arc.
pub forward_falls : (image : Image) (entry : ℕ) (graph : Graph) (addresses : List ℕ) (table reverse sources : List (List ℕ)) (ranks : List ℕ) (start : ℕ) →
    IsRegular image entry graph addresses table reverse sources ranks start → (i j a b : ℕ) → slice_get addresses i ≡ Some a →
    slice_get addresses j ≡ Some b → GoesForward image entry a b → number_of ranks j < number_of ranks i
forward_falls image entry graph addresses table reverse sources ranks start r i j a b ati atj on =
    elim (cases_lt (number_of ranks j) (number_of ranks i)) as (λ _. number_of ranks j < number_of ranks i) [
      | inl less ↦ less
      | inr more ↦ absurd (on.forward (back_arc image entry graph addresses table start r.laid i j a b ati atj
          (r.kept i j (goes_step image entry graph addresses table start r.laid i j a b ati atj on.goes) more)))
    ]

abbrev pub ranks_by : (image : Image) (entry : ℕ) (graph : Graph) (addresses : List ℕ) (table reverse sources : List (List ℕ)) (ranks : List ℕ) (start : ℕ) →
    IsRegular image entry graph addresses table reverse sources ranks start → HasRanks image entry
ranks_by image entry graph addresses table reverse sources ranks start r = record {
  rank = rank_of addresses (length table) ranks;
  rises = λ a b reached on.
      let (i, ati) = place_at image entry graph addresses table start r.laid a reached in
      let (j, atj) = place_at image entry graph addresses table start r.laid b (goes-reached image entry a b reached on.goes) in
      omega (
        arith,
        rank_is addresses (length table) ranks r.laid.rising i a ati,
        rank_is addresses (length table) ranks r.laid.rising j b atj,
        r.ranked.bound i,
        forward_falls image entry graph addresses table reverse sources ranks start r i j a b ati atj on,
      );
}

pub told_by : (image : Image) (entry : ℕ) (graph : Graph) (addresses : List ℕ) (table reverse sources : List (List ℕ)) (ranks : List ℕ) (start : ℕ) →
    IsRegular image entry graph addresses table reverse sources ranks start → AreToldApart image entry
told_by image entry graph addresses table reverse sources ranks start r a b reached on =
    let (i, ati) = place_at image entry graph addresses table start r.laid a reached in
    let (j, atj) = place_at image entry graph addresses table start r.laid b (goes-reached image entry a b reached on) in
    let step = goes_step image entry graph addresses table start r.laid i j a b ati atj on in
    elim (cases_lt (number_of ranks j) (number_of ranks i))
    as (λ _. (IsBackArc image entry a b) ⊎ (IsBackArc image entry a b → ⊥)) [
      | inl less ↦ inr (λ arc. (arc_back image entry graph addresses table start r.laid i j a b ati atj arc).behind
          (falling_met table start ranks i j r.ranked step less))
      | inr more ↦ inl (back_arc image entry graph addresses table start r.laid i j a b ati atj (r.kept i j step more))
    ]

-- Headers.
pub header_of : (image : Image) (entry : ℕ) (graph : Graph) (addresses : List ℕ) (table reverse sources : List (List ℕ)) (ranks : List ℕ) (start : ℕ) →
    IsRegular image entry graph addresses table reverse sources ranks start → (h hd : ℕ) → slice_get addresses h ≡ Some hd →
    IsHead sources h → IsHeader image entry hd
header_of image entry graph addresses table reverse sources ranks start r h hd ath head =
    let back = r.are.sound head.one h (a_step sources h head.one head.from head.there head.some) in
    let (a, b, ata, atb, on) = step_goes image entry graph addresses table start r.laid head.one h back.goes in
    record { from = a; arc = back_arc image entry graph addresses table start r.laid head.one h a hd ata ath back }

head_by : (image : Image) (entry : ℕ) (graph : Graph) (addresses : List ℕ) (table reverse sources : List (List ℕ)) (ranks : List ℕ) (start : ℕ) →
    IsRegular image entry graph addresses table reverse sources ranks start → (i h a hd : ℕ) → slice_get addresses i ≡ Some a →
    slice_get addresses h ≡ Some hd → IsBackArc image entry a hd → IsStep sources h i
head_by image entry graph addresses table reverse sources ranks start r i h a hd ati ath arc =
    r.are.whole i h
    (omega (arith, slice_get_within addresses h hd ath, count_is image entry graph addresses table start r.laid))
    (arc_back image entry graph addresses table start r.laid i h a hd ati ath arc)

pub head_of : (image : Image) (entry : ℕ) (graph : Graph) (addresses : List ℕ) (table reverse sources : List (List ℕ)) (ranks : List ℕ) (start : ℕ) →
    IsRegular image entry graph addresses table reverse sources ranks start → (h hd : ℕ) → slice_get addresses h ≡ Some hd →
    IsHeader image entry hd → IsHead sources h
head_of image entry graph addresses table reverse sources ranks start r h hd ath headed =
    let (i, ati) = place_at image entry graph addresses table start r.laid headed.from headed.arc.reached in
    let step = head_by image entry graph addresses table reverse sources ranks start r i h headed.from hd ati ath headed.arc in
    record { from = step.steps; there = step.there; one = i; some = step.goes }

-- Bodies.
met_apart : (table : List (List ℕ)) (starts : List ℕ) (barred x : ℕ) → IsMet table starts barred x → x ≡ barred → ⊥
met_apart table starts barred _ (IsMet.begins x among free) = free
met_apart table starts barred _ (IsMet.goes from to met step free) = free

met_body : (image : Image) (entry : ℕ) (graph : Graph) (addresses : List ℕ) (table reverse sources : List (List ℕ)) (ranks : List ℕ) (start : ℕ) →
    IsRegular image entry graph addresses table reverse sources ranks start → (h hd : ℕ) → slice_get addresses h ≡ Some hd →
    (from : List ℕ) → slice_get sources h ≡ Some from → (x : ℕ) → IsMet reverse from h x →
    (a : ℕ) × (slice_get addresses x ≡ Some a) × IsInBody image entry hd a
met_body image entry graph addresses table reverse sources ranks start r h hd ath from there _ (IsMet.begins x among free) =
    let back = r.are.sound x h (a_step sources h x from there among) in
    let (a, b, ata, atb, on) = step_goes image entry graph addresses table start r.laid x h back.goes in
    (a, ata, IsInBody.source a (back_arc image entry graph addresses table start r.laid x h a hd ata ath back))
met_body image entry graph addresses table reverse sources ranks start r h hd ath from there _ (IsMet.goes y x met step free) =
    let (b, atb, body) = met_body image entry graph addresses table reverse sources ranks start r h hd ath from there y met in
    let (a, c, ata, atc, on) = step_goes image entry graph addresses table start r.laid x y (r.reversed.only y x step) in (
      a,
      ata,
      IsInBody.before a b (reached_at image entry graph addresses table start r.laid x a ata)
          (goes_at image entry graph addresses table start r.laid x y a b ata atb (r.reversed.only y x step))
          (λ e. met_apart reverse from h y met (same_place addresses r.laid.rising y h hd
          (subst (λ (n : ℕ). slice_get addresses y ≡ Some n) e atb) ath))
          body,
    )

pub holds_body : (image : Image) (entry : ℕ) (graph : Graph) (addresses : List ℕ) (table reverse sources : List (List ℕ)) (ranks : List ℕ) (start : ℕ) →
    IsRegular image entry graph addresses table reverse sources ranks start → (h hd x a : ℕ) → slice_get addresses h ≡ Some hd →
    slice_get addresses x ≡ Some a → Holds reverse sources h x → IsInBody image entry hd a
holds_body image entry graph addresses table reverse sources ranks start r h hd x a ath atx holds = by_case holds.held
  where
    by_case : (x ≡ h) ⊎ IsMet reverse holds.from h x → IsInBody image entry hd a
    by_case (inl e) =
        subst (IsInBody image entry hd)
        (same_at addresses h hd a ath (subst (λ (k : ℕ). slice_get addresses k ≡ Some a) e atx))
        (IsInBody.head (header_of image entry graph addresses table reverse sources ranks start r h hd ath
        (record { from = holds.from; there = holds.there; one = holds.one; some = holds.some })))
    by_case (inr met) =
        let (b, atb, body) = met_body image entry graph addresses table reverse sources ranks start r h hd ath holds.from holds.there x met in
        subst (IsInBody image entry hd) (same_at addresses x b a atb atx) body

body_met : (image : Image) (entry : ℕ) (graph : Graph) (addresses : List ℕ) (table reverse sources : List (List ℕ)) (ranks : List ℕ) (start : ℕ) →
    IsRegular image entry graph addresses table reverse sources ranks start → (h hd : ℕ) → slice_get addresses h ≡ Some hd →
    (from : List ℕ) → slice_get sources h ≡ Some from → (a : ℕ) → IsInBody image entry hd a → (x : ℕ) → slice_get addresses x ≡ Some a →
    (x ≡ h) ⊎ IsMet reverse from h x
body_met image entry graph addresses table reverse sources ranks start r h hd ath from there _ (IsInBody.head headed) x at =
    inl (same_place addresses r.laid.rising x h hd at ath)
body_met image entry graph addresses table reverse sources ranks start r h hd ath from there _ (IsInBody.source a arc) x at =
    elim (cases_eq x h) as (λ _. (x ≡ h) ⊎ IsMet reverse from h x) [
      | inl e ↦ inl e
      | inr differ ↦ inr (IsMet.begins x (step_among sources h x from there
          (head_by image entry graph addresses table reverse sources ranks start r x h a hd at ath arc)) differ)
    ]
body_met image entry graph addresses table reverse sources ranks start r h hd ath from there _ (IsInBody.before a b reached on apart body) x at =
    let (y, aty) = place_at image entry graph addresses table start r.laid b (goes-reached image entry a b reached on) in
    join y aty (body_met image entry graph addresses table reverse sources ranks start r h hd ath from there b body y aty)
  where
    join : (y : ℕ) → slice_get addresses y ≡ Some b → (y ≡ h) ⊎ IsMet reverse from h y → (x ≡ h) ⊎ IsMet reverse from h x
    join y aty (inl e) =
        absurd (apart (same_at addresses h b hd (subst (λ (k : ℕ). slice_get addresses k ≡ Some b) e aty) ath))
    join y aty (inr met) = elim (cases_eq x h) as (λ _. (x ≡ h) ⊎ IsMet reverse from h x) [
      | inl e ↦ inl e
      | inr differ ↦ inr (IsMet.goes y x met
          (r.reversed.back x y (goes_step image entry graph addresses table start r.laid x y a b at aty on)) differ)
    ]

pub body_holds : (image : Image) (entry : ℕ) (graph : Graph) (addresses : List ℕ) (table reverse sources : List (List ℕ)) (ranks : List ℕ) (start : ℕ) →
    IsRegular image entry graph addresses table reverse sources ranks start → (h hd x a : ℕ) → slice_get addresses h ≡ Some hd →
    slice_get addresses x ≡ Some a → IsInBody image entry hd a → Holds reverse sources h x
body_holds image entry graph addresses table reverse sources ranks start r h hd x a ath atx body =
    let head = head_of image entry graph addresses table reverse sources ranks start r h hd ath (body-header image entry hd a body) in
    record {
      from = head.from;
      there = head.there;
      one = head.one;
      some = head.some;
      held = body_met image entry graph addresses table reverse sources ranks start r h hd ath head.from head.there a body x atx;
    }

-- The innermost loop of a position.
pub inner_is : (image : Image) (entry : ℕ) (graph : Graph) (addresses : List ℕ) (table reverse sources : List (List ℕ)) (ranks : List ℕ) (start : ℕ) →
    IsRegular image entry graph addresses table reverse sources ranks start → (h hd x a : ℕ) → slice_get addresses h ≡ Some hd →
    slice_get addresses x ≡ Some a → IsInner reverse sources ranks (length reverse) x (Some h) → IsInnermost image entry hd a
inner_is image entry graph addresses table reverse sources ranks start r h hd x a ath atx is =
    innermost-of image entry (ranks_by image entry graph addresses table reverse sources ranks start r)
    (told_by image entry graph addresses table reverse sources ranks start r) hd a
    (holds_body image entry graph addresses table reverse sources ranks start r h hd x a ath atx is.1)
    (λ other body.
    let (o, ato) = place_at image entry graph addresses table start r.laid other
    (header-reached image entry other (body-header image entry other a body)) in
    omega (
      arith,
      rank_is addresses (length table) ranks r.laid.rising o other ato,
      rank_is addresses (length table) ranks r.laid.rising h hd ath,
      is.2 o
          (omega (arith, r.reversed.count, slice_get_within addresses o other ato, count_is image entry graph addresses table start r.laid))
          (body_holds image entry graph addresses table reverse sources ranks start r o other x a ato atx body),
    ))
    (λ b c one another e.
    let (i, ati) = place_at image entry graph addresses table start r.laid b one in
    let (j, atj) = place_at image entry graph addresses table start r.laid c another in
    let same : i ≡ j = r.ranked.distinct i j
    (r.ranked.ranked i (omega (arith, slice_get_within addresses i b ati, count_is image entry graph addresses table start r.laid)))
    (omega (
      arith,
      e,
      rank_is addresses (length table) ranks r.laid.rising i b ati,
      rank_is addresses (length table) ranks r.laid.rising j c atj,
      r.ranked.bound i,
      r.ranked.bound j,
    )) in
    same_at addresses j b c (subst (λ (k : ℕ). slice_get addresses k ≡ Some b) same ati) atj)

pub inner_back : (image : Image) (entry : ℕ) (graph : Graph) (addresses : List ℕ) (table reverse sources : List (List ℕ)) (ranks : List ℕ) (start : ℕ)
    (innermost : List (Option ℕ)) → IsRegular image entry graph addresses table reverse sources ranks start →
    AreInner reverse sources ranks (length reverse) innermost → (h hd x a : ℕ) → slice_get addresses h ≡ Some hd →
    slice_get addresses x ≡ Some a → IsInnermost image entry hd a → slice_get innermost x ≡ Some (Some h)
inner_back image entry graph addresses table reverse sources ranks start innermost r are h hd x a ath atx inner =
    by_case (get_or innermost x None) there (are.each x (get_or innermost x None) there)
  where
    count : length reverse ≡ length addresses
    count = r.reversed.count ∙ count_is image entry graph addresses table start r.laid

    there : slice_get innermost x ≡ Some (get_or innermost x None)
    there = slice_get-get_or innermost x None (omega (arith, are.count, count, slice_get_within addresses x a atx))

    address_there : (k : ℕ) → k < length addresses → (b : ℕ) × (slice_get addresses k ≡ Some b)
    address_there k less = (get_or addresses k 0, slice_get-get_or addresses k 0 less)

    by_case : (found : Option ℕ) → slice_get innermost x ≡ Some found → IsInner reverse sources ranks (length reverse) x found →
        slice_get innermost x ≡ Some (Some h)
    by_case None e none =
        absurd (none h (omega (arith, count, slice_get_within addresses h hd ath))
        (body_holds image entry graph addresses table reverse sources ranks start r h hd x a ath atx inner.held))
    by_case (Some other) e is =
        let (b, atb) = address_there other (omega (arith, is.0, count)) in
        let same : b ≡ hd = innermost-one image entry b hd a
        (inner_is image entry graph addresses table reverse sources ranks start r other b x a atb atx is) inner in
        e ∙ ap (λ (k : ℕ). Some (Some k))
        (same_place addresses r.laid.rising other h hd (subst (λ (n : ℕ). slice_get addresses other ≡ Some n) same atb) ath)

-- The records that name a loop.
pub bounds_named : (image : Image) (entry : ℕ) (graph : Graph) (addresses : List ℕ) (table reverse sources : List (List ℕ)) (ranks : List ℕ) (start : ℕ)
    (innermost : List (Option ℕ)) → IsRegular image entry graph addresses table reverse sources ranks start →
    AreInner reverse sources ranks (length reverse) innermost → (h hd : ℕ) → slice_get addresses h ≡ Some hd → (mark : Mark) →
    Names graph.units innermost mark h → IsNamedBy image entry mark hd
bounds_named image entry graph addresses table reverse sources ranks start innermost r are h hd ath mark names =
    let node = names.node in
    let is : IsNode image entry node = is_node image entry graph r.laid.graphed names.position node names.there in
    let at =
    place_is graph.units addresses (record { are = r.laid.are; rising = r.laid.rising }) names.position node names.there in
    record {
      bounds = names.kind;
      address = node.address;
      reached = is.reached;
      unit = is.unit;
      stands = is.stands;
      there = subst (λ (b : Bool). (mark.address ≡ node.address) ⊎ ((b ≡ true) × (mark.address ≡ node.address + 4)))
          is.described.slot names.place;
      innermost = inner_is image entry graph addresses table reverse sources ranks start r h hd names.position node.address
          ath at (are.each names.position (Some h) names.inner);
    }

pub named_bounds : (image : Image) (entry : ℕ) (graph : Graph) (addresses : List ℕ) (table reverse sources : List (List ℕ)) (ranks : List ℕ) (start : ℕ)
    (innermost : List (Option ℕ)) → IsRegular image entry graph addresses table reverse sources ranks start →
    AreInner reverse sources ranks (length reverse) innermost → (h hd : ℕ) → slice_get addresses h ≡ Some hd → (mark : Mark) →
    IsNamedBy image entry mark hd → Names graph.units innermost mark h
named_bounds image entry graph addresses table reverse sources ranks start innermost r are h hd ath mark named =
    let (p, atp) = place_at image entry graph addresses table start r.laid named.address named.reached in
    let (node, there, same) = node_is graph.units addresses (record { are = r.laid.are; rising = r.laid.rising }) p named.address atp in
    let is : IsNode image entry node = is_node image entry graph r.laid.graphed p node there in
    let inner = inner_back image entry graph addresses table reverse sources ranks start innermost r are h hd p named.address ath atp named.innermost in
    record {
      kind = named.bounds;
      position = p;
      node = node;
      there = there;
      inner = inner;
      place = by_case node same
          (is.described.slot ∙ ap (λ (u : CodeUnit). is_some u.slot)
          (same_unit is.unit named.unit (subst (λ (x : ℕ). unit_at image x ≡ Stands is.unit) same is.stands) named.stands))
          named.there;
    }
  where
    same_stands : (u v : CodeUnit) → Stands u ≡ Stands v → u ≡ v
    same_stands u v e = cc

    same_unit : (u v : CodeUnit) → unit_at image named.address ≡ Stands u → unit_at image named.address ≡ Stands v → u ≡ v
    same_unit u v h k = same_stands u v (sym h ∙ k)

    by_case : (node : Node) → node.address ≡ named.address → node.slot ≡ is_some named.unit.slot →
        (mark.address ≡ named.address) ⊎ ((is_some named.unit.slot ≡ true) × (mark.address ≡ named.address + 4)) →
        (mark.address ≡ node.address) ⊎ ((node.slot ≡ true) × (mark.address ≡ node.address + 4))
    by_case node same slot (inl e) = inl (e ∙ sym same)
    by_case node same slot (inr both) = inr (slot ∙ both.0, omega (arith, both.1, same))
