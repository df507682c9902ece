-- The addresses of units, and the least of the bounds of headers.
use Rattle.std.proofs.Common.{◌≡◌, ℕ, ◌+◌, ◌≤◌, true, List, [], ◌∷◌, map, length, get_or, replicate, Option, Some, None, refl, sym, subst, ap, ◌∙◌, arith, inl, inr, ◌⊎◌}
use Rattle.std.specs.Prelude.{Contains, slice_get, zero, suc}
use Rattle.std.proofs.Math.ListN.{length-replicate}
use Rattle.std.proofs.lemmas.Bool.{cases_eq, cases_lt}
use Rattle.std.proofs.lemmas.Option.{none-some, same_Some, slice_get-get_or, slice_get_within}
use Rattle.elf_mips.specs.declared.mark.Mark.{Mark}
use Rattle.unit_graph.specs.declared.node.Unit.{Unit as Node}
use Rattle.loop_nest.specs.Bounds.{AreBounds, AreBoundsBy, AreRecorded, IsBoundBy, IsGiven, IsLeastOf, IsLowered, IsRecorded, lesser_of}
use Rattle.loop_nest.proofs.Least.{least_above, least_either, least_equal}
use Rattle.step_table.proofs.Positions.{Rises}
use Rattle.step_table.proofs.Seen.{slice_get-replicate}

abbrev pub address_of : Node → ℕ
address_of node = node.address

-- The address at a unit's place.
pub address_at : (units : List Node) (k : ℕ) (node : Node) → slice_get units k ≡ Some node →
    slice_get (map address_of units) k ≡ Some node.address
address_at [] k node h = absurd (none-some node h)
address_at (one ∷ units) zero node h = ap (λ (n : Node). Some n.address) (same_Some one node h)
address_at (one ∷ units) (suc k) node h = address_at units k node h

pub unit_at : (units : List Node) (k a : ℕ) → slice_get (map address_of units) k ≡ Some a →
    (node : Node) × (slice_get units k ≡ Some node) × (node.address ≡ a)
unit_at [] k a h = absurd (none-some a h)
unit_at (one ∷ units) zero a h = (one, refl, same_Some one.address a h)
unit_at (one ∷ units) (suc k) a h = unit_at units k a h

-- The units, their addresses and their innermost headers.
pub record AreUnits (units : List Node) (addresses : List ℕ) : Type 0 where
  pub are : addresses ≡ map address_of units
  pub rising : Rises addresses

pub place_is : (units : List Node) (addresses : List ℕ) → AreUnits units addresses → (k : ℕ) (node : Node) →
    slice_get units k ≡ Some node → slice_get addresses k ≡ Some node.address
place_is units addresses of k node h =
    subst (λ (xs : List ℕ). slice_get xs k ≡ Some node.address) (sym of.are) (address_at units k node h)

pub node_is : (units : List Node) (addresses : List ℕ) → AreUnits units addresses → (k a : ℕ) →
    slice_get addresses k ≡ Some a → (node : Node) × (slice_get units k ≡ Some node) × (node.address ≡ a)
node_is units addresses of k a h = unit_at units k a (subst (λ (xs : List ℕ). slice_get xs k ≡ Some a) of.are h)

-- No header has a bound before a unit was looked at.
pub bounds_start : (units : List Node) (innermost : List (Option ℕ)) (recorded : ℕ → Option ℕ) (new : List (Option ℕ)) →
    new ≡ replicate (length units) None → AreBoundsBy units innermost recorded 0 new
bounds_start units innermost recorded new e = record {
  count = ap length e ∙ length-replicate (length units) None;
  each = λ header found there.
      subst (IsLeastOf (IsBoundBy units innermost recorded 0 header))
      (slice_get-replicate (length units) header None found
      (subst (λ (xs : List (Option ℕ)). slice_get xs header ≡ Some found) e there))
      (λ x one. omega (arith, one.early));
}

some_cases : (header : Option ℕ) (h : ℕ) → (header ≡ Some h) ⊎ (header ≡ Some h → ⊥)
some_cases None h = inr (λ e. none-some h e)
some_cases (Some x) h = elim (cases_eq x h) as (λ _. (Some x ≡ Some h) ⊎ (Some x ≡ Some h → ⊥)) [
  | inl e ↦ inl (ap (λ (at : ℕ). Some at) e)
  | inr differ ↦ inr (λ e. differ (same_Some x h e))
]

-- One more unit lowers the bound of its innermost header.
pub bounds_more : (units : List Node) (innermost : List (Option ℕ)) (recorded : ℕ → Option ℕ) (done : ℕ) (before later : List (Option ℕ))
    (node : Node) (header bound : Option ℕ) → slice_get units done ≡ Some node → slice_get innermost done ≡ Some header →
    IsLeastOf (IsGiven recorded node) bound → IsLowered header bound before later →
    AreBoundsBy units innermost recorded done before → AreBoundsBy units innermost recorded (done + 1) later
bounds_more units innermost recorded done before later node header bound here inner least low are = record {
  count = low.count ∙ are.count;
  each = λ h found there. by_case h found there (some_cases header h);
}
  where
    New : ℕ → ℕ → Type 0
    New h x = (header ≡ Some h) × IsGiven recorded node x

    on : (h x : ℕ) → IsBoundBy units innermost recorded done h x ⊎ New h x → IsBoundBy units innermost recorded (done + 1) h x
    on h x (inl one) = record {
      position = one.position;
      early = omega (arith, one.early);
      node = one.node;
      there = one.there;
      inner = one.inner;
      given = one.given;
    }
    on h x (inr new) = record {
      position = done;
      early = omega arith;
      node = node;
      there = here;
      inner = inner ∙ ap (λ (o : Option ℕ). Some o) new.0;
      given = new.1;
    }

    at_last : (h x : ℕ) (one : IsBoundBy units innermost recorded (done + 1) h x) → one.position ≡ done → New h x
    at_last h x one e = (
      same_Some header (Some h) (sym inner ∙ subst (λ (k : ℕ). slice_get innermost k ≡ Some (Some h)) e one.inner),
      subst (λ (n : Node). IsGiven recorded n x)
          (same_Some one.node node (sym (subst (λ (k : ℕ). slice_get units k ≡ Some one.node) e one.there) ∙ here)) one.given,
    )

    back : (h x : ℕ) → IsBoundBy units innermost recorded (done + 1) h x → IsBoundBy units innermost recorded done h x ⊎ New h x
    back h x one = elim (cases_lt one.position done) as (λ _. IsBoundBy units innermost recorded done h x ⊎ New h x) [
      | inl less ↦ inl (record {
        position = one.position;
        early = less;
        node = one.node;
        there = one.there;
        inner = one.inner;
        given = one.given;
      })
      | inr more ↦ inr (at_last h x one (let e : one.position ≡ done = omega (arith, more, one.early) in e))
    ]

    by_case : (h : ℕ) (found : Option ℕ) → slice_get later h ≡ Some found → (header ≡ Some h) ⊎ (header ≡ Some h → ⊥) →
        IsLeastOf (IsBoundBy units innermost recorded (done + 1) h) found
    by_case h found there (inl e) =
        let old : Option ℕ = get_or before h None in
        let was : slice_get before h ≡ Some old =
        slice_get-get_or before h None (omega (arith, low.count, slice_get_within later h found there)) in
        subst (IsLeastOf (IsBoundBy units innermost recorded (done + 1) h)) (sym (low.lesser h old found e was there))
        (least_equal (λ x. IsBoundBy units innermost recorded done h x ⊎ New h x) (IsBoundBy units innermost recorded (done + 1) h)
        (lesser_of old bound) (on h) (back h)
        (least_either (IsBoundBy units innermost recorded done h) (New h) old bound (are.each h old was)
        (least_equal (IsGiven recorded node) (New h) bound (λ x g. (e, g)) (λ x new. new.1) least)))
    by_case h found there (inr differ) =
        least_equal (IsBoundBy units innermost recorded done h) (IsBoundBy units innermost recorded (done + 1) h) found
        (λ x one. on h x (inl one)) (λ x one. old x (back h x one))
        (are.each h found (sym (low.other h differ) ∙ there))
      where
        old : (x : ℕ) → IsBoundBy units innermost recorded done h x ⊎ New h x → IsBoundBy units innermost recorded done h x
        old x (inl one) = one
        old x (inr new) = absurd (differ new.0)

-- A record of kind 1 stands at the address of a unit or at that of its slot, and so names the unit's innermost header.
pub record Names (units : List Node) (innermost : List (Option ℕ)) (mark : Mark) (header : ℕ) : Type 0 where
  pub kind : mark.kind ≡ 1
  pub position : ℕ
  pub node : Node
  pub there : slice_get units position ≡ Some node
  pub inner : slice_get innermost position ≡ Some (Some header)
  pub place : (mark.address ≡ node.address) ⊎ ((node.slot ≡ true) × (mark.address ≡ node.address + 4))

-- One of the records names a header and gives this number.
pub record IsBoundOf (units : List Node) (innermost : List (Option ℕ)) (marks : List Mark) (header x : ℕ) : Type 0 where
  pub mark : Mark
  pub listed : Contains marks mark
  pub names : Names units innermost mark header
  pub same : mark.x ≡ x

-- What is recorded for the units of a header is the least of the records that name it.
pub bound_is : (units : List Node) (innermost : List (Option ℕ)) (marks : List Mark) (recorded : ℕ → Option ℕ) (bounds : List (Option ℕ)) →
    AreRecorded marks recorded → AreBounds units innermost recorded bounds → (header : ℕ) (found : Option ℕ) →
    slice_get bounds header ≡ Some found → IsLeastOf (IsBoundOf units innermost marks header) found
bound_is units innermost marks recorded bounds records are header found at =
    least_above (IsBoundBy units innermost recorded (length units) header) (IsBoundOf units innermost marks header) found
    on down (are.each header found at)
  where
    By : ℕ → Type 0
    By x = IsBoundBy units innermost recorded (length units) header x

    recorded_by : (address x : ℕ) → recorded address ≡ Some x → IsRecorded marks address x
    recorded_by address x e = (subst (IsLeastOf (IsRecorded marks address)) e (records address)).0

    bound : (x : ℕ) (by : By x) (address : ℕ) → IsRecorded marks address x →
        ((a : ℕ) → a ≡ address → (a ≡ by.node.address) ⊎ ((by.node.slot ≡ true) × (a ≡ by.node.address + 4))) →
        IsBoundOf units innermost marks header x
    bound x by address one place = record {
      mark = one.mark;
      listed = one.listed;
      names = record {
        kind = one.kind;
        position = by.position;
        node = by.node;
        there = by.there;
        inner = by.inner;
        place = place one.mark.address one.there;
      };
      same = one.same;
    }

    on_given : (x : ℕ) (by : By x) → IsGiven recorded by.node x → IsBoundOf units innermost marks header x
    on_given x by (inl e) = bound x by by.node.address (recorded_by by.node.address x e) (λ a same. inl same)
    on_given x by (inr slot) =
        bound x by (by.node.address + 4) (recorded_by (by.node.address + 4) x slot.1) (λ a same. inr (slot.0, same))

    on : (x : ℕ) → By x → IsBoundOf units innermost marks header x
    on x by = on_given x by by.given

    -- What is recorded where one of the records stands is no greater than its number.
    below : (address x : ℕ) → IsRecorded marks address x → (y : ℕ) × (recorded address ≡ Some y) × (y ≤ x)
    below address x one = by_case (recorded address) refl (records address)
      where
        by_case : (o : Option ℕ) → recorded address ≡ o → IsLeastOf (IsRecorded marks address) o →
            (y : ℕ) × (recorded address ≡ Some y) × (y ≤ x)
        by_case None e none = absurd (none x one)
        by_case (Some y) e least = (y, e, least.1 x one)

    given : (node : Node) (address : ℕ) → (address ≡ node.address) ⊎ ((node.slot ≡ true) × (address ≡ node.address + 4)) →
        (y : ℕ) → recorded address ≡ Some y → IsGiven recorded node y
    given node address (inl e) y there = inl (subst (λ (a : ℕ). recorded a ≡ Some y) e there)
    given node address (inr both) y there = inr (both.0, subst (λ (a : ℕ). recorded a ≡ Some y) both.1 there)

    down : (x : ℕ) → IsBoundOf units innermost marks header x → (y : ℕ) × By y × (y ≤ x)
    down x one =
        let n = one.names in
        let low = below one.mark.address x
        (record { mark = one.mark; listed = one.listed; kind = n.kind; there = refl; same = one.same }) in (
          low.0,
          record {
            position = n.position;
            early = slice_get_within units n.position n.node n.there;
            node = n.node;
            there = n.there;
            inner = n.inner;
            given = given n.node one.mark.address n.place low.0 low.1;
          },
          low.2,
        )
