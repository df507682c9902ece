-- The addresses of a body, and the loops of a function, are collected.
use Rattle.std.proofs.Common.{◌≡◌, ℕ, ◌+◌, ◌<◌, ◌≤◌, List, [], ◌∷◌, ◌++◌, length, get_or, take, Option, Some, None, refl, sym, subst, ap, ◌∙◌, arith, inl, inr, ◌⊎◌}
use Rattle.std.specs.Prelude.{Contains, slice_get}
use Rattle.std.specs.List.Sorted.{IsPermutation, IsSorted}
use Rattle.std.specs.Ordering.{nat_cmp}
use Rattle.std.proofs.Math.Dec.{eqb}
use Rattle.std.proofs.lemmas.Bool.{cases_eq}
use Rattle.std.proofs.lemmas.Bool.Decides.{Decides-eqb, eqb_tells}
use Rattle.std.proofs.lemmas.Option.{same_Some, slice_get-get_or, slice_get_within, get_or_from_slice_get}
use Rattle.std.proofs.lemmas.List.{take_all, take_more}
use Rattle.std.proofs.lemmas.List.Elements.{Contains-append_left, Contains-get_or, Contains-push, Contains-push_cases}
use Rattle.std.proofs.lemmas.List.Kept.{AllPairs-from_increasing}
use Rattle.std.proofs.lemmas.List.Quantifiers.{all_pairs_push}
use Rattle.std.proofs.lemmas.List.Sorted.{Contains-permutation, IsNonDecreasingBy-from_sort, IsPermutation-sym}
use Rattle.std.proofs.lemmas.Map.Keys.{IsDistinct-IsPermutation, IsStrictlyIncreasing-from_distinct}
use Rattle.std.proofs.lemmas.Map.Made.{IsDistinct-from_AllPairs}
use Rattle.loop_nest.specs.Bodies.{IsBody}
use Rattle.loop_nest.specs.Listing.{AreLoopsAt, IsHead, IsListing, IsLoopAt, IsUnboundedAt}
use Rattle.step_table.specs.Search.{AreApart}
use Rattle.step_table.specs.Table.{IsMet}
use Rattle.loop_nest.specs.declared.nest.Loop.{Loop}
use Rattle.loop_nest.proofs.Choosing.{pair_before}
use Rattle.step_table.proofs.Positions.{Rises}

nothing_in : {X : Type 0} (x : X) → Contains [] x → ⊥
nothing_in x (k, inside, e) = omega arith

rises_at : (xs : List ℕ) → Rises xs → (i j a b : ℕ) → i < j → slice_get xs i ≡ Some a → slice_get xs j ≡ Some b → a < b
rises_at xs rising i j a b less h k =
    omega (
      arith,
      rising i j 0 less (slice_get_within xs j b k),
      get_or_from_slice_get xs i a 0 h,
      get_or_from_slice_get xs j b 0 k,
    )

pub listing_start : (addresses list : List ℕ) → list ≡ [] → IsListing addresses [] list
listing_start addresses list e = subst (IsListing addresses []) (sym e) (record {
  rising = λ i j d less within. absurd (omega (arith, within));
  sound = λ a c. absurd (nothing_in a c);
  whole = λ k a there c. absurd (nothing_in k c);
})

-- One more of the rising positions.
pub listing_more : (addresses positions : List ℕ) (i : ℕ) (list : List ℕ) (d : ℕ) → Rises addresses → Rises positions →
    i < length positions → get_or positions i 0 < length addresses → IsListing addresses (take i positions) list →
    IsListing addresses (take (i + 1) positions) (list ++ get_or addresses (get_or positions i 0) d ∷ [])
listing_more addresses positions i list d rising rises inside within listing =
    subst (λ (ps : List ℕ). IsListing addresses ps (list ++ one ∷ [])) (sym (take_more positions i 0 inside)) (record {
      rising = all_pairs_push (λ (a b : ℕ). a < b) list one listing.rising
          (λ k e less. let (place, there, among) = listing.sound (get_or list k e) (Contains-get_or list k e less) in
          rises_at addresses rising place at (get_or list k e) one
          (pair_before (λ (x y : ℕ). x < y) positions i rises inside place among) there at_one);
      sound = λ a c. elim (Contains-push_cases list one a c)
          as (λ _. (k : ℕ) × (slice_get addresses k ≡ Some a) × Contains (take i positions ++ at ∷ []) k) [
            | inl old ↦ let (k, there, among) = listing.sound a old in
                (k, there, Contains-append_left (take i positions) (at ∷ []) k among)
            | inr e ↦ (at, subst (λ (x : ℕ). slice_get addresses at ≡ Some x) e at_one, Contains-push (take i positions) at)
          ];
      whole = λ k a there c. elim (Contains-push_cases (take i positions) at k c) as (λ _. Contains (list ++ one ∷ []) a) [
        | inl old ↦ Contains-append_left list (one ∷ []) a (listing.whole k a there old)
        | inr e ↦ subst (Contains (list ++ one ∷ []))
            (same_Some one a (sym at_one ∙ subst (λ (x : ℕ). slice_get addresses x ≡ Some a) (sym e) there))
            (Contains-push list one)
      ];
    })
  where
    at : ℕ
    at = get_or positions i 0

    one : ℕ
    one = get_or addresses at d

    at_one : slice_get addresses at ≡ Some one
    at_one = slice_get-get_or addresses at d within

pub listing_end : (addresses positions : List ℕ) (i : ℕ) (list : List ℕ) → length positions ≤ i →
    IsListing addresses (take i positions) list → IsListing addresses positions list
listing_end addresses positions i list end listing =
    subst (λ (ps : List ℕ). IsListing addresses ps list) (take_all i positions end) listing

-- The positions may stand in another order.
pub listing_moved : (addresses positions sorted list : List ℕ) → IsPermutation positions sorted →
    IsListing addresses sorted list → IsListing addresses positions list
listing_moved addresses positions sorted list moved listing = record {
  rising = listing.rising;
  sound = λ a c. let (k, there, among) = listing.sound a c in
      (k, there, Contains-permutation sorted positions k (IsPermutation-sym positions sorted moved) among);
  whole = λ k a there c. listing.whole k a there (Contains-permutation positions sorted k moved c);
}

-- Positions that differ rise once they are sorted.
pub rises_sorted : (positions sorted : List ℕ) → AreApart positions → IsPermutation positions sorted →
    IsSorted nat_cmp sorted → Rises sorted
rises_sorted positions sorted apart moved in_order =
    AllPairs-from_increasing sorted
    (IsStrictlyIncreasing-from_distinct sorted (IsNonDecreasingBy-from_sort (λ (x : ℕ). x) sorted in_order)
    (IsDistinct-IsPermutation eqb flips positions sorted moved (IsDistinct-from_AllPairs Decides-eqb positions apart)))
  where
    flips : (x y : ℕ) → eqb x y ≡ eqb y x
    flips x y = elim (eqb_tells x y) as (λ _. eqb x y ≡ eqb y x) [
      | inl same ↦ same.0 ∙ sym ((Decides-eqb y x).1 (sym same.1))
      | inr differ ↦ elim (eqb_tells y x) as (λ _. eqb x y ≡ eqb y x) [
        | inl same ↦ absurd (differ.1 (sym same.1))
        | inr again ↦ differ.0 ∙ sym again.0
      ]
    ]

-- The loop of a header.
pub loop_by : (addresses : List ℕ) (reverse sources : List (List ℕ)) (bounds : List (Option ℕ)) (header : ℕ) (from : List ℕ)
    (positions : List ℕ) (one : Loop) → length addresses ≡ length reverse → header < length addresses →
    get_or addresses header one.header ≡ one.header → 0 < length from → IsBody reverse from header positions →
    IsListing addresses positions one.body → slice_get sources header ≡ Some from →
    slice_get bounds header ≡ Some (Some one.bound) → IsLoopAt addresses reverse sources bounds header one
loop_by addresses reverse sources bounds header from positions one count within same some body listing there bounded = record {
  address = slice_get-get_or addresses header one.header within ∙ ap (λ (a : ℕ). Some a) same;
  head = record { from = from; there = there; one = get_or from 0 0; some = first };
  rising = listing.rising;
  sound = λ a c. let (k, at, among) = listing.sound a c in
      (k, at, record { from = from; there = there; one = get_or from 0 0; some = first; held = body.sound k among });
  whole = λ k a at holds. listing.whole k a at (listed k
      (subst (λ (xs : List ℕ). (k ≡ header) ⊎ IsMet reverse xs header k) (same_Some holds.from from (sym holds.there ∙ there)) holds.held));
  bounded = bounded;
}
  where
    first : Contains from (get_or from 0 0)
    first = Contains-get_or from 0 0 some

    listed : (k : ℕ) → (k ≡ header) ⊎ IsMet reverse from header k → Contains positions k
    listed k (inl e) = subst (Contains positions) (sym e) body.head
    listed k (inr met) = body.whole k met

pub loops_start : (addresses : List ℕ) (reverse sources : List (List ℕ)) (bounds : List (Option ℕ)) (loops : List Loop) →
    loops ≡ [] → AreLoopsAt addresses reverse sources bounds 0 loops
loops_start addresses reverse sources bounds loops e =
    subst (AreLoopsAt addresses reverse sources bounds 0) (sym e) (record {
      rising = λ i j d less within. absurd (omega (arith, within));
      sound = λ l c. absurd (nothing_in l c);
      whole = λ header less head. absurd (omega (arith, less));
    })

pub loops_skip : (addresses : List ℕ) (reverse sources : List (List ℕ)) (bounds : List (Option ℕ)) (done : ℕ) (loops : List Loop)
    (from : List ℕ) → slice_get sources done ≡ Some from → (0 < length from → ⊥) →
    AreLoopsAt addresses reverse sources bounds done loops → AreLoopsAt addresses reverse sources bounds (done + 1) loops
loops_skip addresses reverse sources bounds done loops from there empty are = record {
  rising = are.rising;
  sound = λ l c. let (header, less, is) = are.sound l c in (header, omega (arith, less), is);
  whole = λ header less head. elim (cases_eq header done)
      as (λ _. (l : Loop) × Contains loops l × IsLoopAt addresses reverse sources bounds header l) [
        | inl e ↦ absurd (none (subst (IsHead sources) e head))
        | inr differ ↦ are.whole header (omega (arith, less, differ)) head
      ];
}
  where
    none : IsHead sources done → ⊥
    none head =
        let among : Contains from head.one = subst (λ (xs : List ℕ). Contains xs head.one) (same_Some head.from from (sym head.there ∙ there)) head.some in
        empty (omega (arith, among.1))

pub loops_more : (addresses : List ℕ) (reverse sources : List (List ℕ)) (bounds : List (Option ℕ)) (done : ℕ) (loops : List Loop)
    (new : Loop) → Rises addresses → IsLoopAt addresses reverse sources bounds done new →
    AreLoopsAt addresses reverse sources bounds done loops →
    AreLoopsAt addresses reverse sources bounds (done + 1) (loops ++ new ∷ [])
loops_more addresses reverse sources bounds done loops new rising is are = record {
  rising = all_pairs_push (λ (l m : Loop). l.header < m.header) loops new are.rising
      (λ k d less. let (header, before, at) = are.sound (get_or loops k d) (Contains-get_or loops k d less) in
      rises_at addresses rising header done (get_or loops k d).header new.header before at.address is.address);
  sound = λ l c. elim (Contains-push_cases loops new l c)
      as (λ _. (header : ℕ) × (header < done + 1) × IsLoopAt addresses reverse sources bounds header l) [
        | inl old ↦ let (header, less, at) = are.sound l old in (header, omega (arith, less), at)
        | inr e ↦ (done, omega arith, subst (IsLoopAt addresses reverse sources bounds done) e is)
      ];
  whole = λ header less head. elim (cases_eq header done)
      as (λ _. (l : Loop) × Contains (loops ++ new ∷ []) l × IsLoopAt addresses reverse sources bounds header l) [
        | inl e ↦ (new, Contains-push loops new, subst (λ (h : ℕ). IsLoopAt addresses reverse sources bounds h new) (sym e) is)
        | inr differ ↦ let (l, among, at) = are.whole header (omega (arith, less, differ)) head in
            (l, Contains-append_left loops (new ∷ []) l among, at)
      ];
}

pub unbounded_by : (addresses : List ℕ) (reverse sources : List (List ℕ)) (bounds : List (Option ℕ)) (done : ℕ) (loops : List Loop)
    (from : List ℕ) (d : Option ℕ) → slice_get sources done ≡ Some from → 0 < length from → done < length bounds →
    (get_or bounds done d ≡ None) → AreLoopsAt addresses reverse sources bounds done loops → IsUnboundedAt sources bounds done
unbounded_by addresses reverse sources bounds done loops from d there some within none are = record {
  head = record { from = from; there = there; one = get_or from 0 0; some = Contains-get_or from 0 0 some };
  none = slice_get-get_or bounds done d within ∙ ap (λ (b : Option ℕ). Some b) none;
  first = λ earlier less head. let (l, among, at) = are.whole earlier less head in (l.bound, at.bounded);
}

pub not_some : (found : Option ℕ) → ((x : ℕ) → found ≡ Some x → ⊥) → found ≡ None
not_some None apart = refl
not_some (Some x) apart = absurd (apart x refl)

pub same_number : (xs : List ℕ) (k : ℕ) → k < length xs → get_or xs k (get_or xs k 0) ≡ get_or xs k 0
same_number xs k within =
    get_or_from_slice_get xs k (get_or xs k 0) (get_or xs k 0) (slice_get-get_or xs k 0 within)
