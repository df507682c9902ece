-- Which headers hold a position, and which of them is the innermost one.
use Rattle.std.proofs.Common.{◌≡◌, ℕ, ◌+◌, ◌<◌, ◌≤◌, Bool, true, false, List, [], ◌∷◌, ◌++◌, length, get_or, set, take, replicate, Option, Some, None, refl, sym, subst, ap, ◌∙◌, arith, inl, inr, ◌⊎◌}
use Rattle.std.specs.Prelude.{Contains, IfSome, slice_get, ◌==◌}
use Rattle.std.proofs.lemmas.Bool.Decides.{Decides-eqb}
use Rattle.std.proofs.Math.ListN.{length-replicate, length-set}
use Rattle.std.proofs.lemmas.Bool.{cases_eq}
use Rattle.std.proofs.lemmas.List.{take_all, take_more}
use Rattle.std.proofs.lemmas.List.Elements.{All-push, Contains-append_left, Contains-get_or, Contains-push, Contains-push_cases}
use Rattle.std.proofs.lemmas.List.Quantifiers.{all_pairs_push}
use Rattle.std.proofs.lemmas.Option.{same_Some, slice_get-get_or}
use Rattle.loop_nest.specs.Bodies.{AreBelow, AreInner, AreNoted, Holds, IsBody, IsInner, IsLesser, IsNoted}
use Rattle.step_table.specs.Listing.{ListsMet}
use Rattle.step_table.specs.Numbers.{number_of}
use Rattle.step_table.specs.Search.{AreApart}
use Rattle.step_table.specs.Table.{IsMet}
use Rattle.loop_nest.proofs.Choosing.{pair_before}
use Rattle.step_table.proofs.Seen.{in_none, slice_get-replicate, slice_get-set_other, slice_get-set_same}

-- What a test for emptiness tells.
pub none_left : (b : Bool) (n : ℕ) → b ≡ (n == 0) → b ≡ true → 0 < n → ⊥
none_left b n e h less = omega (arith, (Decides-eqb n 0).0 (sym e ∙ h), less)

pub some_left : (b : Bool) (n : ℕ) → b ≡ (n == 0) → b ≡ false → 0 < n
some_left b n e h = elim (cases_eq n 0) as (λ _. 0 < n) [
  | inl zero ↦ let full : b ≡ true = e ∙ (Decides-eqb n 0).1 zero in absurd (apart full)
  | inr differ ↦ omega (arith, differ)
]
  where
    apart : b ≡ true → ⊥
    apart full = cc

met_free : (table : List (List ℕ)) (starts : List ℕ) (barred x : ℕ) → IsMet table starts barred x → x ≡ barred → ⊥
met_free table starts barred _ (IsMet.begins start among free) = free
met_free table starts barred _ (IsMet.goes from to met step free) = free

-- The header joins what was met.
pub body_by : (reverse : List (List ℕ)) (sources : List ℕ) (header : ℕ) (met : List ℕ) →
    ListsMet reverse sources header met → header < length reverse → IsBody reverse sources header (met ++ header ∷ [])
body_by reverse sources header met lists inside = record {
  apart = all_pairs_push (λ (x y : ℕ). x ≡ y → ⊥) met header lists.apart
      (λ k d less. met_free reverse sources header (get_or met k d) (lists.sound (get_or met k d) (Contains-get_or met k d less)));
  within = All-push (λ (x : ℕ). x < length reverse) met header lists.within inside;
  sound = λ x c. elim (Contains-push_cases met header x c) as (λ _. (x ≡ header) ⊎ IsMet reverse sources header x) [
    | inl old ↦ inr (lists.sound x old)
    | inr e ↦ inl (sym e)
  ];
  head = Contains-push met header;
  whole = λ x m. Contains-append_left met (header ∷ []) x (lists.whole x m);
}

-- What stands at a position of the body to which the header hasn't come yet is what stood there before.
pub noted_before : (body ranks : List ℕ) (header i : ℕ) (before later : List (Option ℕ)) (found : Option ℕ) →
    AreApart body → i < length body → AreNoted (take i body) ranks header before later →
    slice_get later (get_or body i 0) ≡ Some found → slice_get before (get_or body i 0) ≡ Some found
noted_before body ranks header i before later found apart inside noted h =
    let (old, was, is) = noted.each (get_or body i 0) found h in
    elim is as (λ _. slice_get before (get_or body i 0) ≡ Some found) [
      | inl held ↦ absurd (pair_before (λ (x y : ℕ). x ≡ y → ⊥) body i apart inside (get_or body i 0) held.0 refl)
      | inr other ↦ was ∙ ap (λ (o : Option ℕ). Some o) other.1
    ]

-- Where all headers that stood there before are positions, so is the one at such a position.
pub below_before : (body ranks : List ℕ) (header i n : ℕ) (before later : List (Option ℕ)) (d : Option ℕ) →
    AreApart body → i < length body → AreNoted (take i body) ranks header before later →
    get_or body i 0 < length later → AreBelow n before → IfSome (get_or later (get_or body i 0) d) (λ other. other < n)
below_before body ranks header i n before later d apart inside noted within below =
    if_some (get_or later (get_or body i 0) d)
    (noted_before body ranks header i before later (get_or later (get_or body i 0) d) apart inside noted
    (slice_get-get_or later (get_or body i 0) d within))
  where
    if_some : (found : Option ℕ) → slice_get before (get_or body i 0) ≡ Some found → IfSome found (λ other. other < n)
    if_some None h = tt
    if_some (Some other) h = below (get_or body i 0) other h

-- One position more of the body is noted.
pub noted_more : (body ranks : List ℕ) (header i one : ℕ) (before later : List (Option ℕ)) (d : Option ℕ) →
    AreApart body → i < length body → AreNoted (take i body) ranks header before later →
    get_or body i 0 < length later → IsLesser ranks header (get_or later (get_or body i 0) d) (Some one) →
    AreNoted (take (i + 1) body) ranks header before (set later (get_or body i 0) (Some one))
noted_more body ranks header i one before later d apart inside noted within lesser =
    subst (λ (xs : List ℕ). AreNoted xs ranks header before (set later at (Some one))) (sym (take_more body i 0 inside)) (record {
      count = length-set later at (Some one) ∙ noted.count;
      each = each;
    })
  where
    at : ℕ
    at = get_or body i 0

    other : (x : ℕ) → (x ≡ at → ⊥) → slice_get (set later at (Some one)) x ≡ slice_get later x
    other x differ = slice_get-set_other later at x (Some one) (λ e. differ (sym e))

    old : slice_get before at ≡ Some (get_or later at d)
    old = noted_before body ranks header i before later (get_or later at d) apart inside noted (slice_get-get_or later at d within)

    new : (found : Option ℕ) → slice_get (set later at (Some one)) at ≡ Some found →
        (was : Option ℕ) × (slice_get before at ≡ Some was) × IsNoted (take i body ++ at ∷ []) ranks header at was found
    new found h = (
      get_or later at d,
      old,
      inl (
        Contains-push (take i body) at,
        subst (IsLesser ranks header (get_or later at d))
            (same_Some (Some one) found (sym (slice_get-set_same later at (Some one) within) ∙ h)) lesser,
      ),
    )

    still : (x : ℕ) (was found : Option ℕ) → (x ≡ at → ⊥) → IsNoted (take i body) ranks header x was found →
        IsNoted (take i body ++ at ∷ []) ranks header x was found
    still x was found differ (inl held) = inl (Contains-append_left (take i body) (at ∷ []) x held.0, held.1)
    still x was found differ (inr outside) = inr (
      λ c. elim (Contains-push_cases (take i body) at x c) as (λ _. ⊥) [
        | inl p ↦ outside.0 p
        | inr e ↦ differ (sym e)
      ],
      outside.1,
    )

    each : (x : ℕ) (found : Option ℕ) → slice_get (set later at (Some one)) x ≡ Some found →
        (was : Option ℕ) × (slice_get before x ≡ Some was) × IsNoted (take i body ++ at ∷ []) ranks header x was found
    each x found h = elim (cases_eq x at)
        as (λ _. (was : Option ℕ) × (slice_get before x ≡ Some was) × IsNoted (take i body ++ at ∷ []) ranks header x was found) [
          | inl e ↦ subst (λ (y : ℕ). (was : Option ℕ) × (slice_get before y ≡ Some was) × IsNoted (take i body ++ at ∷ []) ranks header y was found) (sym e)
              (new found (subst (λ (y : ℕ). slice_get (set later at (Some one)) y ≡ Some found) e h))
          | inr differ ↦ let (was, there, is) = noted.each x found (sym (other x differ) ∙ h) in
              (was, there, still x was found differ is)
        ]

pub noted_start : (ranks : List ℕ) (header : ℕ) (before : List (Option ℕ)) → AreNoted [] ranks header before before
noted_start ranks header before = record {
  count = refl;
  each = λ position found h. (found, h, inr ((λ c. in_none position c), refl));
}

pub noted_end : (body ranks : List ℕ) (header i : ℕ) (before later : List (Option ℕ)) → length body ≤ i →
    AreNoted (take i body) ranks header before later → AreNoted body ranks header before later
noted_end body ranks header i before later end noted =
    subst (λ (xs : List ℕ). AreNoted xs ranks header before later) (take_all i body end) noted

-- Without a back arc a header holds nothing.
pub inner_skip : (reverse sources : List (List ℕ)) (ranks : List ℕ) (done : ℕ) (innermost : List (Option ℕ)) (from : List ℕ) →
    slice_get sources done ≡ Some from → (0 < length from → ⊥) → AreInner reverse sources ranks done innermost →
    AreInner reverse sources ranks (done + 1) innermost
inner_skip reverse sources ranks done innermost from there empty are = record {
  count = are.count;
  each = λ position found h. widen position found (are.each position found h);
}
  where
    nothing : (position : ℕ) → Holds reverse sources done position → ⊥
    nothing position holds =
        let among : Contains from holds.one = subst (λ (xs : List ℕ). Contains xs holds.one) (same_Some holds.from from (sym holds.there ∙ there)) holds.some in
        empty (omega (arith, among.1))

    old : (position header : ℕ) → header < done + 1 → Holds reverse sources header position → header < done
    old position header less holds = elim (cases_eq header done) as (λ _. header < done) [
      | inl e ↦ absurd (nothing position (subst (λ (at : ℕ). Holds reverse sources at position) e holds))
      | inr differ ↦ omega (arith, less, differ)
    ]

    widen : (position : ℕ) (found : Option ℕ) → IsInner reverse sources ranks done position found →
        IsInner reverse sources ranks (done + 1) position found
    widen position None none = λ header less holds. none header (old position header less holds) holds
    widen position (Some header) is = (
      omega (arith, is.0),
      is.1,
      λ other less holds. is.2 other (old position other less holds) holds,
    )

-- A header has noted itself at the positions of its body.
pub inner_more : (reverse sources : List (List ℕ)) (ranks : List ℕ) (done : ℕ) (before later : List (Option ℕ))
    (from body : List ℕ) (one : ℕ) → slice_get sources done ≡ Some from → Contains from one →
    IsBody reverse from done body → AreInner reverse sources ranks done before →
    AreNoted body ranks done before later → AreInner reverse sources ranks (done + 1) later
inner_more reverse sources ranks done before later from body one there some is_body are noted = record {
  count = noted.count ∙ are.count;
  each = λ position found h. let (old, was, is) = noted.each position found h in
      merge position old found (are.each position old was) is;
}
  where
    holds : (position : ℕ) → Contains body position → Holds reverse sources done position
    holds position h = record { from = from; there = there; one = one; some = some; held = is_body.sound position h }

    listed_of : (position : ℕ) → (position ≡ done) ⊎ IsMet reverse from done position → Contains body position
    listed_of position (inl e) = subst (Contains body) (sym e) is_body.head
    listed_of position (inr met) = is_body.whole position met

    listed : (position : ℕ) → Holds reverse sources done position → Contains body position
    listed position h =
        listed_of position (subst (λ (xs : List ℕ). (position ≡ done) ⊎ IsMet reverse xs done position) (same_Some h.from from (sym h.there ∙ there)) h.held)

    apart : (position : ℕ) → (Contains body position → ⊥) → (header : ℕ) → header < done + 1 → Holds reverse sources header position → header < done
    apart position free header less h = elim (cases_eq header done) as (λ _. header < done) [
      | inl e ↦ absurd (free (listed position (subst (λ (at : ℕ). Holds reverse sources at position) e h)))
      | inr differ ↦ omega (arith, less, differ)
    ]

    widen : (position : ℕ) (found : Option ℕ) → (Contains body position → ⊥) → IsInner reverse sources ranks done position found →
        IsInner reverse sources ranks (done + 1) position found
    widen position None free none = λ header less h. none header (apart position free header less h) h
    widen position (Some header) free is = (
      omega (arith, is.0),
      is.1,
      λ other less h. is.2 other (apart position free other less h) h,
    )

    by_done : (position floor : ℕ) → floor ≤ number_of ranks done →
        ((other : ℕ) → other < done → Holds reverse sources other position → floor ≤ number_of ranks other) →
        (other : ℕ) → other < done + 1 → Holds reverse sources other position → floor ≤ number_of ranks other
    by_done position floor least old other less h = elim (cases_eq other done) as (λ _. floor ≤ number_of ranks other) [
      | inl e ↦ omega (arith, least, ap (λ (at : ℕ). number_of ranks at) e)
      | inr differ ↦ old other (omega (arith, less, differ)) h
    ]

    choose : (position : ℕ) (old found : Option ℕ) → Contains body position → IsInner reverse sources ranks done position old →
        IsLesser ranks done old found → IsInner reverse sources ranks (done + 1) position found
    choose position None found h none lesser =
        subst (IsInner reverse sources ranks (done + 1) position) (sym lesser) (
          omega arith,
          holds position h,
          by_done position (number_of ranks done) (omega arith) (λ other less k. absurd (none other less k)),
        )
    choose position (Some other) found h is (inl kept) =
        subst (IsInner reverse sources ranks (done + 1) position) (sym kept.0)
        (omega (arith, is.0), is.1, by_done position (number_of ranks other) kept.1 is.2)
    choose position (Some other) found h is (inr new) =
        subst (IsInner reverse sources ranks (done + 1) position) (sym new.0) (
          omega arith,
          holds position h,
          by_done position (number_of ranks done) (omega arith)
              (λ third less k. omega (arith, new.1, is.2 third less k)),
        )

    merge : (position : ℕ) (old found : Option ℕ) → IsInner reverse sources ranks done position old →
        IsNoted body ranks done position old found → IsInner reverse sources ranks (done + 1) position found
    merge position old found is (inl held) = choose position old found held.0 is held.1
    merge position old found is (inr outside) =
        widen position found outside.0 (subst (IsInner reverse sources ranks done position) outside.1 is)

pub inner_start : (reverse sources : List (List ℕ)) (ranks : List ℕ) (new : List (Option ℕ)) →
    new ≡ replicate (length reverse) None → AreInner reverse sources ranks 0 new
inner_start reverse sources ranks new e = record {
  count = ap length e ∙ length-replicate (length reverse) None;
  each = λ position found h.
      subst (IsInner reverse sources ranks 0 position)
      (slice_get-replicate (length reverse) position None found
      (subst (λ (xs : List (Option ℕ)). slice_get xs position ≡ Some found) e h))
      (λ header less holds. omega (arith, less));
}

pub below_all : (reverse sources : List (List ℕ)) (ranks : List ℕ) (done n : ℕ) (innermost : List (Option ℕ)) →
    AreInner reverse sources ranks done innermost → done ≤ n → AreBelow n innermost
below_all reverse sources ranks done n innermost are less position header h =
    let is : IsInner reverse sources ranks done position (Some header) = are.each position (Some header) h in
    omega (arith, is.0, less)
