-- Which segments share an address with a new one, by a map from where they begin to where they end.
use Rattle.std.proofs.Common.{◌≡◌, ℕ, ◌+◌, ◌<◌, ◌≤◌, true, false, List, [], ◌∷◌, ◌++◌, length, Option, Some, None, get_or, All, AllPairs, IsSome, refl, sym, ◌∙◌, ap, subst, arith, inl, inr, ◌⊎◌, nat_lt}
use Rattle.std.specs.List.{list_any, Any}
use Rattle.std.specs.BTreeMap.{is_at}
use Rattle.std.specs.Cmp.{nat_cmp_is}
use Rattle.std.specs.Ordering.{nat_cmp, is_eq}
use Rattle.std.specs.declared.cmp.Ordering.TheVariants.{Less, Greater}
use Rattle.std.proofs.lemmas.Bool.{and_parts, and_from, ltb-true, lt-ltb, le-ltb, cases_lt, eqb-true, eq-eqb, false_from_ne_true, both_ways, or_left, cases_eq, cases_order}
use Rattle.std.proofs.lemmas.List.{get_or_default}
use Rattle.std.proofs.lemmas.List.Elements.{All-push}
use Rattle.std.proofs.lemmas.List.Quantifiers.{all_pairs_push, Any-push}
use Rattle.std.proofs.lemmas.List.Folds.{Any-from_list_any, list_any-from_Any, list_any_none, list_any-append}
use Rattle.elf_mips.specs.Segments.{Covers, AreApart, AreBegun, HasEnd, IsFilled, shares, begins_at}
use Rattle.elf_mips.specs.declared.segment.Segment.{Segment}
use Rattle.elf_mips.proofs.Starts.{apart_at}

-- What a segment shares, as numbers.
shares_parts : (address end : ℕ) (s : Segment) → shares address end s ≡ true →
    (s.address < end) × (address < s.address + s.size)
shares_parts address end s e =
    let parts : (nat_lt s.address end ≡ true) × (nat_lt address (s.address + s.size) ≡ true) =
    and_parts (nat_lt s.address end) (nat_lt address (s.address + s.size)) e in
    (ltb-true _ _ parts.0, ltb-true _ _ parts.1)

shares_from : (address end : ℕ) (s : Segment) → s.address < end → address < s.address + s.size →
    shares address end s ≡ true
shares_from address end s h k = and_from _ _ (lt-ltb _ _ h) (lt-ltb _ _ k)

-- The last segment that begins before the end reaches past the address.
overlap_found : (segments : List Segment) (end_of : ℕ → Option ℕ) (last last_end address end : ℕ) →
    All (HasEnd end_of) segments → list_any (begins_at last) segments ≡ true →
    end_of last ≡ Some last_end → last < end → address < last_end →
    list_any (shares address end) segments ≡ true
overlap_found segments end_of last last_end address end ended begun is before past =
    let owner : Any (λ s. begins_at last s ≡ true) segments =
    Any-from_list_any (begins_at last) segments begun in
    let s : Segment = owner.1 in
    let at : s.address ≡ last = eqb-true s.address last owner.4 in
    let has : HasEnd end_of s = subst (HasEnd end_of) owner.3 (ended owner.0 s owner.2) in
    let same : s.address + s.size ≡ last_end = cc (ap end_of at) in
    list_any-from_Any (shares address end) segments
    (owner.0, s, owner.2, owner.3, shares_from address end s (omega arith) (omega arith))

-- The last segment that begins before the end doesn't.
overlap_none : (segments : List Segment) (end_of : ℕ → Option ℕ) (last last_end address end : ℕ) →
    All IsFilled segments → AllPairs AreApart segments → All (HasEnd end_of) segments →
    list_any (begins_at last) segments ≡ true → end_of last ≡ Some last_end → last_end ≤ address →
    ((a : ℕ) → a < end → IsSome (end_of a) → a ≤ last) →
    list_any (shares address end) segments ≡ false
overlap_none segments end_of last last_end address end filled apart ended begun is past up =
    list_any_none (shares address end) segments (λ j d h. false_from_ne_true _ (λ e.
    let owner : Any (λ s. begins_at last s ≡ true) segments =
    Any-from_list_any (begins_at last) segments begun in
    let s : Segment = owner.1 in
    let t : Segment = get_or segments j d in
    let parts : (t.address < end) × (address < t.address + t.size) = shares_parts address end t e in
    let at : s.address ≡ last = eqb-true s.address last owner.4 in
    let has : HasEnd end_of s = subst (HasEnd end_of) owner.3 (ended owner.0 s owner.2) in
    let some : 0 < s.size = (subst IsFilled owner.3 (filled owner.0 s owner.2)).some in
    let same : s.address + s.size ≡ last_end = cc (ap end_of at) in
    let under : end_of t.address ≡ Some (t.address + t.size) = ended j d h in
    let below : t.address ≤ last =
    up t.address parts.0 (subst (λ o. IsSome o) (sym under) refl) in
    let there : get_or segments owner.0 d ≡ s =
    get_or_default segments owner.0 d s owner.2 ∙ owner.3 in
    let one : j ≡ owner.0 =
    apart_at segments j owner.0 last d apart h owner.2 (below, omega arith)
    (subst (λ (u : Segment). Covers u last) (sym there) (omega arith, omega arith)) in
    let is_s : t ≡ s = ap (λ k. get_or segments k d) one ∙ there in
    let ends : t.address + t.size ≡ s.address + s.size = ap (λ u. u.address + u.size) is_s in
    omega arith))

-- Both in one.
overlap_cases : (segments : List Segment) (end_of : ℕ → Option ℕ) (last last_end address end : ℕ) →
    All IsFilled segments → AllPairs AreApart segments → All (HasEnd end_of) segments →
    list_any (begins_at last) segments ≡ true → end_of last ≡ Some last_end → last < end →
    ((a : ℕ) → a < end → IsSome (end_of a) → a ≤ last) →
    (address < last_end) ⊎ (last_end ≤ address) →
    nat_lt address last_end ≡ list_any (shares address end) segments
overlap_cases segments end_of last last_end address end filled apart ended begun is before up
    (inl h) =
    lt-ltb address last_end h
    ∙ sym (overlap_found segments end_of last last_end address end ended begun is before h)
overlap_cases segments end_of last last_end address end filled apart ended begun is before up
    (inr h) =
    le-ltb address last_end h
    ∙ sym (overlap_none segments end_of last last_end address end filled apart ended begun is h up)

pub overlap_is : (segments : List Segment) (end_of : ℕ → Option ℕ) (last last_end address end : ℕ) →
    All IsFilled segments → AllPairs AreApart segments → All (HasEnd end_of) segments →
    AreBegun end_of segments →
    end_of last ≡ Some last_end → last < end →
    ((a : ℕ) → a < end → IsSome (end_of a) → a ≤ last) →
    nat_lt address last_end ≡ list_any (shares address end) segments
overlap_is segments end_of last last_end address end filled apart ended begun is before up =
    overlap_cases segments end_of last last_end address end filled apart ended
    (begun last (subst (λ o. IsSome o) (sym is) refl)) is before up (cases_lt address last_end)

-- No segment begins before the end.
pub overlap_first : (segments : List Segment) (end_of : ℕ → Option ℕ) (address end : ℕ) →
    All (HasEnd end_of) segments → ((a : ℕ) → a < end → end_of a ≡ None) →
    list_any (shares address end) segments ≡ false
overlap_first segments end_of address end ended none =
    list_any_none (shares address end) segments (λ j d h. false_from_ne_true _ (λ e.
    let t : Segment = get_or segments j d in
    let parts : (t.address < end) × (address < t.address + t.size) = shares_parts address end t e in
    let under : end_of t.address ≡ Some (t.address + t.size) = ended j d h in
    let gone : end_of t.address ≡ None = none t.address parts.0 in
    cc))

-- A new segment that shares no address with the others is apart from each of them.
unshared : (segments : List Segment) (s : Segment) →
    list_any (shares s.address (s.address + s.size)) segments ≡ false → (k : ℕ) (d : Segment) →
    k < length segments → AreApart (get_or segments k d) s
unshared segments s none k d h a c1 c2 =
    both_ways (list_any (shares s.address (s.address + s.size)) segments) none
    (list_any-from_Any (shares s.address (s.address + s.size)) segments (
      k,
      get_or segments k d,
      h,
      get_or_default segments k (get_or segments k d) d h,
      shares_from s.address (s.address + s.size) (get_or segments k d) (omega arith) (omega arith),
    ))

pub apart_push : (segments : List Segment) (s : Segment) → AllPairs AreApart segments →
    list_any (shares s.address (s.address + s.size)) segments ≡ false →
    AllPairs AreApart (segments ++ s ∷ [])
apart_push segments s apart none =
    all_pairs_push AreApart segments s apart (unshared segments s none)

-- Two addresses are told apart by the map's order.
key_cases : (k q : ℕ) → (k ≡ q → ⊥) → (k ≡ q) ⊎ ((k < q) ⊎ (q < k)) → is_at (nat_cmp k) q ≡ false
key_cases k q differ (inl e) = absurd (differ e)
key_cases k q differ (inr (inl h)) = ap is_eq (sym (nat_cmp_is k q Less h))
key_cases k q differ (inr (inr h)) = ap is_eq (sym (nat_cmp_is k q Greater h))

apart_key : (k q : ℕ) → (k ≡ q → ⊥) → is_at (nat_cmp k) q ≡ false
apart_key k q differ = key_cases k q differ (cases_order k q)

-- The ends after a new segment.
pub ended_push : (segments : List Segment) (s : Segment) (old new : ℕ → Option ℕ) →
    All IsFilled segments → IsFilled s → All (HasEnd old) segments →
    list_any (shares s.address (s.address + s.size)) segments ≡ false →
    new s.address ≡ Some (s.address + s.size) →
    ((q : ℕ) → is_at (nat_cmp s.address) q ≡ false → new q ≡ old q) →
    All (HasEnd new) (segments ++ s ∷ [])
ended_push segments s old new filled some ended none at other =
    All-push (HasEnd new) segments s (λ k d h.
    let t : Segment = get_or segments k d in
    let t_some : 0 < t.size = (filled k d h).some in
    let s_some : 0 < s.size = some.some in
    let differ : s.address ≡ t.address → ⊥ = λ e.
    unshared segments s none k d h t.address (omega arith, omega arith)
    (omega arith, omega arith) in
    other t.address (apart_key s.address t.address differ) ∙ ended k d h)
    at

-- The addresses in the map are those where segments begin.
begun_cases : (segments : List Segment) (s : Segment) (old new : ℕ → Option ℕ) (a : ℕ) →
    AreBegun old segments →
    ((q : ℕ) → is_at (nat_cmp s.address) q ≡ false → new q ≡ old q) → IsSome (new a) →
    (s.address ≡ a) ⊎ (s.address ≡ a → ⊥) → list_any (begins_at a) (segments ++ s ∷ []) ≡ true
begun_cases segments s old new a begun other is (inl e) =
    list_any-from_Any (begins_at a) (segments ++ s ∷ [])
    (Any-push (λ t. begins_at a t ≡ true) segments s (eq-eqb s.address a e))
begun_cases segments s old new a begun other is (inr differ) =
    list_any-append (begins_at a) segments (s ∷ [])
    ∙ or_left (list_any (begins_at a) segments) (list_any (begins_at a) (s ∷ []))
    (begun a (subst (λ o. IsSome o) (other a (apart_key s.address a differ)) is))

pub begun_push : (segments : List Segment) (s : Segment) (old new : ℕ → Option ℕ) →
    AreBegun old segments →
    ((q : ℕ) → is_at (nat_cmp s.address) q ≡ false → new q ≡ old q) →
    (a : ℕ) → IsSome (new a) → list_any (begins_at a) (segments ++ s ∷ []) ≡ true
begun_push segments s old new begun other a is =
    begun_cases segments s old new a begun other is (cases_eq s.address a)
