-- The last start at an address or below it is that of the one region that can cover the address.
use Rattle.std.proofs.Common.{◌≡◌, ℕ, ◌+◌, ◌-◌, ◌<◌, ◌≤◌, ◌&&◌, Bool, true, false, List, [], ◌∷◌, ◌++◌, length, map, take, get_or, All, AllPairs, Contains, sym, ◌∙◌, ap, subst, zero-add, arith, inl, inr, ◌⊎◌, nat_le, not, refl, ◌%◌, ◌==◌, cond, Option, Some, None}
use Rattle.std.specs.Prelude.{option_map}
use Rattle.std.specs.List.{enumerate_from}
use Rattle.std.specs.List.Sorted.{IsPermutation, IsPartitionPoint, IsNonDecreasingBy}
use Rattle.std.proofs.lemmas.Bool.Decides.{nat_tests}
use Rattle.std.proofs.lemmas.Bool.{cases_order, and_parts, leb-true, leb-false, cases_lt, false_from_ne_true, both_ways}
use Rattle.std.proofs.lemmas.List.{get_or_default, length-map, length-take-le, map-append, take_more}
use Rattle.std.proofs.lemmas.List.{get_or-map as get_or-map_below}
use Rattle.std.proofs.Math.ListN.{get_or-map}
use Rattle.std.proofs.lemmas.List.Elements.{All-map, All-contains}
use Rattle.std.proofs.Props.{props}
use Rattle.std.proofs.lemmas.List.FromFn.{length-enumerate_from, get_or-enumerate_from}
use Rattle.std.proofs.lemmas.List.Sorted.{All-permutation, Contains-permutation}
use Rattle.std.proofs.Math.Logic.{∥∥₁_elim}
use Rattle.cache_config.specs.Limits.{Covers}
use Rattle.mips_decode.specs.State.{Region, code_at, covers, holds_code, is_executable, is_writable, word_at}
use Rattle.elf_mips.specs.declared.segment.Start.{Start}
use Rattle.mips_machine.specs.Index.{IsIndexed, LieApart, Span, span_of, spans_of, starts_of}
use Rattle.mips_machine.specs.Places.{IsOnlyPlace, StandsAt}
use Rattle.mips_machine.proofs.PlaceLemmas.{find-StandsAt, find-fails}

-- The span holds the address.
abbrev Holds : Span → ℕ → Type 0
Holds span address = Covers span.start span.size address

-- Two spans that hold one address are one.
apart_cases : (spans : List Span) (i j address : ℕ) (d : Span) → AllPairs LieApart spans →
    i < length spans → j < length spans → Holds (get_or spans i d) address →
    Holds (get_or spans j d) address → (i ≡ j) ⊎ ((i < j) ⊎ (j < i)) → i ≡ j
apart_cases spans i j address d apart hi hj ci cj (inl e) = e
apart_cases spans i j address d apart hi hj ci cj (inr (inl h)) = absurd (apart i j d h hj address ci cj)
apart_cases spans i j address d apart hi hj ci cj (inr (inr h)) = absurd (apart j i d h hi address cj ci)

-- The start is that of the span of its number.
record IsStartOf (spans : List Span) (start : Start) : Type 0 where
  there : start.number < length spans
  begins : (d : Span) → start.address ≡ (get_or spans start.number d).start

starts_named : (spans : List Span) → All (IsStartOf spans) (starts_of spans)
starts_named spans =
    All-map (IsStartOf spans) (λ p. record { address = p.1.start; number = p.0 }) (enumerate_from 0 spans) (λ k d h.
    let below : k < length spans = omega (arith, length-enumerate_from 0 spans) in
    let is : get_or (enumerate_from 0 spans) k d ≡ (k, get_or spans k d.1) =
    cc (zero-add k, get_or-enumerate_from 0 spans k d below) in
    subst (λ (p : ℕ × Span). IsStartOf spans (record { address = p.1.start; number = p.0 })) (sym is)
    (record {
      there = below;
      begins = λ e. ap (λ s. s.start) (get_or_default spans k d.1 e below);
    }))

-- One more span has one more start.
abbrev start_at : Span → ℕ → Start
start_at span number = record { address = span.start; number = number }

starts_more : (n : ℕ) (spans : List Span) (span : Span) (k : ℕ) → k ≡ n + length spans →
    map (λ (p : ℕ × Span). start_at p.1 p.0) (enumerate_from n (spans ++ span ∷ []))
    ≡ map (λ (p : ℕ × Span). start_at p.1 p.0) (enumerate_from n spans) ++ start_at span k ∷ []
starts_more n [] span k e = ap (λ (number : ℕ). start_at span number ∷ []) (omega (arith, e))
starts_more n (first ∷ spans) span k e =
    ap (λ (rest : List Start). start_at first n ∷ rest) (starts_more (n + 1) spans span k (omega (arith, e)))

pub starts_of-more : (regions : List Region) (place : ℕ) (region : Region) → place < length regions →
    region ≡ get_or regions place region →
    starts_of (spans_of (take (place + 1) regions))
    ≡ starts_of (spans_of (take place regions)) ++ record { address = region.start; number = place } ∷ []
starts_of-more regions place region inside here =
    let before : List Span = spans_of (take place regions) in
    let long : place ≡ 0 + length before =
    omega (arith, length-map (take place regions) span_of, length-take-le place regions (omega arith)) in
    rw (take_more regions place region inside, ← here, map-append span_of (take place regions) (region ∷ []))
    (starts_more 0 before (span_of region) place long)

-- The start of each span is there.
start_there : (spans : List Span) (k : ℕ) (d : Span) → k < length spans →
    Contains (starts_of spans) (record { address = (get_or spans k d).start; number = k })
start_there spans k d h =
    let f : ℕ × Span → Start = λ p. record { address = p.1.start; number = p.0 } in
    let listed : List (ℕ × Span) = enumerate_from 0 spans in
    let below : k < length listed = omega (arith, length-enumerate_from 0 spans) in
    let is : get_or listed k (0, d) ≡ (k, get_or spans k d) =
    cc (zero-add k, get_or-enumerate_from 0 spans k (0, d) h) in
    let start : Start = record { address = (get_or spans k d).start; number = k } in
    let at : get_or (map f listed) k start ≡ f (get_or listed k (0, d)) = get_or-map_below f listed k (0, d) start below in
    (k, omega (arith, length-map listed f), at ∙ ap f is)

-- A start of the index is that of the span of its number.
named : (spans : List Span) (starts : List Start) (start : Start) → IsPermutation (starts_of spans) starts →
    Contains starts start → IsStartOf spans start
named spans starts start once there =
    All-contains (IsStartOf spans) starts start
    (All-permutation (IsStartOf spans) (starts_of spans) starts once (starts_named spans)) there

-- The span of the last start at an address or below it is the only one that can hold the address.
only_last : (spans : List Span) (starts : List Start) (start : Start) (address : ℕ) →
    IsPermutation (starts_of spans) starts → All (λ s. 0 < s.size) spans → AllPairs LieApart spans →
    Contains starts start → start.address ≤ address →
    All (λ other. other.address ≤ address → other.address ≤ start.address) starts →
    (j : ℕ) (d : Span) → j < length spans → Holds (get_or spans j d) address → j ≡ start.number
only_last spans starts start address once some apart there below last j d h held =
    let is : IsStartOf spans start = named spans starts start once there in
    let begins : start.address ≡ (get_or spans start.number d).start = is.begins d in
    let size : 0 < (get_or spans start.number d).size = some start.number d is.there in
    let up : (get_or spans j d).start ≤ start.address =
    All-contains (λ other. other.address ≤ address → other.address ≤ start.address) starts
    (record { address = (get_or spans j d).start; number = j }) last
    (Contains-permutation (starts_of spans) starts (record { address = (get_or spans j d).start; number = j }) once
    (start_there spans j d h))
    held.0 in
    let end : address < (get_or spans j d).start + (get_or spans j d).size = held.1 in
    apart_cases spans j start.number start.address d apart h is.there
    (up, omega arith) (omega arith, omega arith) (cases_order j start.number)

-- No span holds an address below all starts.
none_first : (spans : List Span) (starts : List Start) (address : ℕ) → IsPermutation (starts_of spans) starts →
    All (λ other. address < other.address) starts →
    (j : ℕ) (d : Span) → j < length spans → Holds (get_or spans j d) address → ⊥
none_first spans starts address once above j d h held =
    let less : address < (get_or spans j d).start =
    All-contains (λ other. address < other.address) starts
    (record { address = (get_or spans j d).start; number = j }) above
    (Contains-permutation (starts_of spans) starts (record { address = (get_or spans j d).start; number = j }) once
    (start_there spans j d h)) in
    let below : (get_or spans j d).start ≤ address = held.0 in
    omega arith

-- A region that covers an address has a span that holds it.
held_from_covers : (region : Region) (address : ℕ) → covers address 1 region ≡ true → Holds (span_of region) address
held_from_covers region address h =
    let parts = and_parts (nat_le region.start address) (nat_le (address + 1) (region.start + length region.bytes)) h in
    let below : region.start ≤ address = leb-true _ _ parts.0 in
    let above : address + 1 ≤ region.start + length region.bytes = leb-true _ _ parts.1 in
    (below, omega arith)

held_at : (regions : List Region) (j address : ℕ) (d : Region) → covers address 1 (get_or regions j d) ≡ true →
    Holds (get_or (spans_of regions) j (span_of d)) address
held_at regions j address d h =
    subst (λ (span : Span). Holds span address) (sym (get_or-map span_of regions j d))
    (held_from_covers (get_or regions j d) address h)

-- The region of the last start at an address or below it is the only one that can cover the address.
pub only_place : (regions : List Region) (starts : List Start) (start : Start) (address : ℕ) →
    IsIndexed (spans_of regions) starts → Contains starts start → start.address ≤ address →
    All (λ other. other.address ≤ address → other.address ≤ start.address) starts →
    IsOnlyPlace address regions start.number
only_place regions starts start address indexed there below last = record {
  inside = ∥∥₁_elim indexed.once (hlevel props) (λ once.
      let is : IsStartOf (spans_of regions) start = named (spans_of regions) starts start once there in
      omega (arith, is.there, length-map regions span_of));
  only = λ j d h covered.
      ∥∥₁_elim indexed.once (hlevel props) (λ once.
      only_last (spans_of regions) starts start address once indexed.some indexed.apart there below last j (span_of d)
      (omega (arith, h, length-map regions span_of)) (held_at regions j address d covered));
}

-- No region covers an address below all starts.
pub no_place : (regions : List Region) (starts : List Start) (address : ℕ) →
    IsIndexed (spans_of regions) starts → All (λ other. address < other.address) starts →
    All (λ region. covers address 1 region ≡ false) regions
no_place regions starts address indexed above = λ j d h.
    false_from_ne_true (covers address 1 (get_or regions j d)) (λ covered.
    ∥∥₁_elim indexed.once (hlevel props) (λ once.
    none_first (spans_of regions) starts address once above j (span_of d)
    (omega (arith, h, length-map regions span_of)) (held_at regions j address d covered)))

-- A test that only regions that cover an address pass.
abbrev pub IsOfCovering : ℕ → (Region → Bool) → Type 0
IsOfCovering address test = (region : Region) → test region ≡ true → covers address 1 region ≡ true

-- Such a test is passed at the only place that can cover the address, or nowhere.
pub stands_only : (test : Region → Bool) (regions : List Region) (address place : ℕ) (region : Region) →
    IsOfCovering address test → IsOnlyPlace address regions place → region ≡ get_or regions place region →
    test region ≡ true → StandsAt test regions place
stands_only test regions address place region of_covering only here passes = record {
  inside = only.inside;
  passes = λ other. ap test (get_or_default regions place other region only.inside ∙ sym here) ∙ passes;
  before = λ earlier other less. false_from_ne_true (test (get_or regions earlier other)) (λ passed.
      let inside : earlier < length regions = omega (arith, less, only.inside) in
      let same : earlier ≡ place = only.only earlier other inside (of_covering (get_or regions earlier other) passed) in
      omega arith);
}

pub fails_only : (test : Region → Bool) (regions : List Region) (address place : ℕ) (region : Region) →
    IsOfCovering address test → IsOnlyPlace address regions place → region ≡ get_or regions place region →
    test region ≡ false → All (λ r. test r ≡ false) regions
fails_only test regions address place region of_covering only here fails = λ j d h.
    false_from_ne_true (test (get_or regions j d)) (λ passed.
    let same : j ≡ place = only.only j d h (of_covering (get_or regions j d) passed) in
    let at : get_or regions j d ≡ region =
    ap (λ k. get_or regions k d) same ∙ get_or_default regions place d region only.inside ∙ sym here in
    both_ways (test region) fails (ap test (sym at) ∙ passed))

pub fails_none : (test : Region → Bool) (regions : List Region) (address : ℕ) → IsOfCovering address test →
    All (λ r. covers address 1 r ≡ false) regions → All (λ r. test r ≡ false) regions
fails_none test regions address of_covering none = λ j d h.
    false_from_ne_true (test (get_or regions j d)) (λ passed.
    both_ways (covers address 1 (get_or regions j d)) (none j d h) (of_covering (get_or regions j d) passed))

-- A region that covers some bytes covers the first one.
covers_first : (address size : ℕ) (region : Region) → 0 < size → covers address size region ≡ true →
    covers address 1 region ≡ true
covers_first address size region some h =
    let parts = and_parts (nat_le region.start address) (nat_le (address + size) (region.start + length region.bytes)) h in
    let above : address + size ≤ region.start + length region.bytes = leb-true _ _ parts.1 in
    let first : nat_le (address + 1) (region.start + length region.bytes) ≡ true = grind (arith, nat_tests) in
    rw (parts.0, first) refl

-- The tests of an access of some bytes and of an executable word.
pub of_covering-access : (address size : ℕ) → 0 < size → IsOfCovering address (covers address size)
of_covering-access address size some = λ region covered. covers_first address size region some covered

pub of_covering-code : (address : ℕ) → IsOfCovering address (holds_code address)
of_covering-code address = λ region held.
    let front = and_parts (covers address 4 region && is_executable region) (not (is_writable region)) held in
    let first = and_parts (covers address 4 region) (is_executable region) front.0 in
    covers_first address 4 region (omega arith) first.0

-- The last of the starts before a place that splits them at an address.
pub front_none : (starts : List Start) (address front : ℕ) →
    IsPartitionPoint (λ start. nat_le start.address address ≡ true)
    (λ start. nat_le start.address address ≡ false) starts front →
    front ≡ 0 → All (λ other. address < other.address) starts
front_none starts address front split e k d h =
    leb-false (get_or starts k d).address address (split.1 k d (omega arith) h)

pub front_below : (starts : List Start) (address front : ℕ) (d : Start) →
    IsPartitionPoint (λ start. nat_le start.address address ≡ true)
    (λ start. nat_le start.address address ≡ false) starts front →
    0 < front → (get_or starts (front - 1) d).address ≤ address
front_below starts address front d split h =
    leb-true (get_or starts (front - 1) d).address address
    (split.0 (front - 1) d (omega arith) (omega arith))

pub front_last : (starts : List Start) (address front : ℕ) (e : Start) →
    IsPartitionPoint (λ start. nat_le start.address address ≡ true)
    (λ start. nat_le start.address address ≡ false) starts front →
    IsNonDecreasingBy (λ start. start.address) starts → 0 < front → front ≤ length starts →
    All (λ other. other.address ≤ address → other.address ≤ (get_or starts (front - 1) e).address)
    starts
front_last starts address front e split rising some fits k d h below =
    let same : get_or starts (front - 1) d ≡ get_or starts (front - 1) e =
    get_or_default starts (front - 1) d e (omega arith) in
    subst (λ (last : Start). (get_or starts k d).address ≤ last.address) same
    (rising k (front - 1) d (before (cases_lt k front)) (omega arith))
  where
    before : (k < front) ⊎ (front ≤ k) → k ≤ front - 1
    before (inl l) = omega arith
    before (inr l) =
        absurd (let over : address < (get_or starts k d).address =
        leb-false (get_or starts k d).address address (split.1 k d l h) in omega arith)

-- The executable word at an address, where a region holds it, and where none does.
no_word : (even : Bool) → cond {A = Option ℕ} even None None ≡ None
no_word true = refl
no_word false = refl

pub code_at-none : (regions : List Region) (address : ℕ) → All (λ r. holds_code address r ≡ false) regions →
    code_at regions address ≡ None
code_at-none regions address fails =
    ap (λ (found : Option Region). cond (address % 4 == 0) (option_map (λ (r : Region). word_at (address - r.start) r.bytes) found) None)
    (find-fails (holds_code address) regions fails)
    ∙ no_word (address % 4 == 0)

pub code_at-found : (regions : List Region) (address place : ℕ) (region : Region) → address % 4 ≡ 0 →
    StandsAt (holds_code address) regions place → region ≡ get_or regions place region →
    code_at regions address ≡ Some (word_at (address - region.start) region.bytes)
code_at-found regions address place region aligned at here =
    let even : (address % 4 == 0) ≡ true = grind (arith, nat_tests) in
    rw (even, find-StandsAt (holds_code address) regions place region at, ← here) refl
