-- The last start at an address or below it is that of the one segment that can cover the address.
use Rattle.std.proofs.Common.{◌≡◌, ℕ, ◌+◌, ◌-◌, ◌<◌, ◌≤◌, true, false, List, length, map, Some, None, get_or, All, AllPairs, Contains, sym, ◌∙◌, ap, subst, zero-add, arith, inl, inr, ◌⊎◌, nat_le}
use Rattle.std.specs.List.{enumerate_from}
use Rattle.std.specs.List.Sorted.{IsPermutation, IsPartitionPoint, IsNonDecreasingBy}
use Rattle.std.proofs.lemmas.Bool.{cases_order, and_parts, leb-true, leb-false, cases_lt, cond-false, false_from_ne_true, both_ways}
use Rattle.std.proofs.lemmas.List.{get_or_default, get_or-map, length-map}
use Rattle.std.proofs.lemmas.List.Elements.{All-map, All-contains}
use Rattle.std.proofs.Props.{props}
use Rattle.std.proofs.lemmas.List.FromFn.{length-enumerate_from, get_or-enumerate_from}
use Rattle.std.proofs.lemmas.List.Sorted.{All-permutation, Contains-permutation}
use Rattle.std.proofs.Math.Logic.{∥∥₁_elim}
use Rattle.elf_mips.specs.Segments.{holds, Finds, Covers, AreApart, IsFilled, IsStartOf, starts_of}
use Rattle.elf_mips.specs.declared.segment.Segment.{Segment}
use Rattle.elf_mips.specs.declared.segment.Start.{Start}
use Rattle.elf_mips.proofs.Finds.{find_none, find_only}

-- Two segments that cover one address are one.
apart_cases : (segments : List Segment) (i j address : ℕ) (d : Segment) →
    AllPairs AreApart segments →
    i < length segments → j < length segments → Covers (get_or segments i d) address →
    Covers (get_or segments j d) address → (i ≡ j) ⊎ ((i < j) ⊎ (j < i)) → i ≡ j
apart_cases segments i j address d apart hi hj ci cj (inl e) = e
apart_cases segments i j address d apart hi hj ci cj (inr (inl h)) =
    absurd (apart i j d h hj address ci cj)
apart_cases segments i j address d apart hi hj ci cj (inr (inr h)) =
    absurd (apart j i d h hi address cj ci)

pub apart_at : (segments : List Segment) (i j address : ℕ) (d : Segment) →
    AllPairs AreApart segments →
    i < length segments → j < length segments → Covers (get_or segments i d) address →
    Covers (get_or segments j d) address → i ≡ j
apart_at segments i j address d apart hi hj ci cj =
    apart_cases segments i j address d apart hi hj ci cj (cases_order i j)

-- A segment that holds the byte at an address covers it.
pub covers_from_holds : (s : Segment) (address : ℕ) → holds 1 address s ≡ true → Covers s address
covers_from_holds s address h =
    let parts = and_parts
    (nat_le s.address address) (nat_le (address + 1) (s.address + s.size)) h in
    let below : s.address ≤ address = leb-true _ _ parts.0 in
    let above : address + 1 ≤ s.address + s.size = leb-true _ _ parts.1 in
    (below, omega arith)

-- Each start is that of the segment of its number.
starts_named : (segments : List Segment) → All (IsStartOf segments) (starts_of segments)
starts_named segments =
    All-map (IsStartOf segments) (λ p. record { address = p.1.address; number = p.0 })
    (enumerate_from 0 segments) (λ k d h.
    let below : k < length segments = omega (arith, length-enumerate_from 0 segments) in
    let is : get_or (enumerate_from 0 segments) k d ≡ (k, get_or segments k d.1) =
    cc (zero-add k, get_or-enumerate_from 0 segments k d below) in
    subst (λ (p : ℕ × Segment). IsStartOf segments (record { address = p.1.address; number = p.0 }))
    (sym is)
    (record {
      there = below;
      begins = λ e. ap (λ s. s.address) (get_or_default segments k d.1 e below);
    }))

-- The start of each segment is there.
start_there : (segments : List Segment) (k : ℕ) (d : Segment) → k < length segments →
    Contains (starts_of segments) (record { address = (get_or segments k d).address; number = k })
start_there segments k d h =
    let f : ℕ × Segment → Start = λ p. record { address = p.1.address; number = p.0 } in
    let listed : List (ℕ × Segment) = enumerate_from 0 segments in
    let below : k < length listed = omega (arith, length-enumerate_from 0 segments) in
    let is : get_or listed k (0, d) ≡ (k, get_or segments k d) =
    cc (zero-add k, get_or-enumerate_from 0 segments k (0, d) h) in
    let start : Start = record { address = (get_or segments k d).address; number = k } in
    let at : get_or (map f listed) k start ≡ f (get_or listed k (0, d)) =
    get_or-map f listed k (0, d) start below in
    (k, omega (arith, length-map listed f), at ∙ ap f is)

-- A start of the index is that of the segment of its number.
pub named : (segments : List Segment) (starts : List Start) (start : Start) →
    IsPermutation (starts_of segments) starts → Contains starts start → IsStartOf segments start
named segments starts start once there =
    All-contains (IsStartOf segments) starts start
    (All-permutation (IsStartOf segments) (starts_of segments) starts once (starts_named segments))
    there

-- The segment of the last start at an address or below it is the only one that can cover it.
pub only_last : (segments : List Segment) (starts : List Start) (start : Start) (address : ℕ) →
    IsPermutation (starts_of segments) starts → All IsFilled segments → AllPairs AreApart segments →
    Contains starts start → start.address ≤ address →
    All (λ other. other.address ≤ address → other.address ≤ start.address) starts →
    (j : ℕ) (d : Segment) → j < length segments → holds 1 address (get_or segments j d) ≡ true →
    j ≡ start.number
only_last segments starts start address once filled apart there below last j d h held =
    let is : IsStartOf segments start = named segments starts start once there in
    let begins : start.address ≡ (get_or segments start.number d).address = is.begins d in
    let some : 0 < (get_or segments start.number d).size = (filled start.number d is.there).some in
    let covered : Covers (get_or segments j d) address =
    covers_from_holds (get_or segments j d) address held in
    let up : (get_or segments j d).address ≤ start.address =
    All-contains (λ other. other.address ≤ address → other.address ≤ start.address) starts
    (record { address = (get_or segments j d).address; number = j }) last
    (Contains-permutation (starts_of segments) starts
    (record { address = (get_or segments j d).address; number = j }) once
    (start_there segments j d h))
    covered.0 in
    apart_at segments j start.number start.address d apart h is.there
    (up, omega arith) (omega arith, omega arith)

-- No segment covers an address below all starts.
pub none_first : (segments : List Segment) (starts : List Start) (address : ℕ) →
    IsPermutation (starts_of segments) starts → All (λ other. address < other.address) starts →
    (j : ℕ) (d : Segment) → j < length segments → holds 1 address (get_or segments j d) ≡ true → ⊥
none_first segments starts address once above j d h held =
    let covered : Covers (get_or segments j d) address =
    covers_from_holds (get_or segments j d) address held in
    let less : address < (get_or segments j d).address =
    All-contains (λ other. address < other.address) starts
    (record { address = (get_or segments j d).address; number = j }) above
    (Contains-permutation (starts_of segments) starts
    (record { address = (get_or segments j d).address; number = j }) once
    (start_there segments j d h)) in
    let below : (get_or segments j d).address ≤ address = covered.0 in
    omega arith

-- The number of a start is that of a segment.
pub number_there : (segments : List Segment) (starts : List Start) (start : Start) →
    ∥ IsPermutation (starts_of segments) starts ∥₁ → Contains starts start →
    start.number < length segments
number_there segments starts start once there =
    ∥∥₁_elim once (hlevel props) (λ listed. (named segments starts start listed there).there)

-- What a look-up finds where there is no start, and where there is one.
pub finds_none : (segments : List Segment) (starts : List Start) (address : ℕ) →
    ∥ IsPermutation (starts_of segments) starts ∥₁ → All (λ other. address < other.address) starts →
    Finds address segments None
finds_none segments starts address once above test holding =
    find_none test segments (λ j d h e.
    ∥∥₁_elim once (hlevel props) (λ listed.
    none_first segments starts address listed above j d h (holding (get_or segments j d) e)))

pub finds_last : (segments : List Segment) (starts : List Start) (start : Start) (address : ℕ)
    (s : Segment) → ∥ IsPermutation (starts_of segments) starts ∥₁ → All IsFilled segments →
    AllPairs AreApart segments →
    Contains starts start → start.address ≤ address →
    All (λ other. other.address ≤ address → other.address ≤ start.address) starts →
    s ≡ get_or segments start.number s → Finds address segments (Some s)
finds_last segments starts start address s once filled apart there below last is test holding =
    find_only test segments start.number s (number_there segments starts start once there)
    (sym is) (λ j d l e.
    ∥∥₁_elim once (hlevel props) (λ listed.
    only_last segments starts start address listed filled apart there below last j d l
    (holding (get_or segments j d) e)))

-- The same where that segment doesn't hold the byte.
pub finds_not : (segments : List Segment) (address : ℕ) (s : Segment) → holds 1 address s ≡ false →
    Finds address segments (Some s) → Finds address segments None
finds_not segments address s not_held finds test holding =
    finds test holding ∙ cond-false (test s) (Some s) None
    (false_from_ne_true (test s) (λ e. both_ways (holds 1 address s) not_held (holding s e)))

-- The last of the starts before a place that splits them at an address.
pub front_none : (starts : List Start) (address front : ℕ) →
    IsPartitionPoint (λ start. nat_le start.address address ≡ true)
    (λ start. nat_le start.address address ≡ false) starts front →
    front ≡ 0 → All (λ other. address < other.address) starts
front_none starts address front split e k d h =
    leb-false (get_or starts k d).address address (split.1 k d (omega arith) h)

pub front_below : (starts : List Start) (address front : ℕ) (d : Start) →
    IsPartitionPoint (λ start. nat_le start.address address ≡ true)
    (λ start. nat_le start.address address ≡ false) starts front →
    0 < front → (get_or starts (front - 1) d).address ≤ address
front_below starts address front d split h =
    leb-true (get_or starts (front - 1) d).address address
    (split.0 (front - 1) d (omega arith) (omega arith))

pub front_last : (starts : List Start) (address front : ℕ) (e : Start) →
    IsPartitionPoint (λ start. nat_le start.address address ≡ true)
    (λ start. nat_le start.address address ≡ false) starts front →
    IsNonDecreasingBy (λ start. start.address) starts → 0 < front → front ≤ length starts →
    All (λ other. other.address ≤ address → other.address ≤ (get_or starts (front - 1) e).address)
    starts
front_last starts address front e split rising some fits k d h below =
    let same : get_or starts (front - 1) d ≡ get_or starts (front - 1) e =
    get_or_default starts (front - 1) d e (omega arith) in
    subst (λ (last : Start). (get_or starts k d).address ≤ last.address) same
    (rising k (front - 1) d (before (cases_lt k front)) (omega arith))
  where
    before : (k < front) ⊎ (front ≤ k) → k ≤ front - 1
    before (inl l) = omega arith
    before (inr l) =
        absurd (let over : address < (get_or starts k d).address =
        leb-false (get_or starts k d).address address (split.1 k d l h) in omega arith)
