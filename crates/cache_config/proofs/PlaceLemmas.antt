-- Spans that don't meet are apart.
use Rattle.std.proofs.Common.{◌≡◌, ◌+◌, ◌<◌, ◌≤◌, Bool, true, false, ◌||◌, nat_lt, List, [], ◌∷◌, map, get_or, drop, Option, Some, None, refl, ap, arith, unwrap_or, is_some, sym, subst, max}
use Rattle.std.proofs.lemmas.Bool.{and_parts, or_parts}
use Rattle.std.proofs.lemmas.Bool.Decides.{nat_tests}
use Rattle.std.proofs.lemmas.List.Elements.{All-nil, All-cons}
use Rattle.std.specs.Bool.{OnTrue}
use Rattle.std.specs.List.{All, list_any}
use Rattle.toml.specs.Data.{Data}
use Rattle.cache_config.specs.declared.profile.Region.{Region}
use Rattle.cache_config.specs.declared.spans.Span.{Span}
use Rattle.cache_config.specs.Limits.{AreApart, memory_end}
use Rattle.cache_config.specs.Profiles.{span}
use Rattle.cache_config.specs.Spans.{SharesAddress, is_misplaced, meets, meets_some, span_of}

-- The regions that don't meet a span lie apart from it.
abbrev pub IsApartFrom : Region → Region → Type 0
IsApartFrom r other = AreApart other.start other.size r.start r.size

pub meets-apart : (s t : Span) → meets s t ≡ false → AreApart t.start t.size s.start s.size
meets-apart s t e address here there = grind (arith, nat_tests)

earlier_head : (r : Region) (s : Span) (d : Option Span) → Some (span r) ≡ d → meets_some s d ≡ false → meets s (span r) ≡ false
earlier_head r s None e h = absurd (let f : Option Span → Bool = is_some in cc)
earlier_head r s (Some t) e h =
    let same : span r ≡ t = ap (λ o. unwrap_or o t) e in
    subst (λ x. meets s x ≡ false) (sym same) h

-- The regions of elements that a span doesn't meet lie apart from the region with that span.
pub earlier-apart : (r : Region) (regions : List Region) (ds : List Data) → map (λ q. Some (span q)) regions ≡ map span_of ds →
    list_any (λ d. meets_some (span r) (span_of d)) ds ≡ false → All (IsApartFrom r) regions
earlier-apart r [] ds e h = All-nil (IsApartFrom r)
earlier-apart r (q ∷ qs) [] e h = absurd cc
earlier-apart r (q ∷ qs) (d ∷ ds) e h =
    let (here, more) = or_parts (meets_some (span r) (span_of d)) (list_any (λ x. meets_some (span r) (span_of x)) ds) h in
    let head : Some (span q) ≡ span_of d = ap (λ xs. get_or xs 0 (span_of d)) e in
    let rest = ap (drop 1) e in
    All-cons (IsApartFrom r) q qs (meets-apart (span r) (span q) (earlier_head q (span r) (span_of d) head here)) (earlier-apart r qs ds rest more)

-- What the joint rules say of a region.
pub record IsPlaced (stack : Span) (regions : List Region) (r : Region) : Type 0 where
  pub off_stack : AreApart stack.start stack.size r.start r.size
  pub apart : All (IsApartFrom r) regions

pub placed : (stack : Span) (regions : List Region) (ds : List Data) (r : Region) → map (λ q. Some (span q)) regions ≡ map span_of ds →
    is_misplaced (Some stack) ds (span r) ≡ false → IsPlaced stack regions r
placed stack regions ds r e h =
    let (low, others) = or_parts (nat_lt memory_end (r.start + r.size)) (meets_some (span r) (Some stack) || list_any (λ d. meets_some (span r) (span_of d)) ds) h in
    let (off, earlier) = or_parts (meets_some (span r) (Some stack)) (list_any (λ d. meets_some (span r) (span_of d)) ds) others in
    record { off_stack = meets-apart (span r) stack off; apart = earlier-apart r regions ds e earlier }

-- Two spans that meet share an address: the greater of their starts.
pub meets-shared : (s t : Span) → meets s t ≡ true → 1 ≤ s.size → 1 ≤ t.size → SharesAddress s t
meets-shared s t e some other =
    let (first, second) = and_parts (nat_lt s.start (t.start + t.size)) (nat_lt t.start (s.start + s.size)) e in
    record {
      address = max s.start t.start;
      here = (omega arith, grind (arith, nat_tests));
      there = (omega arith, grind (arith, nat_tests));
    }

-- The same of the second test, where the first one held.
pub second-shared : (s t : Span) (b : Bool) → s.start < t.start + t.size → b ≡ nat_lt t.start (s.start + s.size) →
    OnTrue b (1 ≤ s.size → 1 ≤ t.size → SharesAddress s t)
second-shared s t false low e = tt
second-shared s t true low e =
    let first : nat_lt s.start (t.start + t.size) ≡ true = grind (arith, nat_tests) in
    meets-shared s t (rw (first, ← e) refl)
