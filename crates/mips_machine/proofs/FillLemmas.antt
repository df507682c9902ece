-- Fills put bytes into regions that can be written, and leave a start.
use Rattle.std.proofs.Common.{◌≡◌, ℕ, ◌+◌, ◌-◌, ◌<◌, ◌≤◌, nat_le, Bool, true, false, cond, zero, suc, List, [], ◌∷◌, ◌++◌, length, take, drop, get_or, set, All, refl, sym, ap, ◌∙◌, arith, length-append, length-drop}
use Rattle.std.proofs.lemmas.Bool.{and_parts, false≢true}
use Rattle.std.proofs.lemmas.Bool.Decides.{nat_tests}
use Rattle.std.proofs.lemmas.List.{length-take}
use Rattle.std.proofs.lemmas.List.Elements.{All-append, All-take, All-drop, All-head, All-tail}
use Rattle.std.proofs.lemmas.List.Folds.{list_any_none}
use Rattle.std.proofs.lemmas.List.Sums.{fold-append}
use Rattle.std.specs.List.{list_any}
use Rattle.mips_decode.specs.State.{Region, covers, is_writable}
use Rattle.mips_decode.specs.Start.{AreRegionsAtStart, IsRegionAtStart}
use Rattle.mips_machine.specs.declared.fill.Fill.{Fill}
use Rattle.mips_machine.specs.Image.{IsFillable, filled_region, spliced, takes_fill, with_fill, with_fills}
use Rattle.mips_machine.specs.Index.{span_of}
use Rattle.mips_machine.specs.Places.{StandsAt}
use Rattle.mips_machine.proofs.SpanLemmas.{spanning}
use Rattle.mips_machine.proofs.PlaceLemmas.{StandsAt-behind}

abbrev AreBytes : List ℕ → Type 0
AreBytes bytes = All (λ byte. byte < 256) bytes

-- Where no region takes a fill that fits, it has no bytes, and changes nothing.
pub without_bytes : (fill : Fill) (regions : List Region) → IsFillable regions fill →
    All (λ region. takes_fill fill region ≡ false) regions → AreBytes fill.bytes
without_bytes fill regions fits fails = λ k d inside.
    absurd (false≢true (sym (list_any_none (takes_fill fill) regions fails) ∙ fits (omega arith)))

pub with_fill-fails : (fill : Fill) (regions : List Region) → All (λ region. takes_fill fill region ≡ false) regions →
    with_fill fill regions ≡ regions
with_fill-fails fill [] fails = refl
with_fill-fails fill (region ∷ regions) fails =
    rw (All-head (λ r. takes_fill fill r ≡ false) region regions fails)
    (ap (λ (rest : List Region). region ∷ rest)
    (with_fill-fails fill regions (All-tail (λ r. takes_fill fill r ≡ false) region regions fails)))

-- A fill changes the region at its place.
pub with_fill-StandsAt : (fill : Fill) (regions : List Region) (place : ℕ) (other : Region) →
    StandsAt (takes_fill fill) regions place →
    with_fill fill regions ≡ set regions place (filled_region fill (get_or regions place other))
with_fill-StandsAt fill [] place other at = absurd (omega (arith, at.inside))
with_fill-StandsAt fill (region ∷ regions) zero other at = rw (at.passes other) refl
with_fill-StandsAt fill (region ∷ regions) (suc place) other at =
    rw (at.before 0 other (omega arith))
    (ap (λ (rest : List Region). region ∷ rest)
    (with_fill-StandsAt fill regions place other
    (StandsAt-behind (takes_fill fill) region regions place at)))

-- A region at a start takes what the given one takes.
takes-at_start : (fill : Fill) (given region : Region) → IsRegionAtStart given region →
    takes_fill fill region ≡ takes_fill fill given
takes-at_start fill given region start = rw (start.start, start.flags, start.size) refl

any-at_start : (fill : Fill) (given regions : List Region) → AreRegionsAtStart given regions →
    list_any (takes_fill fill) regions ≡ list_any (takes_fill fill) given
any-at_start fill [] [] start = refl
any-at_start fill [] (region ∷ regions) start = absurd start
any-at_start fill (given ∷ more) [] start = absurd start
any-at_start fill (given ∷ more) (region ∷ regions) start =
    rw (takes-at_start fill given region start.0, any-at_start fill more regions start.1) refl

-- A fill that fits the given regions fits those at the start.
pub IsFillable-at_start : (fill : Fill) (given regions : List Region) → AreRegionsAtStart given regions →
    IsFillable given fill → IsFillable regions fill
IsFillable-at_start fill given regions start fits = λ some. any-at_start fill given regions start ∙ fits some

-- The bytes of an access lie in the region that covers it.
covers-inside : (address size : ℕ) (region : Region) → covers address size region ≡ true →
    (region.start ≤ address) × (address + size ≤ region.start + length region.bytes)
covers-inside address size region covered =
    let parts = and_parts (nat_le region.start address) (nat_le (address + size) (region.start + length region.bytes)) covered in
    let low = parts.0 in let high = parts.1 in
    (grind (arith, nat_tests), grind (arith, nat_tests))

length-spliced : (at : ℕ) (new bytes : List ℕ) → at + length new ≤ length bytes →
    length (spliced at new bytes) ≡ length bytes
length-spliced at new bytes inside = simp (length-append, length-take, length-drop) (omega arith)

-- A region that takes a fill can be written and covers it.
pub takes-parts : (fill : Fill) (region : Region) → takes_fill fill region ≡ true →
    (is_writable region ≡ true) × (covers fill.address (length fill.bytes) region ≡ true)
takes-parts fill region takes = and_parts (is_writable region) (covers fill.address (length fill.bytes) region) takes

-- A fill that lies in a region leaves its addresses.
pub span_of-filled : (fill : Fill) (region : Region) → takes_fill fill region ≡ true →
    span_of (filled_region fill region) ≡ span_of region
span_of-filled fill region takes =
    let inside = covers-inside fill.address (length fill.bytes) region (takes-parts fill region takes).1 in
    ap (λ (size : ℕ). spanning region.start size)
    (length-spliced (fill.address - region.start) fill.bytes region.bytes (omega (arith, inside.0, inside.1)))

AreBytes-spliced : (at : ℕ) (new bytes : List ℕ) → AreBytes new → AreBytes bytes → AreBytes (spliced at new bytes)
AreBytes-spliced at new bytes small old =
    All-append (λ byte. byte < 256) (take at bytes ++ new) (drop (at + length new) bytes)
    (All-append (λ byte. byte < 256) (take at bytes) new (All-take (λ byte. byte < 256) at bytes old) small)
    (All-drop (λ byte. byte < 256) (at + length new) bytes old)

-- A region that takes a fill stays a region at the start.
filled-at_start : (fill : Fill) (given region : Region) → IsRegionAtStart given region →
    takes_fill fill region ≡ true → AreBytes fill.bytes → IsRegionAtStart given (filled_region fill region)
filled-at_start fill given region start takes small =
    let parts = takes-parts fill region takes in
    let inside = covers-inside fill.address (length fill.bytes) region parts.1 in
    let at : (fill.address - region.start) + length fill.bytes ≤ length region.bytes = omega (arith, inside.0, inside.1) in
    let writable : is_writable given ≡ true = rw (← start.flags) parts.0 in
    record {
      start = start.start;
      flags = start.flags;
      size = length-spliced (fill.address - region.start) fill.bytes region.bytes at ∙ start.size;
      bytes = AreBytes-spliced (fill.address - region.start) fill.bytes region.bytes small start.bytes;
      kept = λ fixed. cc;
    }

fill_by_head : (b : Bool) (fill : Fill) (given region : Region) (more regions filled : List Region) →
    takes_fill fill region ≡ b → IsRegionAtStart given region → AreRegionsAtStart more regions →
    AreRegionsAtStart more filled → AreBytes fill.bytes →
    AreRegionsAtStart (given ∷ more) (cond b (filled_region fill region ∷ regions) (region ∷ filled))
fill_by_head true fill given region more regions filled same start rest later small =
    (filled-at_start fill given region start same small, rest)
fill_by_head false fill given region more regions filled same start rest later small = (start, later)

-- A fill leaves a start.
pub with_fill-at_start : (fill : Fill) (given regions : List Region) → AreRegionsAtStart given regions →
    AreBytes fill.bytes → AreRegionsAtStart given (with_fill fill regions)
with_fill-at_start fill [] [] start small = tt
with_fill-at_start fill [] (region ∷ regions) start small = absurd start
with_fill-at_start fill (given ∷ more) [] start small = absurd start
with_fill-at_start fill (given ∷ more) (region ∷ regions) start small =
    fill_by_head (takes_fill fill region) fill given region more regions (with_fill fill regions) refl start.0 start.1
    (with_fill-at_start fill more regions start.1 small) small

-- The fills so far are put in, and leave a start.
pub record FillsSoFar (given memory : List Region) (fills : List Fill) : Type 0 where
  pub value : memory ≡ with_fills fills given
  pub start : AreRegionsAtStart given memory

pub FillsSoFar-more : (given memory after : List Region) (fills : List Fill) (fill : Fill) → FillsSoFar given memory fills →
    AreBytes fill.bytes → after ≡ with_fill fill memory → FillsSoFar given after (fills ++ fill ∷ [])
FillsSoFar-more given memory after fills fill so_far small same = record {
  value = same ∙ ap (λ (regions : List Region). with_fill fill regions) so_far.value
      ∙ sym (fold-append (λ (regions : List Region) (next : Fill). with_fill next regions) given fills (fill ∷ []));
  start = rw same (with_fill-at_start fill given memory so_far.start small);
}
