-- The index of regions by their addresses.
use Rattle.std.specs.Prelude.{ℕ, ◌<◌, List, length, map, All, AllPairs}
use Rattle.std.specs.List.{enumerate_from}
use Rattle.std.specs.List.Sorted.{IsPermutation, IsNonDecreasingBy}
use Rattle.cache_config.specs.Limits.{AreApart}
use Rattle.mips_decode.specs.State.{Region}
use Rattle.elf_mips.specs.declared.segment.Start.{Start}

-- A span of addresses: the first one, and how many there are.
pub record Span : Type 0 where
  pub start : ℕ
  pub size : ℕ

-- The addresses of each region.
abbrev pub span_of : Region → Span
span_of region = record { start = region.start; size = length region.bytes }

abbrev pub spans_of : List Region → List Span
spans_of regions = map span_of regions

-- Where each span starts, with its number, from 0.
abbrev pub starts_of : List Span → List Start
starts_of spans = map (λ p. record { address = p.1.start; number = p.0 }) (enumerate_from 0 spans)

-- No address lies in both spans.
abbrev pub LieApart : Span → Span → Type 0
LieApart s t = AreApart s.start s.size t.start t.size

-- The spans lie apart, none is empty, and the index has the start of each once, by rising addresses.
pub record IsIndexed (spans : List Span) (starts : List Start) : Type 0 where
  pub apart : AllPairs LieApart spans
  pub some : All (λ s. 0 < s.size) spans
  pub once : ∥ IsPermutation (starts_of spans) starts ∥₁
  pub rising : IsNonDecreasingBy (λ start. start.address) starts
