-- What the reader keeps from one program header to the next.
use Rattle.std.proofs.Common.{◌≡◌, ℕ, ◌+◌, ◌<◌, true, map, List}
use Rattle.elf_mips.specs.Headers.{is_good, loaded, segment_of}
use Rattle.elf_mips.specs.declared.segment.Segment.{Segment}
use Rattle.elf_mips.proofs.Numbered.{good_more}

-- The first n program headers are good, and these are their segments.
pub record IsRead (file : List ℕ) (n : ℕ) (segments : List Segment) : Type 0 where
  pub good : (k : ℕ) → k < n → is_good file k ≡ true
  pub read : segments ≡ map (segment_of file) (loaded file n)

-- One more program header is good, and its segment is read.
pub read_more : (file : List ℕ) (n : ℕ) (segments more : List Segment) → IsRead file n segments →
    is_good file n ≡ true → more ≡ map (segment_of file) (loaded file (n + 1)) →
    IsRead file (n + 1) more
read_more file n segments more before last read = record {
  good = good_more (is_good file) n before.good last;
  read = read;
}
