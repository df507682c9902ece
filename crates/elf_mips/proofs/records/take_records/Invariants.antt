-- The records of the section so far are added.
use Rattle.std.proofs.Common.{◌≡◌, ◌+◌, ◌*◌, ◌++◌, map}
use Rattle.std.specs.List.{range_with_len}
use Rattle.elf_mips.specs.Records.{mark_at}
use Rattle.elf_mips.proofs.records.take_records.Given as goal

abbrev pub invariant-loop-number : goal.invariant-loop-number
invariant-loop-number l =
    l.all ≡ l.fn.marks ++ map (mark_at l.file) (map (λ k. l.offset + 16 * k) (range_with_len 0 l.number))
