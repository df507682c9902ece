-- The records of the section so far are good.
use Rattle.std.proofs.Common.{◌≡◌, ℕ, ◌+◌, ◌*◌, ◌<◌, true}
use Rattle.elf_mips.specs.Records.{is_good_record}
use Rattle.elf_mips.proofs.records.first_bad.Given as goal

abbrev pub invariant-loop-number : goal.invariant-loop-number
invariant-loop-number l =
    (k : ℕ) → k < l.number → is_good_record l.file (l.first + k) (l.offset + 16 * k) ≡ true
