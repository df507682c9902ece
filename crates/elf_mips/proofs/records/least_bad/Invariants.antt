-- The records of the sections so far.
use Rattle.std.proofs.Common.{◌≡◌, ◌*◌, ◌≤◌, length}
use Rattle.elf_mips.specs.Records.{record_places_to}
use Rattle.elf_mips.specs.Faults.{HasLeast}
use Rattle.elf_mips.proofs.records.least_bad.Given as goal

abbrev pub invariant-loop-number : goal.invariant-loop-number
invariant-loop-number l =
    (l.seen.count ≡ length (record_places_to l.file l.number))
    × (l.seen.count ≤ 268435456 * l.number) × HasLeast l.file l.number l.seen.least
