-- The marks so far are the records of the sections so far.
use Rattle.std.proofs.Common.{◌≡◌, map}
use Rattle.elf_mips.specs.Records.{mark_at, record_places_to}
use Rattle.elf_mips.proofs.records.read_marks.Given as goal

abbrev pub invariant-loop-number : goal.invariant-loop-number
invariant-loop-number l = l.marks ≡ map (mark_at l.file) (record_places_to l.file l.number)
