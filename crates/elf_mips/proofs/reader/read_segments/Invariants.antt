-- The program headers so far are good, and their segments are those read.
use Rattle.elf_mips.proofs.Reading.{IsRead}
use Rattle.elf_mips.proofs.reader.read_segments.Given as goal

abbrev pub invariant-loop-number : goal.invariant-loop-number
invariant-loop-number l = IsRead l.file l.number l.loader.segments
