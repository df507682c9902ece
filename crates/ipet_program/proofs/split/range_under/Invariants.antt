-- The range under the cuts before this one.
use Rattle.std.proofs.Common.{take}
use Rattle.ipet_program.specs.Certificates.{IsRange}
use Rattle.ipet_program.proofs.split.range_under.Given as goal

abbrev pub invariant-loop-cut : goal.invariant-loop-cut
invariant-loop-cut l = IsRange l.program (take l.cut-index l.cuts) l.column l.range
