-- The starts so far are those of the regions so far.
use Rattle.std.proofs.Common.{◌≡◌, take}
use Rattle.mips_machine.specs.Index.{spans_of, starts_of}
use Rattle.mips_machine.proofs.index.list_starts.Given as goal

abbrev pub invariant-loop-number : goal.invariant-loop-number
invariant-loop-number l = l.starts.items ≡ starts_of (spans_of (take l.number l.regions))
