-- The second place is the lesser one.
use Rattle.std.proofs.Common.{arith, subst}
use Rattle.elf_mips.specs.Rules.{IsLeastOf}
use Rattle.elf_mips.proofs.LeastRecord.{least_right}
use Rattle.elf_mips.proofs.records.lesser.Goals as goal

pub returns-else-p-q : goal.returns-else-p-q
returns-else-p-q c xs ys a b =
    least_right c.in-Some-Some.p c.in-Some-Some.q xs ys
    (subst (IsLeastOf xs) c.in-Some-Some.is-0 a) (subst (IsLeastOf ys) c.in-Some-Some.is-1 b)
    (omega (arith, c.if-p-q.false))
