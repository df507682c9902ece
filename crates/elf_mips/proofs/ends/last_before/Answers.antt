-- No key in the range is above the one that the range gives last.
use Rattle.std.proofs.Common.{arith, sym}
use Rattle.std.specs.Cmp.{nat_cmp_is}
use Rattle.std.specs.declared.cmp.Ordering.TheVariants.{Less}
use Rattle.std.proofs.lemmas.Grind.{common_steps}
use Rattle.elf_mips.proofs.ends.last_before.Goals as goal

pub returns-clause-last : goal.returns-clause-last
returns-clause-last c a below there =
    let h = (c.range-before.ensures.in_range tt).4 _ _ c.in_ok-address.ensures.steps a
    (tt, sym (nat_cmp_is a c.args.end Less below)) there in
    grind (arith, common_steps, h)
