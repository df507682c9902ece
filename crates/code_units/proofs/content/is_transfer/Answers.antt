use Rattle.std.proofs.Common.{[], ◌∙◌}
use Rattle.mips_decode.specs.declared.step.Regs.{Regs}
use Rattle.net_model.proofs.Contents.{is_some-decided}
use Rattle.code_units.proofs.content.is_transfer.Goals as goal

none : Regs
none = record { general = []; hi = 0; lo = 0 }

pub returns : goal.returns
returns c = c.is_transfer.ensures 0 none ∙ is_some-decided c.args.instr.now 0 none
