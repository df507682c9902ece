-- Decoding gives back what was encoded.
use Rattle.std.proofs.Common.{ap, ◌∙◌, refl}
use Rattle.mips_decode.specs.Decoded.{decoded}
use Rattle.mips_decode.specs.Table.{word_of}
use Rattle.mips_decode.proofs.Candidates.{decoded-row}
use Rattle.mips_decode.proofs.encoder.encode.Goals as goal

pub returns-clause-back : goal.returns-clause-back
returns-clause-back c =
    ap decoded c.word_of.ensures ∙ decoded-row (word_of c.args.instr.now) c.args.instr.now (c.requires, refl)
