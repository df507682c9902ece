use Rattle.code_units.proofs.LowWords.{word_low}
use Rattle.code_units.proofs.content.instr_at.Goals as goal

pub returns-clause-low : goal.returns-clause-low
returns-clause-low c =
    word_low c.args.image.now.segments c.args.address c.in_ok-word.word c.decode.result
    c.args.image.now.low c.in_ok-word.ensures.word
