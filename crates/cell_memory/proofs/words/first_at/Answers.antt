-- A word at the address, or none before those behind it.
use Rattle.std.proofs.Common.{◌∙◌, arith}
use Rattle.cell_memory.proofs.WordLists.{first_value}
use Rattle.cell_memory.proofs.words.first_at.Goals as goal

pub returns-in-len1-up : goal.returns-in-len1-up
returns-in-len1-up c =
    c.value_if.ensures ∙ first_value c.args.words.now c.args.address c.word-item.result c.requires (omega arith) c.word-item.is
