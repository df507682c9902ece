-- A word in front, by std's search for a prefix.
use Rattle.std.proofs.lemmas.Bool.Decides.{Decides-eqb}
use Rattle.std.proofs.lemmas.Slice.Eq.{strip_prefix_is}
use Rattle.cert_check.proofs.Prefixes.{word_takes, word_again}
use Rattle.cert_check.proofs.words.after.Goals as goal

pub returns-clause-takes : goal.returns-clause-takes
returns-clause-takes c =
    word_takes _ _ _ (strip_prefix_is Decides-eqb c.args.bytes.now c.args.word.now c.strip_prefix.result c.strip_prefix.ensures.cases)

pub returns-clause-again : goal.returns-clause-again
returns-clause-again c =
    word_again _ _ _ (strip_prefix_is Decides-eqb c.args.bytes.now c.args.word.now c.strip_prefix.result c.strip_prefix.ensures.cases)
