-- The words from the first one that isn't before the address.
use Rattle.domain_laws.specs.Maps.{Rises}
use Rattle.cell_memory.proofs.WordLists.{Word, rises_at}
use Rattle.std.proofs.Common.{sym, ap, subst, arith}
use Rattle.cell_memory.proofs.words.words_from.Goals as goal

pub returns-then-address-words-clause-rises : goal.returns-then-address-words-clause-rises
returns-then-address-words-clause-rises c =
    subst (λ ws. Rises c.args.address ws) (sym c.split_at.ensures.back)
    (rises_at c.args.words.now c.loop-place.place c.args.address c.index-words-place.result c.requires (omega arith) c.index-words-place.is
    (omega (arith, c.if-address-words.true, ap (λ (word : Word). word.0) c.index-words-place.is)))
