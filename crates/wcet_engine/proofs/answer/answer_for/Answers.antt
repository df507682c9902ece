-- The answer for what was read is the answer for the files that the words name.
use Rattle.std.proofs.Common.{Option, IfSome, subst}
use Rattle.wcet_engine.specs.declared.contents.Contents.{Contents}
use Rattle.wcet_engine.specs.Given.{AreRead, given_form, read_by}
use Rattle.wcet_engine.proofs.ReadLemmas.{answer-long, answer-read}
use Rattle.wcet_engine.proofs.answer.answer_for.Goals as goal

pub returns-in-Some-clause-answer : goal.returns-in-Some-clause-answer
returns-in-Some-clause-answer g c =
    let files = read_by (g.F.Shelf.told c.args.files.now) (given_form c.args.form.now) in
    answer-read files c.in-Some.contents c.answer_to.result
    (subst (λ (found : Option Contents). IfSome files (AreRead found)) c.in-Some.is c.in_ok-contents.ensures.found) c.answer_to.ensures.answer

pub returns-in-None-clause-answer : goal.returns-in-None-clause-answer
returns-in-None-clause-answer g c =
    let files = read_by (g.F.Shelf.told c.args.files.now) (given_form c.args.form.now) in
    rw c.at.ensures (answer-long files
    (subst (λ (found : Option Contents). IfSome files (AreRead found)) c.in-None.is c.in_ok-contents.ensures.found))
