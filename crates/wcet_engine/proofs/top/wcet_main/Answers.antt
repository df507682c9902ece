-- What was told of the answer was written.
use Rattle.std.proofs.Common.{◌≡◌, Some, sym, ap, ◌∙◌}
use Rattle.std.specs.Prelude.{option_map}
use Rattle.wcet_engine.specs.Given.{given_form, read_by}
use Rattle.wcet_engine.specs.Words.{form_of, words_of}
use Rattle.wcet_engine.proofs.Told.{told_wrote}
use Rattle.wcet_engine.proofs.top.wcet_main.Goals as goal

pub returns-clause-wrote : goal.returns-clause-wrote
returns-clause-wrote g c =
    let form : form_of (words_of c.args.words.now) ≡ Some (given_form c.in-Some.form) =
    sym c.form_of.ensures ∙ ap (option_map given_form) c.in-Some.is in
    rw form (told_wrote c.in-Some.form.command (read_by (g.F.Shelf.told c.args.files.now) (given_form c.in-Some.form)) c.in-Ok.answer c.tell.result _ _
    c.in-Ok.ensures.answer c.tell.ensures.told)
