-- The tallies of the caches, one after the other.
use Rattle.std.proofs.Common.{List, [], ◌∷◌, ◌++◌, take, ap, sym, ◌∙◌, arith}
use Rattle.std.proofs.lemmas.List.{take_all, take_more}
use Rattle.mips_machine.specs.declared.caches.Tally.{Tally}
use Rattle.mips_machine.specs.Passing.{no_visits}
use Rattle.image_run.proofs.run.tallies_of.Goals as goal

pub loop-cache-preserved : goal.loop-cache-preserved
loop-cache-preserved c =
    let same = c.requires in
    let count = c.caches-cache-end.ensures in
    let inside = c.loop-cache-test.true in
    c.in_ok-push.ensures.ok
    ∙ ap (λ (ts : List Tally). ts ++ c.tally.result ∷ []) c.loop-cache.invariant
    ∙ ap (λ (t : Tally). take c.loop-cache.cache c.args.machine.now.caches.tallies ++ t ∷ []) c.tally.ensures
    ∙ sym (take_more c.args.machine.now.caches.tallies c.loop-cache.cache no_visits (omega (arith, same, count, inside)))

pub returns : goal.returns
returns c =
    let same = c.requires in
    let count = c.caches-cache-end.ensures in
    let past = c.loop-cache-test.false in
    c.loop-cache.invariant ∙ take_all c.loop-cache.cache c.args.machine.now.caches.tallies (omega (arith, same, count, past))
