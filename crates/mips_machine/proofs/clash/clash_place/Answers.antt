-- Each segment adds its own least address.
use Rattle.std.proofs.Common.{◌≡◌, ◌+◌, List, [], ◌∷◌, ◌++◌, take, ap, sym, subst, ◌∙◌}
use Rattle.std.proofs.lemmas.List.{take_all, take_more}
use Rattle.elf_mips.specs.declared.segment.Segment.{Segment}
use Rattle.mips_machine.specs.Clash.{FindsLeast, IsClashOf, lesser_of}
use Rattle.mips_machine.proofs.LeastLemmas.{clash-push, found-apart, found-clash}
use Rattle.mips_machine.proofs.clash.clash_place.Goals as goal

pub loop-segment-preserved : goal.loop-segment-preserved
loop-segment-preserved c =
    let segments = c.as_slice-segment-items.result.now in
    let i = c.loop-segment.segment-index in
    let more : take (i + 1) segments ≡ take i segments ++ c.segment-item.result ∷ [] =
    take_more segments i c.segment-item.result c.loop-segment-test.true
    ∙ ap (λ (s : Segment). take i segments ++ s ∷ []) (sym c.segment-item.is) in
    rw c.lesser_of-least.ensures
    (subst (λ (xs : List Segment). FindsLeast (IsClashOf xs c.args.profile.now) (lesser_of c.loop-segment.least c.shared_by.result)) (sym more)
    (clash-push c.args.profile.now (take i segments) c.segment-item.result c.loop-segment.least c.shared_by.result
    c.loop-segment.invariant c.shared_by.ensures))

pub returns-clause-least : goal.returns-clause-least
returns-clause-least c =
    let whole = take_all c.loop-segment.segment-index c.as_slice-segment-items.result.now c.loop-segment-test.false in
    let segments = whole ∙ c.as_slice-segment-items.ensures in
    subst (λ (xs : List Segment). FindsLeast (IsClashOf xs c.args.profile.now) c.loop-segment.least) segments c.loop-segment.invariant

pub returns-clause-apart : goal.returns-clause-apart
returns-clause-apart c = found-apart c.args.image.now c.args.profile.now c.loop-segment.least (returns-clause-least c)

pub returns-clause-clash : goal.returns-clause-clash
returns-clause-clash c = found-clash c.args.image.now c.args.profile.now c.loop-segment.least (returns-clause-least c)
