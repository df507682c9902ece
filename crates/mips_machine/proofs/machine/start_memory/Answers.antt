-- Each fill fits the memory so far, since it fits the given regions.
use Rattle.std.proofs.Common.{◌<◌, arith, length, subst, sym, take}
use Rattle.std.proofs.lemmas.List.{take_more}
use Rattle.mips_machine.specs.Image.{IsFillable, regions_of}
use Rattle.mips_machine.proofs.FillLemmas.{FillsSoFar-more, IsFillable-at_start}
use Rattle.mips_machine.proofs.machine.start_memory.Goals as goal

pub fill-requires : goal.fill-requires
fill-requires c =
    let given = regions_of c.args.image.now c.args.profile.now in
    let inside : c.loop-fill.fill-index < length c.args.fills.now = omega arith in
    IsFillable-at_start c.fill-item.result given c.loop-fill.memory c.loop-fill.invariant.start
    (subst (IsFillable given) (sym c.fill-item.is) (c.requires.fills c.loop-fill.fill-index c.fill-item.result inside))

pub loop-fill-preserved : goal.loop-fill-preserved
loop-fill-preserved c =
    let given = regions_of c.args.image.now c.args.profile.now in
    let fills = c.args.fills.now in
    let i = c.loop-fill.fill-index in
    let fill = c.fill-item.result in
    let inside : i < length fills = omega arith in
    rw (take_more fills i fill inside, ← c.fill-item.is)
    (FillsSoFar-more given c.loop-fill.memory c.fill.new.self (take i fills) fill c.loop-fill.invariant
    c.fill.ensures.bytes c.fill.ensures.regions)
