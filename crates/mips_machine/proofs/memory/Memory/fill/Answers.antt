-- A fill changes the region that takes it, or has no bytes.
use Rattle.std.proofs.Common.{◌≡◌, ap, set, sym, true, ◌∙◌}
use Rattle.mips_machine.specs.Image.{filled_region, takes_fill}
use Rattle.mips_machine.specs.Index.{span_of}
use Rattle.mips_machine.proofs.SpanLemmas.{IsIndexed-set}
use Rattle.mips_machine.proofs.FillLemmas.{span_of-filled, with_fill-StandsAt, with_fill-fails, without_bytes}
use Rattle.mips_machine.proofs.memory.Memory.fill.Goals as goal

pub returns-in_default-clause-regions : goal.returns-in_default-clause-regions
returns-in_default-clause-regions c =
    let fails = rw (c.deref.ensures.value, c.self.view_is) at c.in_default.ensures.none in
    sym (with_fill-fails c.args.fill.now c.args.self.now fails)

pub returns-in_default-clause-bytes : goal.returns-in_default-clause-bytes
returns-in_default-clause-bytes c =
    without_bytes c.args.fill.now c.deref.result.now
    (rw c.deref.ensures.value (rw (← c.self.view_is) at c.requires)) c.in_default.ensures.none

pub returns-clause-regions : goal.returns-clause-regions
returns-clause-regions c =
    let at = rw c.deref.ensures.value at c.in-Some.ensures.place in
    let items = c.self.inside.regions.items in
    rw (← c.self.view_is) (ap (set items c.in-Some.place) (c.fill.ensures.region ∙ ap (filled_region c.args.fill.now) c.index_mut-region.ensures.value)
    ∙ sym (with_fill-StandsAt c.args.fill.now items c.in-Some.place c.index_mut-region.result.now at))

pub invariant_of-self : goal.invariant_of-self
invariant_of-self c =
    let fill = c.args.fill.now in
    let items = c.self.inside.regions.items in
    let region = c.index_mut-region.result.now in
    let at = rw c.deref.ensures.value at c.in-Some.ensures.place in
    let takes : takes_fill fill region ≡ true = ap (takes_fill fill) c.index_mut-region.ensures.value ∙ at.passes region in
    IsIndexed-set items c.self.inside.by_address.items c.in-Some.place region c.fill.new.self c.self.invariant
    c.index_mut-region.ensures.value (ap span_of c.fill.ensures.region ∙ span_of-filled fill region takes)
