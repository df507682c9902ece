-- A store finds its region at the place that was searched, or none.
use Rattle.std.proofs.Common.{ap, ◌∙◌, ℕ, sym}
use Rattle.mips_decode.specs.Effect.{region_with}
use Rattle.mips_machine.specs.Index.{span_of}
use Rattle.mips_machine.proofs.SpanLemmas.{IsIndexed-set, span_of-region_with}
use Rattle.mips_machine.proofs.AccessLemmas.{stored-found, stored-outside, stored-read_only}
use Rattle.mips_machine.proofs.memory.Memory.store.Goals as goal

pub returns-in_default-clause-trap : goal.returns-in_default-clause-trap
returns-in_default-clause-trap c = λ s rt same.
    stored-outside s c.args.op rt c.args.address c.store_touched-access.result c.args.self.now
    c.store_touched-access.ensures.access c.if-access-ne0.false same c.in_default.ensures.none

pub returns-then-not-is_writable-clause-trap : goal.returns-then-not-is_writable-clause-trap
returns-then-not-is_writable-clause-trap c = λ s rt same.
    let at = rw (← c.self.view_is) at c.in-Some.ensures.place in
    stored-read_only s c.args.op rt c.args.address c.store_touched-access.result c.self.inside.regions.items c.in-Some.place
    c.index_mut-region.result.now c.store_touched-access.ensures.access c.if-access-ne0.false (cc (same, c.self.view_is)) at
    c.index_mut-region.ensures.value (sym c.is_writable.ensures ∙ c.if-not-is_writable.true)

pub returns-clause-done : goal.returns-clause-done
returns-clause-done c = λ s rt same before.
    let at = rw (← c.self.view_is) at c.in-Some.ensures.place in
    let access = c.store_touched-access.result in
    let region = c.index_mut-region.result.now in
    stored-found s c.args.op rt c.args.address access c.self.inside.regions.items c.in-Some.place
    region c.put.new.self c.number-old.result c.args.number
    c.store_touched-access.ensures.access c.if-access-ne0.false (cc (same, c.self.view_is)) at
    c.index_mut-region.ensures.value (sym c.is_writable.ensures ∙ c.if-not-is_writable.false)
    before c.number-old.ensures (c.put.ensures ∙ ap (λ (n : ℕ). region_with access n region) c.store_value.ensures)

pub invariant_of-self-2 : goal.invariant_of-self-2
invariant_of-self-2 c =
    let region = c.index_mut-region.result.now in
    IsIndexed-set c.self.inside.regions.items c.self.inside.by_address.items c.in-Some.place region c.put.new.self
    c.self.invariant c.index_mut-region.ensures.value
    (ap span_of c.put.ensures ∙ span_of-region_with c.store_touched-access.result c.store_value.result region)
