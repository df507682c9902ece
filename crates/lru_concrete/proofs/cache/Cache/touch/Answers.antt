-- A touch of a block that a slot holds, or that the last slot takes.
use Rattle.std.proofs.Common.{rules, ◌<◌, length}
use Rattle.lru_concrete.proofs.Moving.{hit-stands, hit-touched, miss-stands, miss-within, miss-item, miss-touched, last-there, set-within}
use Rattle.lru_concrete.proofs.cache.Cache.touch.Goals as goal

pub renew-requires-clause-stands : goal.renew-requires-clause-stands
renew-requires-clause-stands c =
    hit-stands c.self.inside.shape c.self.inside.order c.self.inside.slots.items c.deref.result.now c.self.invariant
    c.args.block c.in-Some.slot c.first_slot-first.result c.first_slot-first.ensures.first c.deref.ensures.value c.in-Some.ensures.within
    c.in-Some.ensures.found

pub invariant_of-self : goal.invariant_of-self
invariant_of-self c =
    (hit-touched c.self.inside.shape c.self.inside.order c.self.inside.slots.items c.deref.result.now c.self.invariant
    c.args.block c.in-Some.slot c.first_slot-first.result c.first_slot-first.ensures.first c.deref.ensures.value c.in-Some.ensures.within
    c.in-Some.ensures.found c.renew.new.order c.renew.ensures).keeps

pub returns-in-Some-clause-held : goal.returns-in-Some-clause-held
returns-in-Some-clause-held c = rw (← c.self.view_is)
    (hit-touched c.self.inside.shape c.self.inside.order c.self.inside.slots.items c.deref.result.now c.self.invariant
    c.args.block c.in-Some.slot c.first_slot-first.result c.first_slot-first.ensures.first c.deref.ensures.value c.in-Some.ensures.within
    c.in-Some.ensures.found c.renew.new.order c.renew.ensures).held

pub returns-in-Some-clause-blocks : goal.returns-in-Some-clause-blocks
returns-in-Some-clause-blocks c = rw (← c.self.view_is)
    (hit-touched c.self.inside.shape c.self.inside.order c.self.inside.slots.items c.deref.result.now c.self.invariant
    c.args.block c.in-Some.slot c.first_slot-first.result c.first_slot-first.ensures.first c.deref.ensures.value c.in-Some.ensures.within
    c.in-Some.ensures.found c.renew.new.order c.renew.ensures).content

pub returns-in-Some-clause-lawful : goal.returns-in-Some-clause-lawful
returns-in-Some-clause-lawful c =
    (hit-touched c.self.inside.shape c.self.inside.order c.self.inside.slots.items c.deref.result.now c.self.invariant
    c.args.block c.in-Some.slot c.first_slot-first.result c.first_slot-first.ensures.first c.deref.ensures.value c.in-Some.ensures.within
    c.in-Some.ensures.found c.renew.new.order c.renew.ensures).keeps.lawful

pub returns-in_default-last-clause-held : goal.returns-in_default-last-clause-held
returns-in_default-last-clause-held c = absurd (last-there c.self.inside.shape c.self.inside.order c.self.inside.slots.items
    c.self.invariant c.args.block (set-within c.self.inside.shape c.args.block) c.in_default-last.ensures)

pub returns-in_default-last-clause-blocks : goal.returns-in_default-last-clause-blocks
returns-in_default-last-clause-blocks c = absurd (last-there c.self.inside.shape c.self.inside.order c.self.inside.slots.items
    c.self.invariant c.args.block (set-within c.self.inside.shape c.args.block) c.in_default-last.ensures)

pub index_mut-requires : goal.index_mut-requires
index_mut-requires c =
    let within : c.in-Some-last.last < length c.self.inside.slots.items = miss-within c.self.inside.shape c.self.inside.order c.self.inside.slots.items c.deref.result.now c.self.invariant
    c.args.block c.in-Some-last.last c.first_slot-first.result c.first_slot-first.ensures.first c.deref.ensures.value
    c.in_default.ensures.none c.in-Some-last.ensures in
    search rules

pub renew-requires-2-clause-slot : goal.renew-requires-2-clause-slot
renew-requires-2-clause-slot c =
    miss-item c.self.inside.shape c.self.inside.order c.self.inside.slots.items c.deref.result.now c.self.invariant
    c.args.block c.in-Some-last.last c.first_slot-first.result c.first_slot-first.ensures.first c.deref.ensures.value
    c.in_default.ensures.none c.in-Some-last.ensures

pub renew-requires-2-clause-stands : goal.renew-requires-2-clause-stands
renew-requires-2-clause-stands c =
    miss-stands c.self.inside.shape c.self.inside.order c.self.inside.slots.items c.deref.result.now c.self.invariant
    c.args.block c.in-Some-last.last c.first_slot-first.result c.first_slot-first.ensures.first c.deref.ensures.value
    c.in_default.ensures.none c.in-Some-last.ensures

pub invariant_of-self-2 : goal.invariant_of-self-2
invariant_of-self-2 c =
    (miss-touched c.self.inside.shape c.self.inside.order c.self.inside.slots.items c.deref.result.now c.self.invariant
    c.args.block c.in-Some-last.last c.first_slot-first.result c.first_slot-first.ensures.first c.deref.ensures.value
    c.in_default.ensures.none c.in-Some-last.ensures c.renew-2.new.order c.renew-2.ensures).keeps

pub returns-clause-held : goal.returns-clause-held
returns-clause-held c = rw (← c.self.view_is)
    (miss-touched c.self.inside.shape c.self.inside.order c.self.inside.slots.items c.deref.result.now c.self.invariant
    c.args.block c.in-Some-last.last c.first_slot-first.result c.first_slot-first.ensures.first c.deref.ensures.value
    c.in_default.ensures.none c.in-Some-last.ensures c.renew-2.new.order c.renew-2.ensures).held

pub returns-clause-blocks : goal.returns-clause-blocks
returns-clause-blocks c = rw (← c.self.view_is)
    (miss-touched c.self.inside.shape c.self.inside.order c.self.inside.slots.items c.deref.result.now c.self.invariant
    c.args.block c.in-Some-last.last c.first_slot-first.result c.first_slot-first.ensures.first c.deref.ensures.value
    c.in_default.ensures.none c.in-Some-last.ensures c.renew-2.new.order c.renew-2.ensures).content

pub returns-clause-lawful : goal.returns-clause-lawful
returns-clause-lawful c =
    (miss-touched c.self.inside.shape c.self.inside.order c.self.inside.slots.items c.deref.result.now c.self.invariant
    c.args.block c.in-Some-last.last c.first_slot-first.result c.first_slot-first.ensures.first c.deref.ensures.value
    c.in_default.ensures.none c.in-Some-last.ensures c.renew-2.new.order c.renew-2.ensures).keeps.lawful
