-- The first place of the deepest list is taken, or the next list outward is looked at.
use Rattle.std.specs.Prelude.{◌≡◌, ◌-◌, ◌<◌, Bool, true, false, List, length, slice_set}
use Rattle.std.proofs.Common.{◌∙◌, ap, arith, rules, subst, sym}
use Rattle.std.proofs.lemmas.Bool.Decides.{nat_tests}
use Rattle.link_table.specs.Lists.{Lists, IsFree, items_of}
use Rattle.fixpoint.specs.Queues.{IsQueue}
use Rattle.fixpoint.specs.Values.{waits}
use Rattle.fixpoint.proofs.Queuing.{nothing_first, nothing_taken, queue_first, queue_lower, queue_none, queue_take, waits_inside}
use Rattle.fixpoint.proofs.waiting.Waiting.take.Goals as goal

pub index_mut-requires : goal.index_mut-requires
index_mut-requires c =
    let at = c.loop-place.self-inside in
    let inside : c.in-Some.place < length at.marks.items = waits_inside at.marks.items c.in-Some.place
    (queue_first at.lists at.depths.items at.marks.items at.deepest c.in-Some.place c.loop-place.invariant.queue c.in-Some.ensures.first) in
    search rules

pub invariant_of-self : goal.invariant_of-self
invariant_of-self c =
    let at = c.loop-place.self-inside in
    let inside : c.in-Some.place < length at.marks.items = waits_inside at.marks.items c.in-Some.place
    (queue_first at.lists at.depths.items at.marks.items at.deepest c.in-Some.place c.loop-place.invariant.queue c.in-Some.ensures.first) in
    subst (λ (t : Lists). IsQueue t at.depths.items (slice_set at.marks.items c.in-Some.place false) at.deepest)
    (sym c.take_front.ensures.rest)
    (queue_take at.lists at.depths.items at.marks.items at.deepest c.in-Some.place c.loop-place.invariant.queue
    c.in-Some.ensures.first
    (subst (λ (t : Lists). IsFree t c.in-Some.place) c.take_front.ensures.rest c.in-Some.ensures.free) inside)

pub returns-in-Some-clause-some : goal.returns-in-Some-clause-some
returns-in-Some-clause-some c =
    let at = c.loop-place.self-inside in
    let waited = queue_first at.lists at.depths.items at.marks.items at.deepest c.in-Some.place c.loop-place.invariant.queue
    c.in-Some.ensures.first in (
      subst (λ (ms : List Bool). c.in-Some.place < length ms) c.loop-place.invariant.same
          (waits_inside at.marks.items c.in-Some.place waited),
      subst (λ (ms : List Bool). waits ms c.in-Some.place ≡ true) c.loop-place.invariant.same waited,
      ap (λ (ms : List Bool). slice_set ms c.in-Some.place false) c.loop-place.invariant.same,
    )

pub invariant_of-self-then-self-eq0 : goal.invariant_of-self-then-self-eq0
invariant_of-self-then-self-eq0 c =
    let at = c.loop-place.self-inside in
    let empty = nothing_first (items_of at.lists at.deepest) c.take_front.result c.take_front.ensures.first c.in_default.not-Some in
    subst (λ (t : Lists). IsQueue t at.depths.items at.marks.items at.deepest)
    (sym (c.take_front.ensures.rest ∙ nothing_taken at.lists at.deepest empty)) c.loop-place.invariant.queue

pub returns-then-self-eq0-clause-none : goal.returns-then-self-eq0-clause-none
returns-then-self-eq0-clause-none c =
    let at = c.loop-place.self-inside in
    let empty = nothing_first (items_of at.lists at.deepest) c.take_front.result c.take_front.ensures.first c.in_default.not-Some in
    let last : at.deepest ≡ 0 = grind (arith, nat_tests) in (
      c.loop-place.invariant.same,
      λ place. ap (λ (ms : List Bool). waits ms place) (sym c.loop-place.invariant.same) ∙
          queue_none at.lists at.depths.items at.marks.items at.deepest c.loop-place.invariant.queue last empty place,
    )

pub loop-place-preserved : goal.loop-place-preserved
loop-place-preserved c =
    let at = c.loop-place.self-inside in
    let empty = nothing_first (items_of at.lists at.deepest) c.take_front.result c.take_front.ensures.first c.in_default.not-Some in
    record {
      queue = subst (λ (t : Lists). IsQueue t at.depths.items at.marks.items (at.deepest - 1))
          (sym (c.take_front.ensures.rest ∙ nothing_taken at.lists at.deepest empty))
          (queue_lower at.lists at.depths.items at.marks.items at.deepest c.loop-place.invariant.queue empty);
      same = c.loop-place.invariant.same;
    }
