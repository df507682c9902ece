-- The place stood in no list, and goes to the list of its depth.
use Rattle.std.specs.Prelude.{◌<◌, List, length, refl}
use Rattle.std.proofs.Common.{◌∙◌, ap, arith, sym}
use Rattle.std.proofs.lemmas.List.{get_or_default}
use Rattle.std.specs.Prelude.{Bool, false}
use Rattle.std.proofs.lemmas.Option.{slice_get_read}
use Rattle.fixpoint.proofs.Queuing.{queue_free, queue_later}
use Rattle.fixpoint.proofs.waiting.Waiting.put.Goals as goal

pub push_back-requires-clause-free : goal.push_back-requires-clause-free
push_back-requires-clause-free c =
    let inside : c.args.place < length c.self.inside.marks.items =
    omega (arith, c.requires, ap (λ (ms : List Bool). length ms) c.self.view_is) in
    queue_free c.self.inside.lists c.self.inside.depths.items c.self.inside.marks.items c.self.inside.deepest c.args.place
    c.self.invariant
    (get_or_default c.self.inside.marks.items c.args.place false c.index.result.now inside ∙
    sym c.index.ensures ∙ c.if-index.false)

pub invariant_of-self : goal.invariant_of-self
invariant_of-self c =
    let inside : c.args.place < length c.self.inside.marks.items =
    omega (arith, c.requires, ap (λ (ms : List Bool). length ms) c.self.view_is) in
    queue_later c.self.inside.lists c.push_back.new.self c.self.inside.depths.items c.self.inside.marks.items
    c.self.inside.deepest c.max-self-inside.result c.args.place _ c.self.invariant inside
    (slice_get_read c.self.inside.depths.items (length c.self.inside.depths.items) c.args.place c.index-depth.result.now refl
    (omega (arith, inside, c.self.invariant.sized)) c.index-depth.ensures)
    c.push_back.ensures c.max-self-inside.ensures
