-- Rings stay rings where a node is put in.
use Rattle.std.proofs.Common.{◌≡◌, ◌<◌, ◌∙◌, length, get_or, ap, sym}
use Rattle.std.proofs.lemmas.List.{get_or_read}
use Rattle.link_table.proofs.Ringing.{inserted, one_before, writes-insert}
use Rattle.link_table.proofs.rings.Rings.insert.Goals as goal

pub invariant_of-self : goal.invariant_of-self
invariant_of-self c =
    let next = c.self.inside.next.items in
    let previous = c.self.inside.previous.items in
    let node = c.args.node in
    let after = c.args.after in
    let behind = c.index-behind.result.now in
    let rings = c.self.invariant in
    let within : node < length next = rw c.self.view_is c.requires.node in
    let there : after < length next = rw c.self.view_is c.requires.after in
    let alone : get_or next node 0 ≡ node = rw c.self.view_is c.requires.alone in
    let read : behind ≡ get_or next after 0 = get_or_read next after behind there c.index-behind.ensures 0 in
    let bound : behind < length next = rw read (rings.onward after there) in
    let back : after ≡ get_or previous behind 0 = sym (rings.returns after there) ∙ ap (λ n. get_or previous n 0) (sym read) in
    inserted next previous _ _ node after behind rings within there c.requires.apart alone read
    (writes-insert next node after behind within there c.requires.apart read)
    (writes-insert previous node behind after (rw rings.long within) (rw rings.long bound)
    (λ same. c.requires.apart (sym (one_before next previous after node rings there within (sym read ∙ sym same ∙ sym alone)))) back)
