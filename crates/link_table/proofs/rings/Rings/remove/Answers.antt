-- Rings stay rings where a node is taken out.
use Rattle.std.proofs.Common.{◌≡◌, ◌<◌, ◌∙◌, length, get_or, ap, sym}
use Rattle.std.proofs.lemmas.List.{get_or_read}
use Rattle.link_table.proofs.Ringing.{removed, one_before, one_behind, writes-remove}
use Rattle.link_table.proofs.rings.Rings.remove.Goals as goal

pub invariant_of-self : goal.invariant_of-self
invariant_of-self c =
    let next = c.self.inside.next.items in
    let previous = c.self.inside.previous.items in
    let node = c.args.node in
    let before = c.index-before.result.now in
    let behind = c.index-behind.result.now in
    let rings = c.self.invariant in
    let within : node < length next = rw c.self.view_is c.requires in
    let within_back : node < length previous = rw rings.long within in
    let read : behind ≡ get_or next node 0 = get_or_read next node behind within c.index-behind.ensures 0 in
    let back : before ≡ get_or previous node 0 = get_or_read previous node before within_back c.index-before.ensures 0 in
    let bound : behind < length next = rw read (rings.onward node within) in
    let bound_back : before < length next = rw back (rings.backward node within) in
    let leads : get_or next before 0 ≡ node = ap (λ n. get_or next n 0) back ∙ rings.comes_back node within in
    let leads_back : get_or previous behind 0 ≡ node = ap (λ n. get_or previous n 0) read ∙ rings.returns node within in
    removed next previous _ _ node rings within
    (writes-remove next node before behind within bound_back read
    (λ other h e. one_before next previous other before rings h bound_back (e ∙ sym leads)) leads)
    (writes-remove previous node behind before within_back (rw rings.long bound) back
    (λ other h e. one_behind next previous other behind rings (rw (← rings.long) h) bound (e ∙ sym leads_back)) leads_back)
