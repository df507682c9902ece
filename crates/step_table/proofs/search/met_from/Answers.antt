use Rattle.std.proofs.Common.{◌≡◌, [], length, false, replicate, drop, rules, refl, sym, subst, arith}
use Rattle.std.proofs.lemmas.List.{take_at}
use Rattle.step_table.specs.Search.{SeesMet}
use Rattle.step_table.proofs.Meeting.{SeesMet-nothing}
use Rattle.step_table.proofs.search.met_from.Goals as goal

pub returns : goal.returns
returns c =
    let later = c.see_more.new.seen in
    let fresh : c.deref_mut.result.now ≡ replicate (length c.args.table.now) false = search rules in
    let done : SeesMet c.args.table.now c.args.starts.now c.args.barred later =
    c.in_ok-see_more.ensures []
    (SeesMet-nothing c.args.table.now c.args.barred (length c.args.table.now) c.deref_mut.result.now fresh refl) in
    subst (SeesMet c.args.table.now c.args.starts.now c.args.barred)
    (sym (take_at later (drop (length later) c.in_ok-seen.seen.items) c.in_ok-seen.seen.len
    (omega (arith, done.count, c.in_ok-seen.ensures.len)))) done
