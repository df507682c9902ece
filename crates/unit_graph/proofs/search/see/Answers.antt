use Rattle.std.proofs.Common.{ℕ, ◌+◌, ◌≡◌, List, Bool, length, ap, subst, sym, ◌∙◌, arith, if◌then◌else◌}
use Rattle.std.specs.Bool.{OnFalse}
use Rattle.std.specs.BTreeSet.{contains}
use Rattle.std.specs.Ordering.{nat_cmp}
use Rattle.unit_graph.specs.Search.{Sees}
use Rattle.unit_graph.proofs.Seen.{had_by, Sees-new, Sees-old}
use Rattle.unit_graph.proofs.search.see.Goals as goal

pub returns-in_ok-push : goal.returns-in_ok-push
returns-in_ok-push c =
    let e = c.in_ok-insert.ensures in
    subst (λ (later : List ℕ). Sees (λ x. c.args.address ≡ x) c.args.seen.now.keys c.args.waiting.now.items c.insert.new.self.keys later)
    (sym c.in_ok-push.ensures.items)
    (Sees-new c.args.seen.now c.insert.new.self c.args.address c.args.waiting.now.items (omega arith)
    e.updates e.ordered
    (e.len ∙ ap (λ (b : Bool). length c.args.seen.now.keys + (if b then 1 else 0)) c.if-branch.true))

pub returns-else-branch : goal.returns-else-branch
returns-else-branch c =
    let e = c.in_ok-insert.ensures in
    Sees-old c.args.seen.now c.insert.new.self.keys c.args.address c.args.waiting.now.items (omega arith)
    (had_by c.in_ok-insert.field-0 (contains nat_cmp c.args.seen.now c.args.address) e.added c.if-branch.false)
    (subst (λ (b : Bool). OnFalse b (c.insert.new.self.keys ≡ c.args.seen.now.keys)) c.if-branch.false e.unchanged)
