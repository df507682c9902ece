use Rattle.std.proofs.Common.{ℕ, subst}
use Rattle.unit_graph.specs.Rows.{MayLead, MayLeadAt}
use Rattle.unit_graph.specs.Search.{Sees}
use Rattle.unit_graph.proofs.FarSight.{far_back, far_by, low_calls}
use Rattle.unit_graph.proofs.Seen.{Sees-same}
use Rattle.unit_graph.proofs.span.see_from.Goals as goal

pub see_far-requires : goal.see_far-requires
see_far-requires c = low_calls c.args.image.now c.in_ok-row.row c.in_ok-row.ensures.row

pub returns : goal.returns
returns c =
    let row = c.in_ok-row.row in
    subst
    (λ (address : ℕ). Sees (MayLeadAt c.args.image.now address) c.args.seen.now.keys c.args.waiting.now.items
    c.see_far.new.seen.keys c.see_far.new.waiting.items)
    c.in_ok-row.ensures.address
    (Sees-same (MayLead row) (MayLeadAt c.args.image.now row.address) c.args.seen.now.keys c.args.waiting.now.items
    c.see_far.new.seen.keys c.see_far.new.waiting.items
    (λ x h. far_by c.args.image.now row x c.in_ok-row.ensures.row h)
    (λ x h. far_back c.args.image.now row x c.in_ok-row.ensures.row h)
    c.in_ok-see_far.ensures)
