use Rattle.std.proofs.Common.{ℕ, List, ◌++◌, subst}
use Rattle.std.specs.Prelude.{Contains}
use Rattle.step_table.proofs.Meeting.{search_more, waiting_inside}
use Rattle.step_table.proofs.Seen.{in_none}
use Rattle.step_table.proofs.search.see_more.Goals as goal

pub see_waiting-requires-clause-inside : goal.see_waiting-requires-clause-inside
see_waiting-requires-clause-inside c =
    waiting_inside c.args.starts.now c.args.barred c.args.seen.now c.see_all.new.seen c.new-waiting.result.items
    c.see_all.new.waiting.items c.in_ok-see_all.ensures
    (λ x h. absurd (in_none x (subst (λ (xs : List ℕ). Contains xs x) c.new-waiting.ensures.items h)))

pub returns : goal.returns
returns c others met =
    c.in_ok-see_waiting.ensures (others ++ c.args.starts.now)
    (search_more c.args.table.now others c.args.starts.now c.args.barred c.args.seen.now c.see_all.new.seen
    c.new-waiting.result.items c.see_all.new.waiting.items c.new-waiting.ensures.items met c.in_ok-see_all.ensures)
