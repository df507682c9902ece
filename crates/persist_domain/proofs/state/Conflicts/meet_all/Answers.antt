-- The walk ends at a full set: full stays full.
use Rattle.std.proofs.Common.{◌≡◌, None, rules}
use Rattle.persist_domain.proofs.Touching.{walk-full}
use Rattle.persist_domain.proofs.state.Conflicts.meet_all.Goals as goal

pub returns : goal.returns
returns c =
    let full : c.loop-rest.self.others.items ≡ None = search rules in
    walk-full c.args.self.now c.loop-rest.self c.args.candidates.now c.loop-rest.rest c.loop-rest.invariant full
