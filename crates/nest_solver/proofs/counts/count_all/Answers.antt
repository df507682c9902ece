-- The way out is counted, then the turns of each depth.
use Rattle.std.proofs.Common.{ℕ, ◌+◌, ◌*◌, ◌∷◌, length-set, set, sym, ap, subst, ◌∙◌, arith}
use Rattle.nest_solver.specs.Counted.{times}
use Rattle.nest_solver.specs.Nets.{entry, round_by}
use Rattle.nest_solver.specs.Plain.{plain}
use Rattle.nest_solver.specs.Walks.{Follows, IsWalkable}
use Rattle.nest_solver.proofs.Outward.{counts-first, live, out-greatest, out-ready, out-room}
use Rattle.nest_solver.proofs.counts.count_all.Goals as goal

pub walk-requires-clause-walkable : goal.walk-requires-clause-walkable
walk-requires-clause-walkable c =
    let net = c.args.net.now in
    let tables = c.args.tables.now in
    let s = plain net tables in
    let given = c.requires.levels in
    let levels = c.solve_all.ensures.levels given.price given.levels in
    let up = entry c.solve_all.new.up in
    let weight = entry c.solve_all.new.weights in
    let best = entry c.solve_all.new.best in
    let choice = entry c.solve_all.new.choice in
    let total = c.solve_all.result in
    let turns = entry c.solve_all.new.turns in
    subst (λ (from : ℕ). IsWalkable s 0 choice from 1 (entry (set c.args.counts.now 1 1))) (sym c.target.ensures)
    (record {
      round = round_by net up;
      weight = weight;
      best = best;
      swept = c.solve_all.ensures.swept;
      known = live net tables given.price given.program weight turns up best choice total c.requires.nested c.requires.tables given.of_net
          levels c.solve_all.ensures.up c.solve_all.ensures.swept c.solve_all.ensures.total;
      room = λ way follows i u. omega (
        arith,
        counts-first c.args.counts.now i c.requires.fresh (omega (arith, u, c.requires.counts)),
        out-room net tables given.price given.program weight turns up best choice total c.requires.nested c.requires.tables given.of_net
            levels c.solve_all.ensures.up c.solve_all.ensures.swept c.solve_all.ensures.total way follows i u,
      );
    })

pub put_back-requires-clause-ready : goal.put_back-requires-clause-ready
put_back-requires-clause-ready c =
    let net = c.args.net.now in
    let tables = c.args.tables.now in
    let s = plain net tables in
    let given = c.requires.levels in
    let levels = c.solve_all.ensures.levels given.price given.levels in
    let up = entry c.solve_all.new.up in
    let weight = entry c.solve_all.new.weights in
    let best = entry c.solve_all.new.best in
    let choice = entry c.solve_all.new.choice in
    let total = c.solve_all.result in
    let turns = entry c.solve_all.new.turns in
    let walked = c.walk.ensures.walked in
    record {
      price = given.price;
      path = 1 ∷ walked.way;
      total = total;
      ready = out-ready net tables given.price given.program weight turns up best choice total c.requires.nested c.requires.tables
          given.of_net levels c.solve_all.ensures.up c.solve_all.ensures.swept c.solve_all.ensures.total walked.way
          (entry c.walk.new.counts)
          (subst (λ (from : ℕ). Follows s 0 choice from walked.way) c.target.ensures walked.follows)
          (λ i u. walked.counts i u
          ∙ ap (λ n. n + 1 * times walked.way i)
          (counts-first c.args.counts.now i c.requires.fresh (omega (arith, u, c.requires.counts))));
    }

pub returns : goal.returns
returns c =
    let net = c.args.net.now in
    let tables = c.args.tables.now in
    let s = plain net tables in
    let up = entry c.solve_all.new.up in
    let weight = entry c.solve_all.new.weights in
    let best = entry c.solve_all.new.best in
    let choice = entry c.solve_all.new.choice in
    let total = c.solve_all.result in
    let turns = entry c.solve_all.new.turns in
    let walked = c.walk.ensures.walked in
    record {
      count = omega (arith, c.put_back.auto, c.walk.auto, c.requires.counts, length-set c.args.counts.now 1 1);
      greatest = record {
        greatest = λ price program is start.
            let levels = c.solve_all.ensures.levels price start in
            out-greatest net tables price program weight turns up best choice total c.requires.nested c.requires.tables is
            levels c.solve_all.ensures.up c.solve_all.ensures.swept c.solve_all.ensures.total walked.way
            (entry c.put_back.new.counts) c.args.deepest c.requires.deepest
            (c.put_back.ensures.ready price (1 ∷ walked.way) total
            (out-ready net tables price program weight turns up best choice total c.requires.nested c.requires.tables is
            levels c.solve_all.ensures.up c.solve_all.ensures.swept c.solve_all.ensures.total walked.way
            (entry c.walk.new.counts)
            (subst (λ (from : ℕ). Follows s 0 choice from walked.way) c.target.ensures walked.follows)
            (λ i u. walked.counts i u
            ∙ ap (λ n. n + 1 * times walked.way i)
            (counts-first c.args.counts.now i c.requires.fresh (omega (arith, u, c.requires.counts))))));
      };
    }
