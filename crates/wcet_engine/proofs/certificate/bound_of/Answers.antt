-- The leaf has a least bound, which is the greatest value.
use Rattle.std.proofs.Common.{arith}
use Rattle.wcet_engine.proofs.Solved.{least-greatest}
use Rattle.wcet_engine.proofs.certificate.bound_of.Goals as goal

pub unreachable-requires : goal.unreachable-requires
unreachable-requires c =
    c.in_default.ensures.none c.requires.shows.0.bound (omega (arith, c.requires.shows.1)) c.requires.shows.0.valid

pub returns : goal.returns
returns c =
    λ shows. least-greatest c.args.program.now c.args.leaf.now c.in-Some.bound c.requires.checkable c.in-Some.ensures.least shows
