-- What is known of the net, or why there is none.
use Rattle.std.proofs.Common.{inl, inr, refl, subst}
use Rattle.call_contexts.specs.Programs.{TellsFault}
use Rattle.wcet_engine.proofs.Certified.{few-of}
use Rattle.wcet_engine.proofs.StageLemmas.{too-many}
use Rattle.wcet_engine.proofs.program.net_of.Goals as goal

pub returns-in-Ok-clause-net : goal.returns-in-Ok-clause-net
returns-in-Ok-clause-net c = λ image is.
    let e = c.in-Ok.ensures in
    let net = e.net image c.args.entry is in
    record {
      is_net = net;
      nested = e.nested;
      units = e.units image c.args.entry is;
      few = few-of image c.args.entry c.in-Ok.net net e.few e.places;
      arcs = e.few;
      contexts = e.contexts;
      places = e.places;
      sizes = e.sizes image c.args.entry is;
      can_return = e.returns image c.args.entry is;
      paths = e.paths image c.args.entry is;
    }

pub returns-in-Err-NeverReturns-clause-bad : goal.returns-in-Err-NeverReturns-clause-bad
returns-in-Err-NeverReturns-clause-bad c = λ image is.
    let told = subst (TellsFault image c.args.entry) c.in-Err-NeverReturns.field-0-is (c.in-Err-NeverReturns.ensures.bad image c.args.entry is) in
    rw c.at.ensures (inl (refl, told))

pub returns-in-Err-TooMany-clause-bad : goal.returns-in-Err-TooMany-clause-bad
returns-in-Err-TooMany-clause-bad c = λ image is.
    let told = subst (TellsFault image c.args.entry) c.in-Err-TooMany.field-0-is (c.in-Err-TooMany.ensures.bad image c.args.entry is) in
    rw c.at-in-Err-TooMany.ensures (inr (refl, told.0, too-many image c.args.entry _ _ told.1))
