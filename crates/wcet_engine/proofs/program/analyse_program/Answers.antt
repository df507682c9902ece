-- Each answer is the program's first fault, or an analysis of a program without one.
use Rattle.std.proofs.lemmas.Result.{err_from_is_err_and}
use Rattle.call_contexts.specs.Programs.{IsProgram}
use Rattle.wcet_engine.proofs.CodeKinds.{code-faultless}
use Rattle.wcet_engine.proofs.ProgramFaultLemmas.{tells-large, tells-loops, tells-net, tells-words}
use Rattle.wcet_engine.proofs.StageLemmas.{can-return, is-analysed, not-many}
use Rattle.wcet_engine.proofs.program.analyse_program.Goals as goal

pub returns-in_err-graphs-clause-refused : goal.returns-in_err-graphs-clause-refused
returns-in_err-graphs-clause-refused c =
    let image = c.args.image.now in
    let p = err_from_is_err_and c.from_residual.result c.from_residual.ensures.1 in
    rw (p.1, p.2) (tells-words image c.args.profile.now c.args.entry _ c.in_err-graphs.ensures.bad)

pub returns-in_err-nests-clause-refused : goal.returns-in_err-nests-clause-refused
returns-in_err-nests-clause-refused c =
    let image = c.args.image.now in
    let p = err_from_is_err_and c.from_residual-in_err-nests.result c.from_residual-in_err-nests.ensures.1 in
    rw (p.1, p.2) (tells-loops image c.args.profile.now c.args.entry _ c.in_ok-graphs.ensures.faultless
    (c.in_err-nests.ensures.bad c.args.entry c.in_ok-graphs.ensures.graphs))

pub net_of-requires : goal.net_of-requires
net_of-requires c = (
  c.args.image.now,
  record {
    graphs_are = c.in_ok-graphs.ensures.graphs;
    nests_are = c.in_ok-nests.ensures.nests;
    faultless = c.in_ok-graphs.ensures.faultless;
  },
)

pub returns-in_err-net-clause-refused : goal.returns-in_err-net-clause-refused
returns-in_err-net-clause-refused c =
    let image = c.args.image.now in
    let is : IsProgram image c.args.entry c.in_ok-graphs.graphs c.in_ok-nests.nests = record {
      graphs_are = c.in_ok-graphs.ensures.graphs;
      nests_are = c.in_ok-nests.ensures.nests;
      faultless = c.in_ok-graphs.ensures.faultless;
    } in
    let p = err_from_is_err_and c.from_residual-in_err-net.result c.from_residual-in_err-net.ensures.1 in
    rw (p.1, p.2) (tells-net image c.args.profile.now c.args.entry _
    (code-faultless image c.args.entry c.in_ok-graphs.graphs c.in_ok-nests.nests is) (c.in_err-net.ensures.bad image is))

pub certify-requires-clause-net : goal.certify-requires-clause-net
certify-requires-clause-net c =
    let image = c.args.image.now in
    let is : IsProgram image c.args.entry c.in_ok-graphs.graphs c.in_ok-nests.nests = record {
      graphs_are = c.in_ok-graphs.ensures.graphs;
      nests_are = c.in_ok-nests.ensures.nests;
      faultless = c.in_ok-graphs.ensures.faultless;
    } in
    c.in_ok-net.ensures.net image is

pub returns-in_err-certificate-clause-refused : goal.returns-in_err-certificate-clause-refused
returns-in_err-certificate-clause-refused c =
    let image = c.args.image.now in
    let entry = c.args.entry in
    let graphs = c.in_ok-graphs.graphs in
    let nests = c.in_ok-nests.nests in
    let is : IsProgram image entry graphs nests = record {
      graphs_are = c.in_ok-graphs.ensures.graphs;
      nests_are = c.in_ok-nests.ensures.nests;
      faultless = c.in_ok-graphs.ensures.faultless;
    } in
    let net = c.in_ok-net.ensures.net image is in
    let p = err_from_is_err_and c.from_residual-in_err-certificate.result c.from_residual-in_err-certificate.ensures.1 in
    rw (p.1, p.2) (tells-large image c.args.profile.now entry _ (code-faultless image entry graphs nests is)
    (can-return image entry c.in_ok-net.net net) (not-many image entry graphs nests c.in_ok-net.net is net)
    c.in_err-certificate.ensures.large)

pub returns-clause-analysed : goal.returns-clause-analysed
returns-clause-analysed c =
    let image = c.args.image.now in
    let is : IsProgram image c.args.entry c.in_ok-graphs.graphs c.in_ok-nests.nests = record {
      graphs_are = c.in_ok-graphs.ensures.graphs;
      nests_are = c.in_ok-nests.ensures.nests;
      faultless = c.in_ok-graphs.ensures.faultless;
    } in
    is-analysed image c.args.profile.now c.args.entry c.in_ok-graphs.graphs c.in_ok-nests.nests c.in_ok-net.net
    c.in_ok-certificate.certificate c.requires is (c.in_ok-net.ensures.net image is) c.in_ok-certificate.ensures.certifies
