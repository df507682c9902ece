-- The layout is that of the program, and its net is nested and holds the runs.
use Rattle.std.proofs.Common.{◌≡◌, ◌-◌, ℕ, suc, length, List, sym, ap, subst, arith, rules}
use Rattle.elf_mips.specs.declared.image.Image.{Image}
use Rattle.flow_net.specs.declared.net.Context.{Context}
use Rattle.call_contexts.specs.Instances.{HasLayout}
use Rattle.call_contexts.specs.Programs.{IsProgram, TellsFault}
use Rattle.call_contexts.specs.Sizes.{AreSizes}
use Rattle.call_contexts.proofs.NestedNet.{net-nested}
use Rattle.net_model.proofs.RunPaths.{runs-along}
use Rattle.call_contexts.proofs.Parts.{program-graphs}
use Rattle.call_contexts.proofs.program.expand.Goals as goal

pub layout_of-requires : goal.layout_of-requires
layout_of-requires c =
    let (image, entry, program) = c.requires in
    (image, entry, program-graphs image entry c.args.graphs.now c.args.nests.now program)

pub returns-in_err-layout-clause-bad : goal.returns-in_err-layout-clause-bad
returns-in_err-layout-clause-bad c =
    let known : (image : Image) (entry : ℕ) → IsProgram image entry c.args.graphs.now c.args.nests.now →
    TellsFault image entry c.in_err-layout.field-0.0 =
    λ image entry program. c.in_err-layout.ensures.bad image entry
    (program-graphs image entry c.args.graphs.now c.args.nests.now program) in
    search rules

pub net_of-requires : goal.net_of-requires
net_of-requires c =
    let (image, entry, program) = c.requires in (
      image,
      entry,
      record {
        program = program;
        layout_is = c.in_ok-layout.ensures.layout image entry (program-graphs image entry c.args.graphs.now c.args.nests.now program);
      },
    )

pub returns-clause-net : goal.returns-clause-net
returns-clause-net c = λ image entry program.
    c.in_ok-net.ensures.net image entry (record {
      program = program;
      layout_is = c.in_ok-layout.ensures.layout image entry (program-graphs image entry c.args.graphs.now c.args.nests.now program);
    })

pub returns-clause-units : goal.returns-clause-units
returns-clause-units c = λ image entry program.
    c.in_ok-net.ensures.units image entry (record {
      program = program;
      layout_is = c.in_ok-layout.ensures.layout image entry (program-graphs image entry c.args.graphs.now c.args.nests.now program);
    })

pub returns-clause-nested : goal.returns-clause-nested
returns-clause-nested c =
    let (image, entry, program) = c.requires in
    let graphs = program-graphs image entry c.args.graphs.now c.args.nests.now program in
    let is = c.in_ok-net.ensures.net image entry (record {
      program = program;
      layout_is = c.in_ok-layout.ensures.layout image entry graphs;
    }) in
    net-nested image entry c.args.graphs.now c.args.nests.now c.in_ok-net.net program is (c.in_ok-layout.ensures.returns image entry graphs)

pub returns-clause-contexts : goal.returns-clause-contexts
returns-clause-contexts c =
    let (image, entry, program) = c.requires in
    let layout = c.in_ok-layout.ensures.layout image entry (program-graphs image entry c.args.graphs.now c.args.nests.now program) in
    omega (arith, layout.laid.few_contexts, ap (λ (contexts : List Context). length contexts) c.in_ok-net.ensures.contexts)

pub returns-clause-places : goal.returns-clause-places
returns-clause-places c =
    let (image, entry, program) = c.requires in
    let layout = c.in_ok-layout.ensures.layout image entry (program-graphs image entry c.args.graphs.now c.args.nests.now program) in
    omega (
      arith,
      layout.laid.few_places (length c.in_ok-layout.layout.contexts.keys) (suc (length c.in_ok-net.net.places)) c.in_ok-net.ensures.places,
    )

pub returns-clause-sizes : goal.returns-clause-sizes
returns-clause-sizes c = λ image entry program.
    let sizes = c.in_ok-layout.ensures.sizes image entry (program-graphs image entry c.args.graphs.now c.args.nests.now program)
    (suc (length c.in_ok-net.net.places)) c.in_ok-net.ensures.places in
    let contexts : length c.in_ok-layout.layout.contexts.keys ≡ length c.in_ok-net.net.contexts =
    ap (λ (all : List Context). length all) (sym c.in_ok-net.ensures.contexts) in
    let places : suc (length c.in_ok-net.net.places) - 1 ≡ length c.in_ok-net.net.places = omega arith in
    subst (λ (n : ℕ). AreSizes image entry n (length c.in_ok-net.net.places)) contexts
    (subst (λ (n : ℕ). AreSizes image entry (length c.in_ok-layout.layout.contexts.keys) n) places sizes)

pub returns-clause-paths : goal.returns-clause-paths
returns-clause-paths c = λ image entry program s states run.
    let laid : HasLayout image entry c.args.graphs.now c.args.nests.now c.in_ok-layout.layout = record {
      program = program;
      layout_is = c.in_ok-layout.ensures.layout image entry (program-graphs image entry c.args.graphs.now c.args.nests.now program);
    } in
    runs-along image entry c.in_ok-net.net (c.in_ok-net.ensures.net image entry laid) (c.in_ok-net.ensures.units image entry laid)
    s states run
