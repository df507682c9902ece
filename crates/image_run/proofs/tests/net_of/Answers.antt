-- The graphs and loops are those of the image that was read.
use Rattle.image_run.proofs.tests.net_of.Goals as goal

pub expand-requires : goal.expand-requires
expand-requires c = (
  c.args.image.now,
  4194304,
  record {
    graphs_are = c.in-Ok.ensures.graphs;
    nests_are = c.in-Ok-find_loops.ensures.nests;
    faultless = c.in-Ok.ensures.faultless;
  },
)
