-- The graphs are those of the image that was read.
use Rattle.call_contexts.proofs.tests.layouts.layout_from.Goals as goal

pub layout_of-requires : goal.layout_of-requires
layout_of-requires c = (c.in_ok-image.image, 4194304, record { graphs_are = c.in-Ok.ensures.graphs; faultless = c.in-Ok.ensures.faultless })
