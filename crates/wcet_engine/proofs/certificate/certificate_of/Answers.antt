-- The leaf and the counts are a certificate.
use Rattle.std.proofs.Common.{refl, ap, ◌∙◌, List, ◌∷◌, ◌++◌, []}
use Rattle.ipet_program.specs.declared.certificate.Node.{Node}
use Rattle.ipet_program.specs.declared.certificate.Node.TheVariants.{End}
use Rattle.wcet_engine.proofs.Solved.{bound-low, one-leaf, solved}
use Rattle.wcet_engine.proofs.certificate.certificate_of.Goals as goal

pub bound_of-requires-clause-shows : goal.bound_of-requires-clause-shows
bound_of-requires-clause-shows c = (
  c.in_ok-leaf.ensures.shows,
  bound-low c.args.net.now c.requires.program.price c.args.program.now c.in_ok-leaf.leaf c.requires.nested c.requires.program.of_net c.in_ok-leaf.ensures.shows,
)

pub returns-clause-valid : goal.returns-clause-valid
returns-clause-valid c =
    solved c.args.program.now c.in_ok-leaf.leaf c.in_ok-counts.counts c.in_ok-bound.bound _ c.requires.checkable c.in_ok-leaf.ensures.shows
    c.in_ok-counts.ensures.greatest (c.in_ok-bound.ensures c.in_ok-leaf.ensures.shows) refl refl refl
    (c.in_ok-push.ensures.ok ∙ ap (λ (nodes : List Node). nodes ++ End c.in_ok-leaf.leaf ∷ []) c.new-tree.ensures)

pub returns-clause-tree : goal.returns-clause-tree
returns-clause-tree c =
    one-leaf c.args.program.now c.in_ok-leaf.leaf _ c.in_ok-leaf.ensures.shows
    (c.in_ok-push.ensures.ok ∙ ap (λ (nodes : List Node). nodes ++ End c.in_ok-leaf.leaf ∷ []) c.new-tree.ensures)
