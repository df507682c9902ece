-- A touch of any of the candidates, or none, keeps what was touched among the conflicts.
use Rattle.std.proofs.Common.{◌≡◌, ℕ, ◌∷◌, subst, sym}
use Rattle.std.specs.Prelude.{true}
use Rattle.age_model.specs.Candidates.{blocks_of}
use Rattle.persist_domain.specs.Order.{leq}
use Rattle.persist_domain.specs.States.{Conflicting, Covers, IsConflicting}
use Rattle.persist_domain.specs.Touches.{doubted}
use Rattle.persist_domain.proofs.Touching.{others-are, others-cover, others-rise, others-stay, own-is}
use Rattle.persist_domain.proofs.state.Conflicts.doubtful.Goals as goal

pub returns-clause-stays : goal.returns-clause-stays
returns-clause-stays c = λ touches covers.
    subst (λ (s : Conflicting). Covers s touches) (sym c.in_ok-meet_all.ensures)
    (others-stay (blocks_of c.args.candidates.now) c.args.self.now touches covers)

pub returns-clause-covers : goal.returns-clause-covers
returns-clause-covers c = λ touches block there covers.
    subst (λ (s : Conflicting). Covers s (block ∷ touches)) (sym c.in_ok-meet_all.ensures)
    (others-cover (blocks_of c.args.candidates.now) c.args.self.now touches block there covers)

pub returns-clause-shape : goal.returns-clause-shape
returns-clause-shape c =
    let is : IsConflicting c.args.self.now.others.limit c.args.self.now.block c.args.self.now =
    own-is c.self.inside.ways c.self.inside.block c.args.self.now
    (subst (IsConflicting c.self.inside.ways c.self.inside.block) c.self.view_is c.self.invariant) in
    subst (IsConflicting c.args.self.now.others.limit c.args.self.now.block) (sym c.in_ok-meet_all.ensures)
    (others-are c.args.self.now.others.limit c.args.self.now.block (blocks_of c.args.candidates.now) c.args.self.now is)

pub returns-clause-rises : goal.returns-clause-rises
returns-clause-rises c =
    let is : IsConflicting c.args.self.now.others.limit c.args.self.now.block c.args.self.now =
    own-is c.self.inside.ways c.self.inside.block c.args.self.now
    (subst (IsConflicting c.self.inside.ways c.self.inside.block) c.self.view_is c.self.invariant) in
    λ more kind under.
    subst (λ (s : Conflicting). leq s (doubted c.args.candidates.now more) ≡ true) (sym c.in_ok-meet_all.ensures)
    (others-rise c.args.self.now.others.limit c.args.self.now.block (blocks_of c.args.candidates.now) c.args.self.now more
    is kind under)
