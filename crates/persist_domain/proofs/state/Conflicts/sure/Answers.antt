-- A touch of another block makes it a conflict.
use Rattle.std.proofs.Common.{◌≡◌, ℕ, ◌∷◌, rules, subst, sym}
use Rattle.std.specs.Prelude.{true}
use Rattle.persist_domain.specs.Order.{leq}
use Rattle.persist_domain.specs.States.{Conflicting, Covers, IsConflicting}
use Rattle.persist_domain.specs.Touches.{sured}
use Rattle.persist_domain.proofs.Touching.{own-is, sured-covers, sured-is, sured-rises}
use Rattle.persist_domain.proofs.state.Conflicts.sure.Goals as goal

pub returns-clause-covers : goal.returns-clause-covers
returns-clause-covers c =
    let e : c.meet.new.self ≡ sured c.args.block c.args.self.now = search rules in
    λ touches covers.
    subst (λ (s : Conflicting). Covers s (c.args.block ∷ touches)) (sym e)
    (sured-covers c.args.block c.args.self.now touches covers)

pub returns-clause-shape : goal.returns-clause-shape
returns-clause-shape c =
    let is : IsConflicting c.args.self.now.others.limit c.args.self.now.block c.args.self.now =
    own-is c.self.inside.ways c.self.inside.block c.args.self.now
    (subst (IsConflicting c.self.inside.ways c.self.inside.block) c.self.view_is c.self.invariant) in
    let e : c.meet.new.self ≡ sured c.args.block c.args.self.now = search rules in
    subst (IsConflicting c.args.self.now.others.limit c.args.self.now.block) (sym e)
    (sured-is c.args.self.now.others.limit c.args.self.now.block c.args.block c.args.self.now is)

pub returns-clause-rises : goal.returns-clause-rises
returns-clause-rises c =
    let is : IsConflicting c.args.self.now.others.limit c.args.self.now.block c.args.self.now =
    own-is c.self.inside.ways c.self.inside.block c.args.self.now
    (subst (IsConflicting c.self.inside.ways c.self.inside.block) c.self.view_is c.self.invariant) in
    let e : c.meet.new.self ≡ sured c.args.block c.args.self.now = search rules in
    λ more kind under.
    subst (λ (s : Conflicting). leq s (sured c.args.block more) ≡ true) (sym e)
    (sured-rises c.args.self.now.others.limit c.args.self.now.block c.args.self.now more is kind under c.args.block)
