-- The other loop doesn't hold the header.
use Rattle.std.proofs.Common.{ℕ, ◌<◌, length, Option, inr, refl, sym, subst}
use Rattle.std.specs.Prelude.{IfSome}
use Rattle.call_contexts.specs.Around.{IsInner}
use Rattle.call_contexts.proofs.BodySearch.{inner-told}
use Rattle.call_contexts.proofs.around.inner_of.Goals as goal

pub returns : goal.returns
returns c =
    let loops = c.args.loops.now in
    let outer = c.in-Some.outer in
    let inside = subst (λ (o : Option ℕ). IfSome o (λ at. at < length loops)) c.in-Some.is c.requires.other in
    subst (λ (o : Option ℕ). IsInner loops o c.args.position outer) (sym c.in-Some.is)
    (inner-told loops outer c.args.position outer c.index-loops-outer.result c.index-loops-position.result inside c.requires.position
    c.index-loops-outer.is (inr (refl, c.if-holds.ensures.free)))
