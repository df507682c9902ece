-- The entry of the key is written over, or put into its gap.
use Rattle.std.specs.Prelude.{◌≡◌, ℕ, List, Some, slice_get}
use Rattle.std.proofs.Common.{◌∙◌, subst}
use Rattle.domain_laws.specs.Places.{IsGapFor}
use Rattle.domain_laws.proofs.Places.{insert_gap, set_place}
use Rattle.domain_laws.proofs.entries.put_in.Goals as goal

pub returns-in-Ok-clause-ok : goal.returns-in-Ok-clause-ok
returns-in-Ok-clause-ok g c =
    let at = c.in-Ok.ensures.there in
    set_place 0 c.args.entries.now.items c.in-Ok.place c.args.key at.value c.args.value c.requires
    (subst (λ (es : List (ℕ × g.row.D.Denot)). slice_get es c.in-Ok.place ≡ Some (c.args.key, at.value))
    c.deref.ensures.value at.there)

pub returns-in_ok-insert-in-Err-clause-ok : goal.returns-in_ok-insert-in-Err-clause-ok
returns-in_ok-insert-in-Err-clause-ok g c =
    c.in_ok-insert-in-Err.ensures.items ∙
    insert_gap c.args.entries.now.items c.args.key c.in-Err.place c.args.value
    (subst (λ (es : List (ℕ × g.row.D.Denot)). IsGapFor es c.args.key c.in-Err.place) c.deref.ensures.value
    c.in-Err.ensures.absent)
