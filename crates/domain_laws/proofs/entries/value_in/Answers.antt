-- The value of the entry at the key's place, or of none.
use Rattle.std.specs.Prelude.{ℕ, Some}
use Rattle.std.proofs.Common.{◌∙◌, ap, sym}
use Rattle.std.proofs.lemmas.Option.{get_or_from_slice_get}
use Rattle.domain_laws.proofs.Places.{value_of_gap, value_of_place}
use Rattle.domain_laws.proofs.entries.value_in.Goals as goal

pub returns-in-Ok : goal.returns-in-Ok
returns-in-Ok g c =
    let at = c.in-Ok.ensures.there in
    ap (λ (e : ℕ × g.row.D.Denot). Some e.1)
    (get_or_from_slice_get c.args.entries.now c.in-Ok.place (c.args.key, at.value) c.index-entries-place.result at.there) ∙
    sym (value_of_place 0 c.args.entries.now c.in-Ok.place c.args.key at.value c.requires at.there)

pub returns-in-Err : goal.returns-in-Err
returns-in-Err g c = sym (value_of_gap c.args.entries.now c.args.key c.in-Err.field-0 c.in-Err.ensures.absent)
