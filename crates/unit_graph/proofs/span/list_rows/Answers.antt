use Rattle.std.proofs.Common.{ℕ, ◌++◌, ◌∷◌, [], List, All, map, get_or, subst, sym, take, ◌∙◌, ap}
use Rattle.std.proofs.lemmas.List.{map-append, take_more}
use Rattle.std.proofs.lemmas.List.Elements.{All-push}
use Rattle.unit_graph.specs.Rows.{IsRow}
use Rattle.unit_graph.specs.declared.rows.Row.{Row}
use Rattle.unit_graph.proofs.span.list_rows.Goals as goal

pub loop-address-preserved : goal.loop-address-preserved
loop-address-preserved c =
    let at = c.loop-address.address-index in
    let one = get_or c.args.addresses.now at 0 in
    let rows = c.loop-address.rows.items in
    let row = c.in_ok-row_of.field-0 in
    let address : Row → ℕ = λ (r : Row). r.address in
    record {
      listed =
          ap (map address) c.in_ok-push.ensures.items ∙ map-append address rows (row ∷ [])
          ∙ ap (λ (xs : List ℕ). xs ++ address row ∷ []) c.loop-address.invariant.listed
          ∙ ap (λ (x : ℕ). take at c.args.addresses.now ++ x ∷ []) c.in_ok-row_of.ensures.address
          ∙ sym (take_more c.args.addresses.now at 0 c.loop-address-test.true);
      each = subst (All (IsRow c.args.image.now)) (sym c.in_ok-push.ensures.items)
          (All-push (IsRow c.args.image.now) rows row c.loop-address.invariant.each c.in_ok-row_of.ensures.row);
    }
