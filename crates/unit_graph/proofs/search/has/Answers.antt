use Rattle.std.proofs.Common.{◌∙◌, sym}
use Rattle.std.proofs.lemmas.Cmp.{nat_cmp_total}
use Rattle.std.proofs.lemmas.Map.Lookups.{exact_unsigned}
use Rattle.std.proofs.lemmas.Map.Views.{btree_set_contains_iff}
use Rattle.unit_graph.proofs.search.has.Goals as goal

pub returns : goal.returns
returns c =
    let iff = btree_set_contains_iff nat_cmp_total exact_unsigned c.args.set.now c.args.address in
    (λ h. iff.0 (sym c.contains.ensures ∙ h), λ h. c.contains.ensures ∙ iff.1 h)
