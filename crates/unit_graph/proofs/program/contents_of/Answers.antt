use Rattle.std.proofs.Common.{◌++◌, ◌∷◌, [], List, map, get_or, sym, take, ◌∙◌, ap, arith}
use Rattle.std.proofs.lemmas.List.{map-append, take_all, take_more}
use Rattle.net_model.specs.declared.unit.Content.{Content}
use Rattle.net_model.specs.Targets.{unit_at}
use Rattle.unit_graph.proofs.program.contents_of.Goals as goal

pub loop-address-preserved : goal.loop-address-preserved
loop-address-preserved c = λ image each.
    let at = c.loop-address.address-index in
    let one = get_or c.args.addresses.now at 0 in
    c.in_ok-push.ensures.items
    ∙ ap (λ (contents : List Content). contents ++ c.content_of.result ∷ []) (c.loop-address.invariant image each)
    ∙ ap (λ (content : Content). map (unit_at image) (take at c.args.addresses.now) ++ content ∷ [])
    (c.content_of.ensures image each)
    ∙ sym (map-append (unit_at image) (take at c.args.addresses.now) (one ∷ []))
    ∙ ap (map (unit_at image)) (sym (take_more c.args.addresses.now at 0 c.loop-address-test.true))

pub returns : goal.returns
returns c = λ image each.
    c.loop-address.invariant image each
    ∙ ap (map (unit_at image)) (take_all c.loop-address.address-index c.args.addresses.now (omega (arith, c.loop-address-test.false)))
