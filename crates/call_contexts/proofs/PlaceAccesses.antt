-- The accesses of one place more.
use Rattle.std.proofs.Common.{◌≡◌, ℕ, zero, suc, ◌+◌, Bool, List, [], ◌∷◌, ◌++◌, take, slice_get, Option, Some, is_some, cond, sym, ap, subst, ◌∙◌, arith, append_assoc}
use Rattle.std.proofs.lemmas.List.{append-nil}
use Rattle.elf_mips.specs.declared.image.Image.{Image}
use Rattle.flow_net.specs.declared.net.Access.{Access}
use Rattle.flow_net.specs.declared.net.Place.{Place}
use Rattle.flow_net.specs.declared.net.Role.TheVariants.{Fetch, Slot}
use Rattle.net_model.specs.Accesses.{access, accesses_from, content_accesses, load_access}
use Rattle.net_model.specs.Targets.{unit_at}
use Rattle.net_model.specs.declared.unit.CodeUnit.{CodeUnit}
use Rattle.net_model.specs.declared.unit.Content.{Content}
use Rattle.unit_graph.specs.Graphs.{IsNode}
use Rattle.unit_graph.specs.declared.graph.Graphs.{Graphs}
use Rattle.unit_graph.specs.declared.node.Unit.{Unit as Node}
use Rattle.call_contexts.specs.Accesses.{node_accesses}
use Rattle.call_contexts.specs.Layout.{IsLaid, IsPlaced, IsSpot}
use Rattle.call_contexts.specs.Spots.{IsLaidProgram}
use Rattle.call_contexts.specs.declared.layout.Layout.{Layout}
use Rattle.call_contexts.proofs.SpotNumbers.{spot-once}
use Rattle.call_contexts.proofs.LaidProgram.{node-is}

-- The accesses of a node are those of its unit.
slot-same : (number address : ℕ) (slot : Bool) (unit : CodeUnit) → slot ≡ is_some unit.slot →
    cond slot (access number Slot (address + 4) ∷ []) [] ≡ cond (is_some unit.slot) (access number Slot (address + 4) ∷ []) []
slot-same number address slot unit same = ap (λ (b : Bool). cond b (access number Slot (address + 4) ∷ []) []) same

pub node-accesses : (image : Image) (function : ℕ) (node : Node) (number : ℕ) → IsNode image function node →
    node_accesses number node ≡ content_accesses number (unit_at image node.address) node.address
node-accesses image function node number is =
    ap (λ (slots : List Access). access number Fetch node.address ∷ slots ++ load_access number node.load)
    (slot-same number node.address node.slot is.unit is.described.slot)
    ∙ ap (λ (load : Option ℕ). access number Fetch node.address
    ∷ cond (is_some is.unit.slot) (access number Slot (node.address + 4) ∷ []) [] ++ load_access number load) is.described.load
    ∙ ap (λ (content : Content). content_accesses number content node.address) (sym is.stands)

accesses-more : (image : Image) (places : List Place) (number index : ℕ) (place : Place) → slice_get places index ≡ Some place →
    accesses_from image number (take (suc index) places)
    ≡ accesses_from image number (take index places) ++ content_accesses (number + index) (unit_at image place.address) place.address
accesses-more image [] number index place there = absurd cc
accesses-more image (p ∷ ps) number zero place there =
    let same : p ≡ place = cc in
    append-nil (content_accesses number (unit_at image p.address) p.address)
    ∙ ap (λ (q : Place). content_accesses number (unit_at image q.address) q.address) same
    ∙ ap (λ (n : ℕ). content_accesses n (unit_at image place.address) place.address) (omega arith)
accesses-more image (p ∷ ps) number (suc index) place there =
    ap (λ (more : List Access). content_accesses number (unit_at image p.address) p.address ++ more)
    (accesses-more image ps (suc number) index place there
    ∙ ap (λ (n : ℕ). accesses_from image (suc number) (take index ps) ++ content_accesses n (unit_at image place.address) place.address) (omega arith))
    ∙ sym (append_assoc (content_accesses number (unit_at image p.address) p.address) (accesses_from image (suc number) (take index ps))
    (content_accesses (number + suc index) (unit_at image place.address) place.address))

-- What is read of the places is placed.
pub placed-at : (graphs : Graphs) (layout : Layout) (places : List Place) (index : ℕ) (place : Place) →
    IsLaid graphs.graphs layout places → slice_get places index ≡ Some place → IsPlaced graphs.graphs layout (suc index) place
placed-at graphs layout places index place laid there = laid.each (suc index) place there

pub accesses-next : (image : Image) (entry : ℕ) (graphs : Graphs) (layout : Layout) (places : List Place) (index : ℕ) (place : Place)
    (node : Node) (position : ℕ) (before after : List Access) → IsLaidProgram image entry graphs layout → IsLaid graphs.graphs layout places →
    slice_get places index ≡ Some place → IsSpot graphs.graphs layout place.context position node (index + 1) →
    before ≡ accesses_from image 1 (take index places) → after ≡ before ++ node_accesses (index + 1) node →
    after ≡ accesses_from image 1 (take (index + 1) places)
accesses-next image entry graphs layout places index place node position before after laid placed there spot so_far added =
    let number : suc index ≡ index + 1 = omega arith in
    let its = placed-at graphs layout places index place placed there in
    let moved = subst (λ (n : ℕ). IsSpot graphs.graphs layout place.context its.position its.node n) number its.spot in
    let same = spot-once graphs.graphs layout place.context its.position place.context position its.node node (index + 1) laid.layout_is.laid moved spot in
    let address : node.address ≡ place.address = ap (λ (n : Node). n.address) (sym same) ∙ sym its.same in
    let is = node-is image entry graphs layout place.context position node (index + 1) laid spot in
    let its_own : node_accesses (index + 1) node ≡ content_accesses (1 + index) (unit_at image place.address) place.address =
    node-accesses image spot.has.of.target node (index + 1) is
    ∙ ap (λ (a : ℕ). content_accesses (index + 1) (unit_at image a) a) address
    ∙ ap (λ (n : ℕ). content_accesses n (unit_at image place.address) place.address) (omega arith) in
    added
    ∙ ap (λ (list : List Access). list ++ node_accesses (index + 1) node) so_far
    ∙ ap (λ (list : List Access). accesses_from image 1 (take index places) ++ list) its_own
    ∙ sym (accesses-more image places 1 index place there)
    ∙ ap (λ (n : ℕ). accesses_from image 1 (take n places)) number
