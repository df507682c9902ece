-- The targets of a unit's arcs: its ways, then its calls; or where it returns.
use Rattle.std.proofs.Common.{◌≡◌, ℕ, ◌+◌, ◌<◌, ◌≤◌, inl, inr, Bool, true, false, cond, List, [], ◌∷◌, ◌++◌, length, All, AllPairs, Contains, sym, subst, ◌∙◌, arith, length-append}
use Rattle.std.specs.List.{AllZip}
use Rattle.std.proofs.lemmas.List.Elements.{All-append, All-cons, All-nil, Contains-append_left, Contains-append_right}
use Rattle.elf_mips.specs.declared.image.Image.{Image}
use Rattle.flow_net.specs.declared.net.Context.{Context}
use Rattle.net_model.specs.Contexts.{made_by}
use Rattle.net_model.specs.Flow.{called, ways_on}
use Rattle.net_model.specs.Functions.{GoesOn, onward, back}
use Rattle.net_model.specs.Places.{IsTargetBefore}
use Rattle.net_model.specs.Targets.{unit_at}
use Rattle.net_model.specs.declared.unit.CodeUnit.{CodeUnit}
use Rattle.net_model.specs.declared.unit.Content.TheVariants.{Unit as Stands}
use Rattle.loop_nest.proofs.Ordered.{first-in, nothing-in}
use Rattle.unit_graph.specs.Graphs.{IsNode}
use Rattle.unit_graph.specs.declared.graph.Graphs.{Graphs}
use Rattle.unit_graph.specs.declared.node.Unit.{Unit as Node}
use Rattle.call_contexts.specs.Arcs.{AreTargets, IsCallTo, IsReturnTo, Leads, goes, enters, returns as comes, stays, ways_of}
use Rattle.call_contexts.specs.Layout.{IsSpot}
use Rattle.call_contexts.specs.Spots.{IsLaidProgram, IsNumberAt}
use Rattle.call_contexts.specs.declared.layout.Layout.{Layout}
use Rattle.call_contexts.proofs.ContextOrder.{made-once, made-rises}
use Rattle.call_contexts.proofs.SpotNumbers.{inside-below, one-at, spot-inside, spot-positive}
use Rattle.call_contexts.proofs.LaidProgram.{node-is, number-once, number-rises}
use Rattle.call_contexts.proofs.Quiet.{returns-quiet}
use Rattle.call_contexts.proofs.WayCounts.{same-unit}
use Rattle.std.proofs.lemmas.Slice.Zip.{AllZip-long}
use Rattle.call_contexts.proofs.Zips.{pairs-append, pairs-nil, pairs-one, zip-pairs, zip-sound, zip-whole}

-- The place to which a context returns is one.
return-once : (image : Image) (entry : ℕ) (graphs : Graphs) (layout : Layout) (context to other : ℕ) →
    IsLaidProgram image entry graphs layout → IsReturnTo graphs.graphs layout context to → IsReturnTo graphs.graphs layout context other → to ≡ other
return-once image entry graphs layout context to other laid (inl one) (inl another) = one.1 ∙ sym another.1
return-once image entry graphs layout context to other laid (inl one) (inr another) = absurd (omega (arith, one.0, another.later))
return-once image entry graphs layout context to other laid (inr one) (inl another) = absurd (omega (arith, another.0, one.later))
return-once image entry graphs layout context to other laid (inr one) (inr another) =
    let same : one.of ≡ another.of = one-at layout.contexts.keys context one.of another.of one.there another.there in
    number-once image entry graphs layout another.of.parent (another.of.site + 8) to other laid
    (subst (λ (of : Context). IsNumberAt graphs.graphs layout of.parent (of.site + 8) to) same one.at) another.at

call-once : (image : Image) (entry : ℕ) (graphs : Graphs) (layout : Layout) (context site callee to other : ℕ) →
    IsLaidProgram image entry graphs layout → IsCallTo graphs.graphs layout context site callee to →
    IsCallTo graphs.graphs layout context site callee other → to ≡ other
call-once image entry graphs layout context site callee to other laid one another =
    let same = made-once image entry layout.contexts.keys laid.layout_is.contexts context site callee one.made another.made one.is another.is in
    number-once image entry graphs layout another.made callee to other laid
    (subst (λ (m : ℕ). IsNumberAt graphs.graphs layout m callee to) same one.at) another.at

-- A return unit has no ways and calls nothing.
record IsQuiet (node : Node) : Type 0 where
  onward : (x : ℕ) → Contains node.onward x → ⊥
  calls : (x : ℕ) → Contains node.calls x → ⊥

none-among : (xs : List ℕ) (x : ℕ) → xs ≡ [] → Contains xs x → ⊥
none-among xs x none there = nothing-in x (subst (λ (zs : List ℕ). Contains zs x) none there)

node-quiet : (image : Image) (function : ℕ) (node : Node) → IsNode image function node → node.returns ≡ true → IsQuiet node
node-quiet image function node is leaving =
    let none = returns-quiet image is.unit node.address (sym is.described.returns ∙ leaving) in
    let no_call : (u : CodeUnit) (x : ℕ) → unit_at image node.address ≡ Stands u → Contains (called image u node.address) x → ⊥ =
    λ u x at among. none-among (called image is.unit node.address) x none.1
    (subst (λ (v : CodeUnit). Contains (called image v node.address) x) (same-unit image node.address is.unit u is.stands at) among) in
    record {
      onward = λ x there. no-way none.0 no_call x (is.described.onward.sound x there);
      calls = λ x there. let calls = is.described.calls.sound x there in no_call calls.unit x calls.stands calls.called;
    }
  where
    no-way : ways_on image is.unit node.address ≡ [] →
        ((u : CodeUnit) (x : ℕ) → unit_at image node.address ≡ Stands u → Contains (called image u node.address) x → ⊥) →
        (x : ℕ) → GoesOn image node.address x → ⊥
    no-way none no_call x (onward _ _ u at among) =
        none-among (ways_on image is.unit node.address) x none
        (subst (λ (v : CodeUnit). Contains (ways_on image v node.address) x) (same-unit image node.address is.unit u is.stands at) among)
    no-way none no_call _ (back _ callee u at among can) = no_call u callee at among

kept-onward : (node : Node) (x : ℕ) (b : Bool) → Contains (cond b node.onward []) x → Contains node.onward x
kept-onward node x true there = there
kept-onward node x false there = absurd (nothing-in x there)

pub targets-return : (image : Image) (entry : ℕ) (graphs : Graphs) (layout : Layout) (context position : ℕ) (node : Node) (number to : ℕ) →
    IsLaidProgram image entry graphs layout → IsSpot graphs.graphs layout context position node number → node.returns ≡ true →
    IsReturnTo graphs.graphs layout context to → AreTargets graphs.graphs layout context node (to ∷ [])
targets-return image entry graphs layout context position node number to laid spot leaving is = record {
  order = pairs-one IsTargetBefore to;
  sound = All-cons (Leads graphs.graphs layout context node) to [] (comes to leaving is) (All-nil (Leads graphs.graphs layout context node));
  whole = λ other leads. whole other leads;
  few = omega arith;
} where
  quiet : IsQuiet node
  quiet = node-quiet image spot.has.of.target node (node-is image entry graphs layout context position node number laid spot) leaving

  whole : (other : ℕ) → Leads graphs.graphs layout context node other → Contains (to ∷ []) other
  whole other (goes _ later among at) = absurd (quiet.onward later (kept-onward node later (stays node) among))
  whole other (enters _ callee among at) = absurd (quiet.calls callee among)
  whole other (comes _ again at) =
      subst (λ (t : ℕ). Contains (to ∷ []) t) (return-once image entry graphs layout context to other laid is at) (first-in to [])

-- The other units: the ways rise, the calls rise behind them.
ways-rise : (node : Node) (b : Bool) → AllPairs (λ (m n : ℕ). m < n) node.onward → AllPairs (λ (m n : ℕ). m < n) (cond b node.onward [])
ways-rise node true rising = rising
ways-rise node false rising = pairs-nil (λ (m n : ℕ). m < n)

ways-few : (node : Node) (b : Bool) → length (cond b node.onward []) ≤ length node.onward
ways-few node true = omega arith
ways-few node false = omega arith

number-positive : (image : Image) (entry : ℕ) (graphs : Graphs) (layout : Layout) (context address number : ℕ) →
    IsLaidProgram image entry graphs layout → IsNumberAt graphs.graphs layout context address number → 0 < number
number-positive image entry graphs layout context address number laid at =
    spot-positive graphs.graphs layout context at.position at.node number laid.layout_is.laid at.spot

call-rises : (image : Image) (entry : ℕ) (graphs : Graphs) (layout : Layout) (context site lesser greater n m : ℕ) →
    IsLaidProgram image entry graphs layout → IsCallTo graphs.graphs layout context site lesser n →
    IsCallTo graphs.graphs layout context site greater m → lesser < greater → n < m
call-rises image entry graphs layout context site lesser greater n m laid one other less =
    inside-below graphs.graphs layout one.made n other.made m laid.layout_is.laid
    (spot-inside graphs.graphs layout one.made one.at.position one.at.node n one.at.spot)
    (spot-inside graphs.graphs layout other.made other.at.position other.at.node m other.at.spot)
    (made-rises image entry layout.contexts.keys laid.layout_is.contexts context site lesser greater one.made other.made one.is other.is less)

-- A call leads to a later context.
call-later : (image : Image) (entry : ℕ) (graphs : Graphs) (layout : Layout) (context later site callee n m : ℕ) →
    IsLaidProgram image entry graphs layout → IsNumberAt graphs.graphs layout context later n →
    IsCallTo graphs.graphs layout context site callee m → n < m
call-later image entry graphs layout context later site callee n m laid one call =
    let made = laid.layout_is.contexts.made call.made (made_by context site callee) call.is.there call.is.later in
    inside-below graphs.graphs layout context n call.made m laid.layout_is.laid
    (spot-inside graphs.graphs layout context one.position one.node n one.spot)
    (spot-inside graphs.graphs layout call.made call.at.position call.at.node m call.at.spot) made.earlier

pub targets-go : (image : Image) (entry : ℕ) (graphs : Graphs) (layout : Layout) (context position : ℕ) (node : Node) (number : ℕ)
    (ways calls : List ℕ) → IsLaidProgram image entry graphs layout → IsSpot graphs.graphs layout context position node number →
    node.returns ≡ false → AllZip (IsNumberAt graphs.graphs layout context) (ways_of node) ways →
    AllZip (IsCallTo graphs.graphs layout context node.address) node.calls calls → AreTargets graphs.graphs layout context node (ways ++ calls)
targets-go image entry graphs layout context position node number ways calls laid spot going goes_to enters_to = record {
  order = pairs-append IsTargetBefore ways calls
      (zip-pairs (IsNumberAt graphs.graphs layout context) (λ (m n : ℕ). m < n) IsTargetBefore (ways_of node) ways goes_to
      (ways-rise node (stays node) is.described.onward.rising)
      (λ a c b d one other less.
      (number-positive image entry graphs layout context a b laid one, inr (number-rises image entry graphs layout context a c b d laid one other less))))
      (zip-pairs (IsCallTo graphs.graphs layout context node.address) (λ (m n : ℕ). m < n) IsTargetBefore node.calls calls enters_to
      is.described.calls.rising
      (λ a c b d one other less. (
        number-positive image entry graphs layout one.made a b laid one.at,
        inr (call-rises image entry graphs layout context node.address a c b d laid one other less),
      )))
      (zip-sound (IsNumberAt graphs.graphs layout context) (λ (n : ℕ). All (IsTargetBefore n) calls) (ways_of node) ways goes_to
      (λ later n among one.
      zip-sound (IsCallTo graphs.graphs layout context node.address) (IsTargetBefore n) node.calls calls enters_to
      (λ callee m called call. (
        number-positive image entry graphs layout context later n laid one,
        inr (call-later image entry graphs layout context later node.address callee n m laid one call),
      ))));
  sound = All-append (Leads graphs.graphs layout context node) ways calls
      (zip-sound (IsNumberAt graphs.graphs layout context) (Leads graphs.graphs layout context node) (ways_of node) ways goes_to
      (λ later n among at. goes n later among at))
      (zip-sound (IsCallTo graphs.graphs layout context node.address) (Leads graphs.graphs layout context node) node.calls calls enters_to
      (λ callee n among at. enters n callee among at));
  whole = λ to leads. whole to leads;
  few = omega (
    arith,
    length-append ways calls,
    AllZip-long (IsNumberAt graphs.graphs layout context) (ways_of node) ways goes_to,
    AllZip-long (IsCallTo graphs.graphs layout context node.address) node.calls calls enters_to,
    ways-few node (stays node),
  );
} where
  is : IsNode image spot.has.of.target node
  is = node-is image entry graphs layout context position node number laid spot

  whole : (to : ℕ) → Leads graphs.graphs layout context node to → Contains (ways ++ calls) to
  whole to (goes _ later among at) =
      let (n, there, one) = zip-whole (IsNumberAt graphs.graphs layout context) (ways_of node) ways later goes_to among in
      subst (λ (t : ℕ). Contains (ways ++ calls) t) (number-once image entry graphs layout context later n to laid one at)
      (Contains-append_left ways calls n there)
  whole to (enters _ callee among at) =
      let (n, there, one) = zip-whole (IsCallTo graphs.graphs layout context node.address) node.calls calls callee enters_to among in
      subst (λ (t : ℕ). Contains (ways ++ calls) t) (call-once image entry graphs layout context node.address callee n to laid one at)
      (Contains-append_right ways calls n there)
  whole to (comes _ leaving at) = absurd cc
