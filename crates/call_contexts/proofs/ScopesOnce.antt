-- In a net each unit has one scope, and each loop instance has one round it.
use Rattle.std.proofs.Common.{◌≡◌, ℕ, ◌≤◌, inl, inr, refl, sym, subst, ◌∙◌, arith}
use Rattle.elf_mips.specs.declared.image.Image.{Image}
use Rattle.flow_net.specs.declared.net.Context.{Context}
use Rattle.flow_net.specs.declared.net.Net.{Net}
use Rattle.net_model.specs.Instances.{HoldsUnit, IsInBodyOf, IsInside, IsLoopAt, IsOuterOf, IsScopeOf, body, made}
use Rattle.net_model.specs.Loops.{IsInBody, IsLoopBound}
use Rattle.net_model.specs.Net.{IsNet}
use Rattle.loop_nest.proofs.Laminar.{apart}
use Rattle.call_contexts.proofs.NetItems.{context-at, loop-header, loop-once}

-- A loop instance holds nothing of an earlier context than its own.
pub holds-later : (image : Image) (entry : ℕ) (net : Net) → IsNet image entry net → (scope own header : ℕ) → IsLoopAt net scope own header →
    (context address : ℕ) → HoldsUnit image net scope context address → own ≤ context
holds-later image entry net is scope own header at _ _ (body context other address there held) =
    let same = (loop-header net scope own header context other at there).0 in omega (arith, same)
holds-later image entry net is scope own header at _ _ (made context address of there further held) =
    let below = holds-later image entry net is scope own header at of.parent of.site held in
    let earlier = (is.contexts.made context of there further).earlier in
    omega (arith, below, earlier)

-- In its own context it holds the body of its loop.
pub holds-own : (image : Image) (entry : ℕ) (net : Net) → IsNet image entry net → (scope own header : ℕ) → IsLoopAt net scope own header →
    (context address : ℕ) → HoldsUnit image net scope context address → context ≡ own → IsInBodyOf image net own header address
holds-own image entry net is scope own header at _ _ (body context other address there held) here =
    let same = loop-header net scope context other own header there at in
    subst (λ (h : ℕ). IsInBodyOf image net own h address) same.1
    (subst (λ (c : ℕ). IsInBodyOf image net c other address) same.0 held)
holds-own image entry net is scope own header at _ _ (made context address of there further held) here =
    let below = holds-later image entry net is scope own header at of.parent of.site held in
    let earlier = (is.contexts.made context of there further).earlier in
    absurd (omega (arith, below, earlier, here))

-- Two loops of one context whose bodies hold each other's header are one.
headers-once : (image : Image) (net : Net) (context header other : ℕ) → IsInBodyOf image net context header other →
    IsInBodyOf image net context other header → header ≡ other
headers-once image net context header other within around =
    apart image within.of.target header other
    (subst (λ (of : Context). IsInBody image of.target other header)
    (context-at net.contexts context around.of within.of around.there within.there) around.held)
    within.held

-- Two loop instances that lie inside each other are one.
pub inside-once : (image : Image) (entry : ℕ) (net : Net) → IsNet image entry net → (scope other : ℕ) → IsInside image net scope other →
    IsInside image net other scope → scope ≡ other
inside-once image entry net is scope other one two =
    let up = holds-later image entry net is other two.context two.header two.at one.context one.header one.held in
    let down = holds-later image entry net is scope one.context one.header one.at two.context two.header two.held in
    let same : two.context ≡ one.context = omega (arith, up, down) in
    let at : IsLoopAt net other one.context two.header = subst (λ (c : ℕ). IsLoopAt net other c two.header) same two.at in
    let within : IsInBodyOf image net one.context one.header two.header =
    holds-own image entry net is scope one.context one.header one.at two.context two.header two.held same in
    let around : IsInBodyOf image net one.context two.header one.header =
    holds-own image entry net is other one.context two.header at one.context one.header one.held refl in
    loop-once image entry net is scope other one.context one.header one.at
    (subst (λ (h : ℕ). IsLoopAt net other one.context h) (sym (headers-once image net one.context one.header two.header within around)) at)

-- A unit has one scope.
pub scope-once : (image : Image) (entry : ℕ) (net : Net) → IsNet image entry net → (context address scope other : ℕ) →
    IsScopeOf image net context address scope → IsScopeOf image net context address other → scope ≡ other
scope-once image entry net is context address scope other (inl (run, none)) (inl (also, neither)) = run ∙ sym also
scope-once image entry net is context address scope other (inl (run, none)) (inr two) = absurd (none other two.held)
scope-once image entry net is context address scope other (inr one) (inl (run, none)) = absurd (none scope one.held)
scope-once image entry net is context address scope other (inr one) (inr two) =
    inside-once image entry net is scope other (one.inner other two.held) (two.inner scope one.held)

-- A loop instance has one scope round it.
pub outer-once : (image : Image) (entry : ℕ) (net : Net) → IsNet image entry net → (inner context header scope other : ℕ) →
    IsOuterOf image net inner context header scope → IsOuterOf image net inner context header other → scope ≡ other
outer-once image entry net is inner context header scope other (inl (run, none)) (inl (also, neither)) = run ∙ sym also
outer-once image entry net is inner context header scope other (inl (run, none)) (inr two) = absurd (none other two.other two.held)
outer-once image entry net is inner context header scope other (inr one) (inl (run, none)) = absurd (none scope one.other one.held)
outer-once image entry net is inner context header scope other (inr one) (inr two) =
    inside-once image entry net is scope other (one.inside other two.other two.held) (two.inside scope one.other one.held)

-- A loop has one bound.
pub bound-once : (image : Image) (entry header bound other : ℕ) → IsLoopBound image entry header bound →
    IsLoopBound image entry header other → bound ≡ other
bound-once image entry header bound other one two =
    let most = one.least two.mark two.listed two.named in
    let least = two.least one.mark one.listed one.named in
    omega (arith, most, least, one.same, two.same)
