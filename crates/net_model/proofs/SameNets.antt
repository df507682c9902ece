-- Images with the same contents and records have the same loops and nets.
use Rattle.std.proofs.Common.{◌≡◌, ℕ, suc, inl, inr, List, [], ◌∷◌, ◌++◌, Contains, refl, ap, sym, subst, ◌∙◌}
use Rattle.elf_mips.specs.declared.image.Image.{Image}
use Rattle.elf_mips.specs.declared.mark.Mark.{Mark}
use Rattle.flow_net.specs.declared.net.Access.{Access}
use Rattle.flow_net.specs.declared.net.Context.{Context}
use Rattle.flow_net.specs.declared.net.LoopInst.{LoopInst}
use Rattle.flow_net.specs.declared.net.Net.{Net}
use Rattle.flow_net.specs.declared.net.Place.{Place}
use Rattle.net_model.specs.declared.unit.CodeUnit.{CodeUnit}
use Rattle.net_model.specs.declared.unit.Content.{Content}
use Rattle.net_model.specs.declared.unit.Content.TheVariants.{Unit as Stands}
use Rattle.net_model.specs.Accesses.{accesses_from, content_accesses}
use Rattle.net_model.specs.Contexts.{AreContexts, IsMade, Reaches}
use Rattle.net_model.specs.Instances.{HasInstances, HoldsUnit, IsInBodyOf, IsInnermostOf, IsInside, IsInstance, IsLoopOf, IsNextOutward, IsOuterOf, IsScopeOf}
use Rattle.net_model.specs.Instances.{body as body_unit, made as made_unit}
use Rattle.net_model.specs.Loops.{GoesForward, IsBackArc, IsForwardWay, IsHeader, IsInBody, IsInnermost, IsIrreducible, IsLoopBound, IsNamedBy, IsReachedWithout, IsUnbounded}
use Rattle.net_model.specs.Loops.{before as before_body, begins as begins_without, goes as goes_without, head as head_body, source as source_body}
use Rattle.net_model.specs.Net.{HasArcs, HasPlaces, IsNet, LeadsOn, LeadsTo}
use Rattle.net_model.specs.Net.{calls as calls_into, comes_back, ends, goes as goes_to}
use Rattle.net_model.specs.Targets.{unit_at}
use Rattle.net_model.proofs.SameCode.{IsSameCode, called-same, calls_at-same, goes-same, reached-same, stands-same, unit-same, ways-same}

pub turned : (a b : Image) → IsSameCode a b → IsSameCode b a
turned a b same = record { contents = λ address. sym (same.contents address); marks = sym same.marks }

-- Loops.
without-same : (a b : Image) (entry header : ℕ) → IsSameCode a b → (address : ℕ) → IsReachedWithout a entry header address →
    IsReachedWithout b entry header address
without-same a b entry header same _ (begins_without apart) = begins_without apart
without-same a b entry header same _ (goes_without address later rest on apart) =
    goes_without address later (without-same a b entry header same address rest) (goes-same a b same address later on) apart

back-same : (a b : Image) (entry from header : ℕ) → IsSameCode a b → IsBackArc a entry from header → IsBackArc b entry from header
back-same a b entry from header same back = record {
  reached = reached-same a b same entry from back.reached;
  goes = goes-same a b same from header back.goes;
  behind = λ without. back.behind (without-same b a entry header (turned a b same) from without);
}

header-same : (a b : Image) (entry header : ℕ) → IsSameCode a b → IsHeader a entry header → IsHeader b entry header
header-same a b entry header same headed = record { from = headed.from; arc = back-same a b entry headed.from header same headed.arc }

body-same : (a b : Image) (entry header : ℕ) → IsSameCode a b → (address : ℕ) → IsInBody a entry header address → IsInBody b entry header address
body-same a b entry header same _ (head_body headed) = head_body (header-same a b entry header same headed)
body-same a b entry header same _ (source_body from back) = source_body from (back-same a b entry from header same back)
body-same a b entry header same _ (before_body address later reached on apart body) =
    before_body address later (reached-same a b same entry address reached) (goes-same a b same address later on) apart
    (body-same a b entry header same later body)

innermost-same : (a b : Image) (entry header address : ℕ) → IsSameCode a b → IsInnermost a entry header address → IsInnermost b entry header address
innermost-same a b entry header address same innermost = record {
  held = body-same a b entry header same address innermost.held;
  inner = λ other body.
      body-same a b entry other same header (innermost.inner other (body-same b a entry other (turned a b same) address body));
}

named-same : (a b : Image) (entry : ℕ) (mark : Mark) (header : ℕ) → IsSameCode a b → IsNamedBy a entry mark header → IsNamedBy b entry mark header
named-same a b entry mark header same named = record {
  bounds = named.bounds;
  address = named.address;
  reached = reached-same a b same entry named.address named.reached;
  unit = named.unit;
  stands = stands-same a b named.address (Stands named.unit) same named.stands;
  there = named.there;
  innermost = innermost-same a b entry header named.address same named.innermost;
}

listed-same : (a b : Image) (mark : Mark) → IsSameCode a b → Contains a.marks mark → Contains b.marks mark
listed-same a b mark same listed = subst (λ (marks : List Mark). Contains marks mark) same.marks listed

bound-same : (a b : Image) (entry header bound : ℕ) → IsSameCode a b → IsLoopBound a entry header bound → IsLoopBound b entry header bound
bound-same a b entry header bound same is = record {
  mark = is.mark;
  listed = listed-same a b is.mark same is.listed;
  named = named-same a b entry is.mark header same is.named;
  same = is.same;
  least = λ other listed named.
      is.least other (listed-same b a other (turned a b same) listed) (named-same b a entry other header (turned a b same) named);
}

pub unbounded-same : (a b : Image) (entry header : ℕ) → IsSameCode a b → IsUnbounded a entry header → IsUnbounded b entry header
unbounded-same a b entry header same unbounded = record {
  loops = header-same a b entry header same unbounded.loops;
  unnamed = λ mark listed named.
      unbounded.unnamed mark (listed-same b a mark (turned a b same) listed) (named-same b a entry mark header (turned a b same) named);
}

forward-same : (a b : Image) (entry address later : ℕ) → IsSameCode a b → GoesForward a entry address later → GoesForward b entry address later
forward-same a b entry address later same forward = record {
  goes = goes-same a b same address later forward.goes;
  forward = λ back. forward.forward (back-same b a entry address later (turned a b same) back);
}

forward_way-same : (a b : Image) (entry : ℕ) → IsSameCode a b → (way : List ℕ) (from to : ℕ) → IsForwardWay a entry from way to → IsForwardWay b entry from way to
forward_way-same a b entry same [] from to way = way
forward_way-same a b entry same (later ∷ more) from to way =
    (forward-same a b entry from later same way.0, forward_way-same a b entry same more later to way.1)

pub irreducible-same : (a b : Image) (entry address : ℕ) → IsSameCode a b → IsIrreducible a entry address → IsIrreducible b entry address
irreducible-same a b entry address same cycle = record {
  reached = reached-same a b same entry address cycle.reached;
  later = cycle.later;
  more = cycle.more;
  begins = forward-same a b entry address cycle.later same cycle.begins;
  back = forward_way-same a b entry same cycle.more cycle.later address cycle.back;
}

-- Contexts.
reaches-same : (a b : Image) (contexts : List Context) (number address : ℕ) → IsSameCode a b → Reaches a contexts number address →
    Reaches b contexts number address
reaches-same a b contexts number address same reaches = record {
  context = reaches.context;
  there = reaches.there;
  reached = reached-same a b same reaches.context.target address reaches.reached;
}

made-same : (a b : Image) (contexts : List Context) (number : ℕ) (context : Context) → IsSameCode a b → IsMade a contexts number context →
    IsMade b contexts number context
made-same a b contexts number context same made = record {
  earlier = made.earlier;
  there = reaches-same a b contexts context.parent context.site same made.there;
  calls = calls_at-same a b same context.site context.target made.calls;
}

contexts-same : (a b : Image) (entry : ℕ) (contexts : List Context) → IsSameCode a b → AreContexts a entry contexts → AreContexts b entry contexts
contexts-same a b entry contexts same are = record {
  first = are.first;
  made = λ number context there later. made-same a b contexts number context same (are.made number context there later);
  whole = λ parent site callee reaches calls.
      are.whole parent site callee (reaches-same b a contexts parent site (turned a b same) reaches)
      (calls_at-same b a (turned a b same) site callee calls);
  order = are.order;
}

-- Places and arcs.
places-same : (a b : Image) (net : Net) → IsSameCode a b → HasPlaces a net → HasPlaces b net
places-same a b net same has = record {
  rising = has.rising;
  reached = λ number place there.
      reaches-same a b net.contexts place.context place.address same (has.reached number place there);
  whole = λ context address reaches.
      has.whole context address (reaches-same b a net.contexts context address (turned a b same) reaches);
}

leads_to-same : (a b : Image) (net : Net) (unit : CodeUnit) (context address : ℕ) → IsSameCode a b → (to : ℕ) →
    LeadsTo a net unit context address to → LeadsTo b net unit context address to
leads_to-same a b net unit context address same _ (goes_to to later way at) =
    goes_to to later (subst (λ (ways : List ℕ). Contains ways later) (ways-same a b unit address same) way) at
leads_to-same a b net unit context address same _ (calls_into to made callee calls further there at) =
    calls_into to made callee (subst (λ (all : List ℕ). Contains all callee) (called-same a b unit address same) calls) further there at
leads_to-same a b net unit context address same _ (comes_back to of leaves further there at) = comes_back to of leaves further there at
leads_to-same a b net unit context address same _ (ends leaves first) = ends leaves first

leads-same : (a b : Image) (net : Net) (from to : ℕ) → IsSameCode a b → LeadsOn a net from to → LeadsOn b net from to
leads-same a b net from to same leads = record {
  place = leads.place;
  there = leads.there;
  unit = leads.unit;
  stands = stands-same a b leads.place.address (Stands leads.unit) same leads.stands;
  leads = leads_to-same a b net leads.unit leads.place.context leads.place.address same to leads.leads;
}

arcs-same : (a b : Image) (entry : ℕ) (net : Net) → IsSameCode a b → HasArcs a entry net → HasArcs b entry net
arcs-same a b entry net same has = record {
  first = has.first;
  ways = λ number arc there later. leads-same a b net arc.from arc.to same (has.ways number arc there later);
  arcs = λ from to leads. has.arcs from to (leads-same b a net from to (turned a b same) leads);
  order = has.order;
}

-- Loop instances.
in_body-same : (a b : Image) (net : Net) (context header address : ℕ) → IsSameCode a b → IsInBodyOf a net context header address →
    IsInBodyOf b net context header address
in_body-same a b net context header address same is = record {
  of = is.of;
  there = is.there;
  held = body-same a b is.of.target header same address is.held;
}

holds-same : (a b : Image) (net : Net) (scope : ℕ) → IsSameCode a b → (context address : ℕ) → HoldsUnit a net scope context address →
    HoldsUnit b net scope context address
holds-same a b net scope same _ _ (body_unit context header address at is) =
    body_unit context header address at (in_body-same a b net context header address same is)
holds-same a b net scope same _ _ (made_unit context address of there further held) =
    made_unit context address of there further (holds-same a b net scope same of.parent of.site held)

inside-same : (a b : Image) (net : Net) (scope outer : ℕ) → IsSameCode a b → IsInside a net scope outer → IsInside b net scope outer
inside-same a b net scope outer same is = record {
  context = is.context;
  header = is.header;
  at = is.at;
  held = holds-same a b net outer same is.context is.header is.held;
}

innermost_of-same : (a b : Image) (net : Net) (context address scope : ℕ) → IsSameCode a b → IsInnermostOf a net context address scope →
    IsInnermostOf b net context address scope
innermost_of-same a b net context address scope same is = record {
  held = holds-same a b net scope same context address is.held;
  inner = λ other held.
      inside-same a b net scope other same (is.inner other (holds-same b a net other (turned a b same) context address held));
}

scope-same : (a b : Image) (net : Net) (context address scope : ℕ) → IsSameCode a b → IsScopeOf a net context address scope →
    IsScopeOf b net context address scope
scope-same a b net context address scope same (inl (run, none)) =
    inl (run, λ other held. none other (holds-same b a net other (turned a b same) context address held))
scope-same a b net context address scope same (inr is) = inr (innermost_of-same a b net context address scope same is)

next-same : (a b : Image) (net : Net) (inner context header scope : ℕ) → IsSameCode a b → IsNextOutward a net inner context header scope →
    IsNextOutward b net inner context header scope
next-same a b net inner context header scope same is = record {
  held = holds-same a b net scope same context header is.held;
  other = is.other;
  inside = λ another differ held.
      inside-same a b net scope another same
      (is.inside another differ (holds-same b a net another (turned a b same) context header held));
}

outer-same : (a b : Image) (net : Net) (inner context header scope : ℕ) → IsSameCode a b → IsOuterOf a net inner context header scope →
    IsOuterOf b net inner context header scope
outer-same a b net inner context header scope same (inl (run, none)) =
    inl (run, λ other differ held. none other differ (holds-same b a net other (turned a b same) context header held))
outer-same a b net inner context header scope same (inr is) = inr (next-same a b net inner context header scope same is)

loop-same : (a b : Image) (net : Net) (context header bound : ℕ) → IsSameCode a b → IsLoopOf a net context header bound →
    IsLoopOf b net context header bound
loop-same a b net context header bound same is = record {
  of = is.of;
  there = is.there;
  headed = header-same a b is.of.target header same is.headed;
  bounded = bound-same a b is.of.target header bound same is.bounded;
}

instance-same : (a b : Image) (net : Net) (scope : ℕ) (inst : LoopInst) → IsSameCode a b → IsInstance a net scope inst → IsInstance b net scope inst
instance-same a b net scope inst same is = record {
  context = is.context;
  header = is.header;
  at = is.at;
  is_loop = loop-same a b net is.context is.header inst.bound same is.is_loop;
  outer = outer-same a b net scope is.context is.header inst.outer same is.outer;
}

instances-same : (a b : Image) (net : Net) → IsSameCode a b → HasInstances a net → HasInstances b net
instances-same a b net same has = record {
  rising = has.rising;
  each = λ scope inst there. instance-same a b net scope inst same (has.each scope inst there);
  whole = λ context header of there headed.
      has.whole context header of there (header-same b a of.target header (turned a b same) headed);
  scopes = λ number place there.
      scope-same a b net place.context place.address place.scope same (has.scopes number place there);
}

-- Accesses.
accesses-same : (a b : Image) → IsSameCode a b → (number : ℕ) (places : List Place) → accesses_from a number places ≡ accesses_from b number places
accesses-same a b same number [] = refl
accesses-same a b same number (place ∷ more) =
    ap (λ (content : Content). content_accesses number content place.address ++ accesses_from a (suc number) more)
    (unit-same a b place.address same)
    ∙ ap (λ (behind : List Access). content_accesses number (unit_at b place.address) place.address ++ behind)
    (accesses-same a b same (suc number) more)

pub net-same : (a b : Image) (entry : ℕ) (net : Net) → IsSameCode a b → IsNet a entry net → IsNet b entry net
net-same a b entry net same is = record {
  contexts = contexts-same a b entry net.contexts same is.contexts;
  places = places-same a b net same is.places;
  arcs = arcs-same a b entry net same is.arcs;
  loops = instances-same a b net same is.loops;
  accesses = is.accesses ∙ accesses-same a b same 1 net.places;
}
