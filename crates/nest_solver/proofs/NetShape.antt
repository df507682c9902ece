-- The plain tables of a nested net are a nest.
use Rattle.std.proofs.Common.{◌≡◌, ◌⊎◌, ◌↔◌, ℕ, ◌+◌, ◌<◌, ◌≤◌, ◌==◌, nat_lt, cond, true, false, List, [], ◌∷◌, length, Option, Some, None, refl, sym, ap, ◌∙◌, subst, inl, inr, arith, true≢false}
use Rattle.std.proofs.lemmas.Bool.{cases_Bool, cases_lt, cases_order}
use Rattle.std.proofs.lemmas.Bool.Decides.{nat_tests}
use Rattle.flow_net.specs.Numbers.{item_at, IsNumberOf, IsNumberOrZero}
use Rattle.flow_net.specs.Scopes.{IsWithin, Holds, HasScopes, holds_of}
use Rattle.flow_net.specs.Scopes.IsWithin.{here, out}
use Rattle.flow_net.specs.Nested.{IsNested, IsBack}
use Rattle.flow_net.specs.Paths.{IsPath, IsRunPath}
use Rattle.flow_net.specs.Visits.{target_of}
use Rattle.flow_net.specs.declared.net.LoopInst.{LoopInst}
use Rattle.flow_net.specs.declared.net.Net.{Net}
use Rattle.flow_net.specs.declared.net.NetArc.{NetArc}
use Rattle.flow_net.specs.declared.net.Place.{Place}
use Rattle.flow_net.proofs.Numbers.{item_at-there, item_at-all, item_at-within}
use Rattle.flow_net.proofs.Chains.{within-zero, around, around-outward}
use Rattle.flow_net.proofs.Holds.{holds-line, holds-through}
use Rattle.flow_net.proofs.Round.{holds_of-tells}
use Rattle.flow_net.proofs.Headers.{header-scope}
use Rattle.ipet_program.specs.Scopes.{bound_of}
use Rattle.nest_solver.specs.Nets.{HasDepths, HasHeaders, AreUp, shape_of, source_of, header_of, scope_of, round_by}
use Rattle.nest_solver.specs.Shape.{Shape, IsNest, IsUpTo, IsAhead, IsRising, target, is_back}
use Rattle.nest_solver.specs.Shape.IsAhead.{start, along}
use Rattle.nest_solver.specs.Ways.{IsRound}
use Rattle.nest_solver.proofs.Arcs.{back_by, back_from}
use Rattle.nest_solver.proofs.Held.{within-deeper, around_small}

-- The test tells which scopes hold which places.
pub held-told : (net : Net) → IsNested net → (scope place : ℕ) →
    (holds_of net scope place ≡ true) ↔ Holds net scope place
held-told net nested = holds_of-tells net nested.scopes

-- The arc, the loop and the place of a number.
pub record IsItem {T : Type 0} (items : List T) (number : ℕ) : Type 0 where
  pub item : T
  pub there : item_at number items ≡ Some item

pub arc-at : (net : Net) (i : ℕ) → IsUpTo (length net.arcs) i → IsItem net.arcs i
arc-at net i u = record {
  item = _;
  there = item_at-there net.arcs i (record { from = 0; to = 0 }) (record { from_one = u.0; within = u.1 });
}

pub loop-at : (net : Net) (l : ℕ) → IsUpTo (length net.loops) l → IsItem net.loops l
loop-at net l u = record {
  item = _;
  there = item_at-there net.loops l (record { header = 0; bound = 0; outer = 0 })
      (record { from_one = u.0; within = u.1 });
}

up_of : {T : Type 0} (items : List T) (number : ℕ) (item : T) → item_at number items ≡ Some item →
    IsUpTo (length items) number
up_of items number item e = let within = item_at-within items number item e in (within.from_one, within.within)

-- Ways need no back arcs: who is in a loop came by its header.
ahead_header : (s : Shape) → ((l : ℕ) → s.holds l 0 ≡ false) → s.from 1 ≡ 0 → 1 ≤ s.arcs →
    ((i l : ℕ) → IsUpTo s.arcs i → IsUpTo s.loops l → s.holds l (s.from i) ≡ false →
    s.holds l (s.to i) ≡ true → s.to i ≡ s.header l) →
    (l : ℕ) → IsUpTo s.loops l → (p : ℕ) → IsAhead s p → s.holds l p ≡ true → IsAhead s (s.header l)
ahead_header s outside first some entering l u _ start held =
    subst (IsAhead s) (entering 1 l (omega (arith, some)) u
    (subst (λ (p : ℕ). s.holds l p ≡ false) (sym first) (outside l)) held) start
ahead_header s outside first some entering l u _ (along i v low forward before) held =
    elim (cases_Bool (s.holds l (s.from i))) as (λ _. IsAhead s (s.header l)) [
      | inl in_loop ↦ ahead_header s outside first some entering l u (s.from i) before in_loop
      | inr out_of ↦ subst (IsAhead s) (entering i l v u out_of held) (along i v low forward before)
    ]

module _ (net : Net) (nested : IsNested net) (depth headed : ℕ → ℕ) (depths : HasDepths net depth)
    (headers : HasHeaders net headed) where
  abbrev s : Shape
  s = shape_of net depth headed

  told : (scope number : ℕ) → (holds_of net scope number ≡ true) ↔ Holds net scope number
  told = held-told net nested

  told_not : (scope number : ℕ) → holds_of net scope number ≡ false → Holds net scope number → ⊥
  told_not scope number e held = true≢false (sym ((told scope number).1 held) ∙ e)

  arc_from : (i : ℕ) (arc : NetArc) → item_at i net.arcs ≡ Some arc → s.from i ≡ arc.from
  arc_from i arc e = ap source_of e

  arc_to : (i : ℕ) (arc : NetArc) → item_at i net.arcs ≡ Some arc → s.to i ≡ arc.to
  arc_to i arc e = ap target_of e

  loop_header : (l : ℕ) (inst : LoopInst) → item_at l net.loops ≡ Some inst → s.header l ≡ inst.header
  loop_header l inst e = ap header_of e

  starts_by : (i : ℕ) → IsUpTo s.arcs i → s.from i ≤ s.places
  starts_by i u = let arc = arc-at net i u in
      omega (
        arith,
        arc_from i arc.item arc.there,
        item_at-all (λ a. IsNumberOrZero net.places a.from) net.arcs i arc.item nested.numbers.starts arc.there,
      )

  ends_by : (i : ℕ) → IsUpTo s.arcs i → s.to i ≤ s.places
  ends_by i u = let arc = arc-at net i u in
      omega (
        arith,
        arc_to i arc.item arc.there,
        item_at-all (λ a. IsNumberOrZero net.places a.to) net.arcs i arc.item nested.numbers.ends arc.there,
      )

  only_by : (i : ℕ) → IsUpTo s.arcs i → s.from i ≡ 0 → i ≡ 1
  only_by i u e = let arc = arc-at net i u in
      nested.entered.only i arc.item arc.there (sym (arc_from i arc.item arc.there) ∙ e)

  headers_by : (l : ℕ) → IsUpTo s.loops l → IsUpTo s.places (s.header l)
  headers_by l u = let loop = loop-at net l u in
      let number = item_at-all (λ i. IsNumberOf net.places i.header) net.loops l loop.item nested.numbers.headers
      loop.there in
      omega (arith, loop_header l loop.item loop.there, number.from_one, number.within)

  headed_by : (l : ℕ) → IsUpTo s.loops l → s.headed (s.header l) ≡ l
  headed_by l u = let loop = loop-at net l u in
      ap headed (loop_header l loop.item loop.there) ∙ headers.own l loop.item loop.there

  heads_by : (p : ℕ) → 0 < s.headed p → IsUpTo s.loops (s.headed p) × (s.header (s.headed p) ≡ p)
  heads_by p some = let found = headers.only p some in
      (up_of net.loops (headed p) found.0 found.1, loop_header (headed p) found.0 found.1 ∙ found.2)

  bounds_by : (l : ℕ) → IsUpTo s.loops l → 1 ≤ s.bound l
  bounds_by l u = let loop = loop-at net l u in
      omega (
        arith,
        ap bound_of loop.there,
        item_at-all (λ i. 1 ≤ i.bound) net.loops l loop.item nested.bounds loop.there,
      )

  deep_by : (l : ℕ) → IsUpTo s.loops l → 1 ≤ s.depth l
  deep_by l u = let loop = loop-at net l u in omega (arith, depths.outward l loop.item loop.there)

  held_by : (l : ℕ) → IsUpTo s.loops l → s.holds l (s.header l) ≡ true
  held_by l u = let loop = loop-at net l u in
      (told l (s.header l)).1 (subst (Holds net l) (sym (loop_header l loop.item loop.there))
      (nested.held l loop.item loop.there))

  entering_by : (i l : ℕ) → IsUpTo s.arcs i → IsUpTo s.loops l → s.holds l (s.from i) ≡ false →
      s.holds l (s.to i) ≡ true → s.to i ≡ s.header l
  entering_by i l u v out_of in_loop = let arc = arc-at net i u in
      let loop = loop-at net l v in
      arc_to i arc.item arc.there
      ∙ nested.entering i l arc.item loop.item arc.there loop.there
      (subst (Holds net l) (arc_to i arc.item arc.there) ((told l (s.to i)).0 in_loop))
      (λ held. told_not l (s.from i) out_of (subst (Holds net l) (sym (arc_from i arc.item arc.there)) held))
      ∙ sym (loop_header l loop.item loop.there)

  own_by : (l k : ℕ) → IsUpTo s.loops l → IsUpTo s.loops k → s.holds k (s.header l) ≡ true →
      (k ≡ l) ⊎ (s.depth k < s.depth l)
  own_by l k u v e = let loop = loop-at net l u in
      let held : Holds net k loop.item.header =
      subst (Holds net k) (loop_header l loop.item loop.there) ((told k (s.header l)).0 e) in
      within-deeper net depth k l depths
      (subst (IsWithin net.loops k)
      (header-scope net nested l loop.item held.place loop.there held.there) held.within)

  line : (k l p : ℕ) → s.holds k p ≡ true → s.holds l p ≡ true → IsWithin net.loops k l ⊎ IsWithin net.loops l k
  line k l p e f = holds-line net k l p ((told k p).0 e) ((told l p).0 f)

  inside_by : (k l p q : ℕ) → IsUpTo s.loops k → IsUpTo s.loops l → s.holds k p ≡ true → s.holds l p ≡ true →
      s.depth k ≤ s.depth l → s.holds l q ≡ true → s.holds k q ≡ true
  inside_by k l p q u v e f low held =
      elim (line k l p e f) as (λ _. s.holds k q ≡ true) [
        | inl w ↦ (told k q).1 (holds-through net k l q w ((told l q).0 held))
        | inr w ↦ elim (within-deeper net depth l k depths w) as (λ _. s.holds k q ≡ true) [
          | inl same ↦ subst (λ (n : ℕ). s.holds n q ≡ true) same held
          | inr less ↦ absurd (omega (arith, less, low))
        ]
      ]

  apart_by : (k l p : ℕ) → IsUpTo s.loops k → IsUpTo s.loops l → s.holds k p ≡ true → s.holds l p ≡ true →
      s.depth k ≡ s.depth l → k ≡ l
  apart_by k l p u v e f same =
      elim (line k l p e f) as (λ _. k ≡ l) [
        | inl w ↦ elim (within-deeper net depth k l depths w) as (λ _. k ≡ l) [
          | inl is ↦ is
          | inr less ↦ absurd (omega (arith, less, same))
        ]
        | inr w ↦ elim (within-deeper net depth l k depths w) as (λ _. k ≡ l) [
          | inl is ↦ sym is
          | inr less ↦ absurd (omega (arith, less, same))
        ]
      ]

  back_told : (i : ℕ) (arc : NetArc) → item_at i net.arcs ≡ Some arc → IsBack net arc → is_back s i ≡ true
  back_told i arc there back =
      let is : target s i ≡ back.scope =
      ap headed (arc_to i arc there ∙ back.header) ∙ headers.own back.scope back.inst back.there in
      let held : Holds net back.scope (s.from i) =
      subst (Holds net back.scope) (sym (arc_from i arc there)) back.held in
      back_from (target s i) (s.holds (target s i) (s.from i))
      (omega (arith, is, up_of net.loops back.scope back.inst back.there))
      (subst (λ (l : ℕ). holds_of net l (s.from i) ≡ true) (sym is) ((told back.scope (s.from i)).1 held))

  rises_by : IsRising s nested.ranks.rank
  rises_by i u low to_low forward = let arc = arc-at net i u in
      let rise = nested.ranks.rises i arc.item arc.there
      (omega (arith, arc_from i arc.item arc.there, low))
      (omega (arith, arc_to i arc.item arc.there, to_low))
      (λ back. true≢false (sym (back_told i arc.item arc.there back) ∙ forward)) in
      omega (
        arith,
        rise,
        ap nested.ranks.rank (arc_from i arc.item arc.there),
        ap nested.ranks.rank (arc_to i arc.item arc.there),
      )

  some_by : 1 ≤ s.arcs
  some_by = omega (arith, up_of net.arcs 1 nested.entered.first.0 nested.entered.first.1)

  first_by : s.from 1 ≡ 0
  first_by = arc_from 1 nested.entered.first.0 nested.entered.first.1 ∙ nested.entered.first.2

  begins_by : 1 ≤ s.to 1
  begins_by = omega (arith, arc_to 1 nested.entered.first.0 nested.entered.first.1, nested.entered.first.3)

  ahead_step : (i : ℕ) → IsUpTo s.arcs i → 0 < s.from i → IsAhead s (s.from i) → IsAhead s (s.to i)
  ahead_step i u low before = elim (cases_Bool (is_back s i)) as (λ _. IsAhead s (s.to i)) [
    | inr forward ↦ along i u low forward before
    | inl back ↦ let parts = back_by (target s i) (s.holds (target s i) (s.from i)) back in
        let heads = heads_by (s.to i) parts.0 in
        subst (IsAhead s) heads.1
        (ahead_header s (λ l. refl) first_by some_by entering_by (target s i) heads.0 (s.from i) before parts.1)
  ]

  ahead_path : (from : ℕ) (numbers : List ℕ) (to : ℕ) → IsPath net.arcs from numbers to → IsAhead s from → IsAhead s to
  ahead_path from [] to path ahead = subst (IsAhead s) path ahead
  ahead_path from (number ∷ numbers) to path ahead =
      let arc = path.1.0 in
      let source : s.from number ≡ from = arc_from number arc path.1.1 ∙ path.1.2 in
      ahead_path arc.to numbers to path.1.3
      (subst (IsAhead s) (arc_to number arc path.1.1)
      (ahead_step number (up_of net.arcs number arc path.1.1) (omega (arith, source, path.0))
      (subst (IsAhead s) (sym source) ahead)))

  ahead_run : (numbers : List ℕ) (to : ℕ) → IsRunPath net.arcs numbers to → IsAhead s to
  ahead_run [] to path = absurd path
  ahead_run (number ∷ numbers) to path =
      let arc = path.1.0 in
      ahead_path arc.to numbers to path.1.3
      (subst (IsAhead s) (ap s.to (sym path.0) ∙ arc_to number arc path.1.1) start)

  last_by : IsUpTo s.arcs nested.left.0
  last_by = up_of net.arcs nested.left.0 nested.left.1.0 nested.left.1.1

  ends_run_by : s.to nested.left.0 ≡ 0
  ends_run_by = arc_to nested.left.0 nested.left.1.0 nested.left.1.1 ∙ nested.left.1.2

  last_low : 0 < s.from nested.left.0
  last_low = elim (cases_lt 0 (s.from nested.left.0)) as (λ _. 0 < s.from nested.left.0) [
    | inl low ↦ low
    | inr none ↦ absurd (omega (
      arith,
      ap s.to (only_by nested.left.0 last_by (omega (arith, none))),
      ends_run_by,
      begins_by,
    ))
  ]

  comes_by : IsAhead s (s.from nested.left.0)
  comes_by = let path = nested.entered.reached (s.from nested.left.0)
      (record { from_one = last_low; within = starts_by nested.left.0 last_by }) in
      ahead_run path.0 (s.from nested.left.0) path.1

  nest : IsNest s
  nest = record {
    some = some_by;
    first = first_by;
    begins = begins_by;
    only = only_by;
    starts = starts_by;
    ends = ends_by;
    headers = headers_by;
    headed = headed_by;
    heads = heads_by;
    bounds = bounds_by;
    deep = deep_by;
    held = held_by;
    outside = λ l. refl;
    entering = entering_by;
    own = own_by;
    inside = inside_by;
    apart = apart_by;
    rank = nested.ranks.rank;
    rises = rises_by;
    last = nested.left.0;
    last_up = last_by;
    ends_run = ends_run_by;
    comes = comes_by;
  }

pub shape-nest : (net : Net) (depth headed : ℕ → ℕ) → IsNested net → HasDepths net depth → HasHeaders net headed →
    IsNest (shape_of net depth headed)
shape-nest net depth headed nested depths headers = nest net nested depth headed depths headers

-- Of a scope the one of a depth round it, by its own depth.
up_same : (deep depth scope next : ℕ) → deep ≡ depth → cond (deep == depth) scope (cond (nat_lt depth deep) next 0) ≡ scope
up_same deep depth scope next e = grind (arith, nat_tests)

up_next : (deep depth scope next : ℕ) → depth < deep → cond (deep == depth) scope (cond (nat_lt depth deep) next 0) ≡ next
up_next deep depth scope next less = grind (arith, nat_tests)

up_none : (deep depth scope next : ℕ) → deep < depth → cond (deep == depth) scope (cond (nat_lt depth deep) next 0) ≡ 0
up_none deep depth scope next less = grind (arith, nat_tests)

-- A scope of the depth is found from each scope within it.
up_found : (net : Net) (depths : ℕ → ℕ) (depth : ℕ) (up : ℕ → ℕ) → AreUp net depths depth up → HasDepths net depths →
    (outer scope : ℕ) (inst : LoopInst) → item_at outer net.loops ≡ Some inst → depths outer ≡ depth →
    IsWithin net.loops outer scope → up scope ≡ outer
up_found net depths depth up are has outer _ inst there deep here =
    are.outward outer inst there ∙ up_same (depths outer) depth outer (up inst.outer) deep
up_found net depths depth up are has outer _ inst there deep (out scope below at w) =
    are.outward scope below at
    ∙ up_next (depths scope) depth scope (up below.outer)
    (elim (within-deeper net depths outer below.outer has w) as (λ _. depth < depths scope) [
      | inl same ↦ omega (arith, ap depths same, deep, has.outward scope below at)
      | inr less ↦ omega (arith, less, deep, has.outward scope below at)
    ])
    ∙ up_found net depths depth up are has outer below.outer inst there deep w

-- What is found is a scope of the depth round the scope.
pub record IsFound (net : Net) (depths : ℕ → ℕ) (depth found scope : ℕ) : Type 0 where
  pub up : IsUpTo (length net.loops) found
  pub deep : depths found ≡ depth
  pub within : IsWithin net.loops found scope

up_right : (net : Net) (depths : ℕ → ℕ) (depth : ℕ) (up : ℕ → ℕ) → AreUp net depths depth up → HasDepths net depths →
    (scope : ℕ) → IsWithin net.loops 0 scope → 0 < up scope → IsFound net depths depth (up scope) scope
up_right net depths depth up are has _ here some = absurd (omega (arith, some, are.run))
up_right net depths depth up are has _ (out scope inst there w) some =
    by (up_right net depths depth up are has inst.outer w) (cases_order (depths scope) depth)
  where
    by : (0 < up inst.outer → IsFound net depths depth (up inst.outer) inst.outer) →
        (depths scope ≡ depth) ⊎ ((depths scope < depth) ⊎ (depth < depths scope)) →
        IsFound net depths depth (up scope) scope
    by next (inl e) =
        let is : up scope ≡ scope = are.outward scope inst there
        ∙ up_same (depths scope) depth scope (up inst.outer) e in
        subst (λ (n : ℕ). IsFound net depths depth n scope) (sym is)
        (record { up = up_of net.loops scope inst there; deep = e; within = here })
    by next (inr (inl less)) =
        absurd (omega (
          arith,
          some,
          are.outward scope inst there,
          up_none (depths scope) depth scope (up inst.outer) less,
        ))
    by next (inr (inr less)) =
        let is : up scope ≡ up inst.outer = are.outward scope inst there
        ∙ up_next (depths scope) depth scope (up inst.outer) less in
        let found = next (omega (arith, some, is)) in
        subst (λ (n : ℕ). IsFound net depths depth n scope) (sym is)
        (record { up = found.up; deep = found.deep; within = out scope inst there found.within })

round_here : (net : Net) (depths headed : ℕ → ℕ) (depth : ℕ) (up : ℕ → ℕ) → IsNested net → HasDepths net depths →
    AreUp net depths depth up → (p : ℕ) (found : Option Place) → item_at p net.places ≡ found →
    0 < up (scope_of found) →
    IsUpTo (length net.loops) (up (scope_of found)) × (depths (up (scope_of found)) ≡ depth)
    × (holds_of net (up (scope_of found)) p ≡ true)
round_here net depths headed depth up nested has are p None e some = absurd (omega (arith, some, are.run))
round_here net depths headed depth up nested has are p (Some place) e some =
    let inside : IsWithin net.loops 0 place.scope =
    within-zero net.loops nested.scopes.loops nested.scopes.chains place.scope
    (item_at-all (λ q. IsNumberOrZero net.loops q.scope) net.places p place nested.scopes.places e) in
    let found = up_right net depths depth up are has place.scope inside some in (
      found.up,
      found.deep,
      (held-told net nested (up place.scope) p).1
          (record { place = place; there = e; within = found.within }),
    )

pub round-up : (net : Net) (depths headed : ℕ → ℕ) (depth : ℕ) (up : ℕ → ℕ) → IsNested net → HasDepths net depths →
    AreUp net depths depth up → IsRound (shape_of net depths headed) depth (round_by net up)
round-up net depths headed depth up nested has are =
    record {
      here = λ p some. round_here net depths headed depth up nested has are p (item_at p net.places) refl some;
      all = λ l p u deep held. by l p u deep ((held-told net nested l p).0 held);
    }
  where
    by : (l p : ℕ) → IsUpTo (length net.loops) l → depths l ≡ depth → Holds net l p → round_by net up p ≡ l
    by l p u deep held = let loop = loop-at net l u in
        ap (λ (found : Option Place). up (scope_of found)) held.there
        ∙ up_found net depths depth up are has l held.place.scope loop.item loop.there deep held.within

-- A scope is hardly deeper than there are loops.
depth_around : (net : Net) (depths : ℕ → ℕ) → HasScopes net → HasDepths net depths → (scope : ℕ) →
    IsWithin net.loops 0 scope → depths scope ≤ around net.loops (length net.loops + 1) scope
depth_around net depths scopes has _ here = omega (arith, has.run)
depth_around net depths scopes has _ (out scope inst there w) =
    omega (
      arith,
      has.outward scope inst there,
      depth_around net depths scopes has inst.outer w,
      around-outward net.loops scopes.loops scopes.chains scope inst there,
    )

pub depth-small : (net : Net) (depths : ℕ → ℕ) (scope : ℕ) → HasScopes net → HasDepths net depths →
    IsNumberOrZero net.loops scope → depths scope ≤ length net.loops + 1
depth-small net depths scope scopes has inside =
    omega (
      arith,
      depth_around net depths scopes has scope
          (within-zero net.loops scopes.loops scopes.chains scope inside),
      around_small net.loops (length net.loops + 1) scope,
    )
