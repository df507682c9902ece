-- The scopes that arcs leave: a walk outward from the innermost scope of the start to the innermost one that holds both ends.
use Rattle.std.specs.Prelude.{◌≡◌, ℕ, zero, suc, ◌+◌, ◌<◌, ◌≤◌, List, [], ◌∷◌, ◌++◌, length, All, AllPairs, Contains, Some}
use Rattle.std.proofs.Common.{◌⊎◌, arith, get_or, inl, inr, subst, sym}
use Rattle.std.proofs.lemmas.Bool.{cases_eq}
use Rattle.std.proofs.lemmas.List.Elements.{Contains-append_left, Contains-get_or, Contains-push, Contains-push_cases}
use Rattle.std.proofs.lemmas.List.Quantifiers.{all_pairs_push}
use Rattle.std.proofs.lemmas.List.{length_push}
use Rattle.std.proofs.lemmas.Option.{none-some}
use Rattle.flow_net.specs.Entering.{IsOutside}
use Rattle.flow_net.specs.Nested.{IsNested}
use Rattle.flow_net.specs.Numbers.{IsNumberOf, IsNumberOrZero, item_at}
use Rattle.flow_net.specs.Scopes.{ChainsEnd, Holds, IsInside, IsWithin}
use Rattle.flow_net.specs.Scopes.IsWithin.{here, out}
use Rattle.flow_net.specs.declared.net.LoopInst.{LoopInst}
use Rattle.flow_net.specs.declared.net.Net.{Net}
use Rattle.flow_net.specs.declared.net.NetArc.{NetArc}
use Rattle.flow_net.specs.declared.net.Place.{Place}
use Rattle.flow_net.proofs.Headers.{comes-enters}
use Rattle.flow_net.proofs.Holds.{holds-decided, holds-line, holds-place, holds-run, holds-through, holds-zero}
use Rattle.flow_net.proofs.Numbers.{item_at-all, item_at-same, item_at-there}
use Rattle.flow_net.proofs.Within.{within-cases, within-next, within-through}
use Rattle.net_tables.specs.Crossings.{AreBetween, AreLeft, IsShared}
use Rattle.net_tables.proofs.Entered.{entered-own, pushed-at, start-number}

-- ---- What lies inside a scope isn't round it.
deeper : (loops : List LoopInst) (chains : ChainsEnd loops) (outer scope : ℕ) → IsWithin loops outer scope →
    chains.depth outer ≤ chains.depth scope
deeper loops chains outer _ here = omega arith
deeper loops chains outer _ (out scope inst there within) =
    omega (arith, deeper loops chains outer inst.outer within, chains.falls scope inst there)

inside-apart : (loops : List LoopInst) → ChainsEnd loops → (outer scope : ℕ) → IsInside loops outer scope →
    IsWithin loops scope outer → ⊥
inside-apart loops chains outer scope inside within =
    omega (
      arith,
      deeper loops chains outer inside.inst.outer inside.within,
      chains.falls scope inside.inst inside.there,
      deeper loops chains scope outer within,
    )

-- ---- The walk outward: the scopes so far, and the one that it has come to.
pub record IsWalked (loops : List LoopInst) (inner outer around : ℕ) (scopes : List ℕ) : Type 0 where
  pub number : around ≤ length loops
  pub onward : IsWithin loops around inner
  pub left : IsWithin loops outer around
  pub done : (scope : ℕ) → IsWithin loops scope inner → Contains scopes scope ⊎ IsWithin loops scope around
  pub only : (scope : ℕ) → Contains scopes scope → IsWithin loops scope inner × IsInside loops around scope
  pub outward : AllPairs (λ inside outside. IsInside loops outside inside) scopes

nothing-in : (n : ℕ) → Contains [] n → ⊥
nothing-in n (at, less, same) = omega (arith, less)

pub walk-begins : (loops : List LoopInst) (inner outer : ℕ) → inner ≤ length loops → IsWithin loops outer inner →
    IsWalked loops inner outer inner []
walk-begins loops inner outer inside within = record {
  number = inside;
  onward = here;
  left = within;
  done = λ scope w. inr w;
  only = λ scope among. absurd (nothing-in scope among);
  outward = λ i j d before among. absurd (omega (arith, among));
}

pub walk-goes : (loops : List LoopInst) (inner outer around : ℕ) (inst : LoopInst) (scopes : List ℕ) →
    All (λ i. IsNumberOrZero loops i.outer) loops → item_at around loops ≡ Some inst → (around ≡ outer → ⊥) →
    IsWalked loops inner outer around scopes → IsWalked loops inner outer inst.outer (scopes ++ around ∷ [])
walk-goes loops inner outer around inst scopes numbers there differ walked = record {
  number = item_at-all (λ (i : LoopInst). IsNumberOrZero loops i.outer) loops around inst numbers there;
  onward = within-through loops inst.outer around inner step walked.onward;
  left = within-next loops outer around inst there differ walked.left;
  done = λ scope w. elim (walked.done scope w)
      as (λ _. Contains (scopes ++ around ∷ []) scope ⊎ IsWithin loops scope inst.outer) [
        | inl among ↦ inl (Contains-append_left scopes (around ∷ []) scope among)
        | inr round ↦ further scope (within-cases loops scope around round)
      ];
  only = λ scope among. elim (Contains-push_cases scopes around scope among)
      as (λ _. IsWithin loops scope inner × IsInside loops inst.outer scope) [
        | inl old ↦
            let was = walked.only scope old in (
              was.0,
              record {
                inst = was.1.inst;
                there = was.1.there;
                within = within-through loops inst.outer around was.1.inst.outer step was.1.within;
              },
            )
        | inr same ↦ subst (λ (s : ℕ). IsWithin loops s inner × IsInside loops inst.outer s) same
            (walked.onward, record { inst = inst; there = there; within = here })
      ];
  outward = all_pairs_push (λ inside outside. IsInside loops outside inside) scopes around walked.outward
      (λ k d less. (walked.only (get_or scopes k d) (Contains-get_or scopes k d less)).1);
}
  where
    step : IsWithin loops inst.outer around
    step = out around inst there here

    further : (scope : ℕ) → (around ≡ scope) ⊎ IsInside loops scope around →
        Contains (scopes ++ around ∷ []) scope ⊎ IsWithin loops scope inst.outer
    further scope (inl e) = inl (subst (Contains (scopes ++ around ∷ [])) e (Contains-push scopes around))
    further scope (inr below) = inr (subst (λ (i : LoopInst). IsWithin loops scope i.outer)
        (item_at-same loops around below.inst inst below.there there) below.within)

pub walk-inside : (loops : List LoopInst) (inner outer around : ℕ) (scopes : List ℕ) → (around ≡ outer → ⊥) →
    IsWalked loops inner outer around scopes → IsNumberOf loops around
walk-inside loops inner outer zero scopes differ walked = absurd (none (within-cases loops outer 0 walked.left))
  where
    none : (0 ≡ outer) ⊎ IsInside loops outer 0 → ⊥
    none (inl e) = differ e
    none (inr below) = none-some below.inst below.there
walk-inside loops inner outer (suc below) scopes differ walked =
    record { from_one = omega arith; within = walked.number }

pub walk-ends : (loops : List LoopInst) (inner outer around : ℕ) (scopes : List ℕ) → ChainsEnd loops → around ≡ outer →
    IsWalked loops inner outer around scopes → AreBetween loops inner outer scopes
walk-ends loops inner outer around scopes chains same walked = record {
  each = λ scope. (
    λ among.
        let is = walked.only scope among in (is.0, subst (λ (o : ℕ). IsInside loops o scope) same is.1),
    λ is. elim (walked.done scope is.0) as (λ _. Contains scopes scope) [
      | inl among ↦ among
      | inr round ↦ absurd (inside-apart loops chains outer scope is.1
          (subst (λ (o : ℕ). IsWithin loops scope o) same round))
    ],
  );
  outward = walked.outward;
}

-- ---- The innermost scope that holds both ends of an arc.
pub shared-own : (net : Net) (arc : NetArc) (place : Place) → item_at arc.to net.places ≡ Some place →
    Holds net place.scope arc.from → IsShared net arc.from arc.to place.scope
shared-own net arc place at held = record {
  start = held;
  end = record { place = place; there = at; within = here };
  innermost = λ scope from to. holds-place net scope arc.to place at to;
}

pub shared-outer : (net : Net) → IsNested net → (number : ℕ) (arc : NetArc) (place : Place) (inst : LoopInst) →
    item_at number net.arcs ≡ Some arc → item_at arc.to net.places ≡ Some place →
    item_at place.scope net.loops ≡ Some inst → 0 < arc.from → IsOutside net place.scope arc.from →
    IsShared net arc.from arc.to inst.outer
shared-outer net nested number arc place inst there at also some outside = record {
  start = elim (holds-decided net inst.outer arc.from nested.scopes.chains) as (λ _. Holds net inst.outer arc.from) [
    | inl held ↦ held
    | inr apart ↦ absurd (elim (cases_eq inst.outer 0) as (λ _. ⊥) [
      | inl e ↦ apart (subst (λ (n : ℕ). Holds net n arc.from) (sym e) run_holds)
      | inr differ ↦
          let own = entered-own net nested inst.outer number (omega (arith, differ))
          (comes-enters net nested inst.outer number
          (item_at-all (λ (i : LoopInst). IsNumberOrZero net.loops i.outer) net.loops place.scope inst nested.scopes.loops also)
          (record { arc = arc; there = there; outside = apart; inside = outer_holds }))
          arc place there at in
          outer_differs own
    ])
  ];
  end = outer_holds;
  innermost = λ scope from to. within-next net.loops scope place.scope inst also
      (λ e. outside (subst (λ (n : ℕ). Holds net n arc.from) (sym e) from))
      (holds-place net scope arc.to place at to);
}
  where
    outer_holds : Holds net inst.outer arc.to
    outer_holds = record { place = place; there = at; within = out place.scope inst also here }

    run_holds : Holds net 0 arc.from
    run_holds =
        holds-run net arc.from _ nested (item_at-there net.places arc.from
        (record { context = 0; address = 0; scope = 0 })
        (start-number net nested number arc there some))

    outer_differs : place.scope ≡ inst.outer → ⊥
    outer_differs e =
        inside-apart net.loops nested.scopes.chains inst.outer place.scope
        (record { inst = inst; there = also; within = here })
        (subst (λ (n : ℕ). IsWithin net.loops place.scope n) e here)

-- The arc that an index reads is the one of its number.
pub shared-read : (net : Net) (number : ℕ) (read arc : NetArc) (shared : ℕ) → item_at number net.arcs ≡ Some read →
    item_at number net.arcs ≡ Some arc → IsShared net read.from read.to shared → IsShared net arc.from arc.to shared
shared-read net number read arc shared there also is =
    subst (λ (a : NetArc). IsShared net a.from a.to shared) (item_at-same net.arcs number read arc there also) is

-- A scope that doesn't hold the start of an arc between places is a loop instance.
pub outside-loop : (net : Net) → IsNested net → (number : ℕ) (arc : NetArc) (scope : ℕ) → item_at number net.arcs ≡ Some arc →
    0 < arc.from → IsNumberOrZero net.loops scope → IsOutside net scope arc.from → IsNumberOf net.loops scope
outside-loop net nested number arc zero there some inside outside =
    absurd (outside (holds-run net arc.from _ nested
    (item_at-there net.places arc.from (record { context = 0; address = 0; scope = 0 })
    (start-number net nested number arc there some))))
outside-loop net nested number arc (suc below) there some inside outside =
    record { from_one = omega arith; within = inside }

-- ---- What an arc leaves.
pub left-none : (net : Net) (number : ℕ) (arc : NetArc) → item_at number net.arcs ≡ Some arc → arc.from ≡ 0 →
    AreLeft net number []
left-none net number arc there start = record {
  left = λ scope. (
    λ among. absurd (nothing-in scope among),
    λ leaves. absurd (holds-zero net scope
        (subst (Holds net scope) start
        (subst (λ (a : NetArc). Holds net scope a.from)
        (item_at-same net.arcs number leaves.arc arc leaves.there there) leaves.inside))),
  );
  outward = λ i j d before among. absurd (omega (arith, among));
}

pub left-between : (net : Net) → IsNested net → (number : ℕ) (arc : NetArc) (place : Place) (shared : ℕ) (scopes : List ℕ) →
    item_at number net.arcs ≡ Some arc → item_at arc.from net.places ≡ Some place → IsShared net arc.from arc.to shared →
    AreBetween net.loops place.scope shared scopes → AreLeft net number scopes
left-between net nested number arc place shared scopes there at is are = record {
  left = λ scope. (
    λ among.
        let between = (are.each scope).0 among in
        record {
          arc = arc;
          there = there;
          inside = record { place = place; there = at; within = between.0 };
          outside = λ held. inside-apart net.loops nested.scopes.chains shared scope between.1
              (is.innermost scope (record { place = place; there = at; within = between.0 }) held);
        },
    λ leaves.
        let same = item_at-same net.arcs number leaves.arc arc leaves.there there in
        let inside = subst (λ (a : NetArc). Holds net scope a.from) same leaves.inside in
        let outside = subst (λ (a : NetArc). IsOutside net scope a.to) same leaves.outside in
        (are.each scope).1 (
          holds-place net scope arc.from place at inside,
          below scope outside
              (holds-line net scope shared arc.from inside is.start),
        ),
  );
  outward = are.outward;
}
  where
    below : (scope : ℕ) → IsOutside net scope arc.to →
        IsWithin net.loops scope shared ⊎ IsWithin net.loops shared scope → IsInside net.loops shared scope
    below scope outside (inl round) = absurd (outside (holds-through net scope shared arc.to round is.end))
    below scope outside (inr within) = elim (within-cases net.loops shared scope within) as (λ _. IsInside net.loops shared scope) [
      | inl same ↦ absurd (outside (subst (λ (n : ℕ). Holds net n arc.to) (sym same) is.end))
      | inr inside ↦ inside
    ]

-- An arc to 0 leaves all scopes that hold its start, the run at last.
pub left-all : (net : Net) → IsNested net → (number : ℕ) (arc : NetArc) (place : Place) (scopes : List ℕ) →
    item_at number net.arcs ≡ Some arc → item_at arc.from net.places ≡ Some place → arc.to ≡ 0 →
    AreBetween net.loops place.scope 0 scopes → AreLeft net number (scopes ++ 0 ∷ [])
left-all net nested number arc place scopes there at end are = record {
  left = λ scope. (
    λ among.
        record {
          arc = arc;
          there = there;
          inside = elim (Contains-push_cases scopes 0 scope among) as (λ _. Holds net scope arc.from) [
            | inl old ↦ record { place = place; there = at; within = ((are.each scope).0 old).0 }
            | inr same ↦ subst (λ (n : ℕ). Holds net n arc.from) same run_holds
          ];
          outside = λ held. holds-zero net scope (subst (Holds net scope) end held);
        },
    λ leaves.
        let same = item_at-same net.arcs number leaves.arc arc leaves.there there in
        let inside = subst (λ (a : NetArc). Holds net scope a.from) same leaves.inside in
        among scope inside (holds-line net scope 0 arc.from inside run_holds),
  );
  outward = all_pairs_push (λ inner outer. IsInside net.loops outer inner) scopes 0 are.outward
      (λ k d less. ((are.each (get_or scopes k d)).0 (Contains-get_or scopes k d less)).1);
}
  where
    run_holds : Holds net 0 arc.from
    run_holds = holds-run net arc.from place nested at

    none : (scope : ℕ) → (0 ≡ scope) ⊎ IsInside net.loops scope 0 → 0 ≡ scope
    none scope (inl e) = e
    none scope (inr below) = absurd (none-some below.inst below.there)

    listed : (scope : ℕ) → Holds net scope arc.from → (scope ≡ 0) ⊎ IsInside net.loops 0 scope →
        Contains (scopes ++ 0 ∷ []) scope
    listed scope inside (inl e) = subst (Contains (scopes ++ 0 ∷ [])) (sym e) (Contains-push scopes 0)
    listed scope inside (inr below) = Contains-append_left scopes (0 ∷ []) scope
        ((are.each scope).1 (holds-place net scope arc.from place at inside, below))

    among : (scope : ℕ) → Holds net scope arc.from → IsWithin net.loops scope 0 ⊎ IsWithin net.loops 0 scope →
        Contains (scopes ++ 0 ∷ []) scope
    among scope inside (inl round) = listed scope inside (inl (sym (none scope (within-cases net.loops scope 0 round))))
    among scope inside (inr within) = listed scope inside (within-cases net.loops 0 scope within)

-- ---- The arcs so far.
pub record AreLeftSoFar (net : Net) (index : ℕ) (lists : List (List ℕ)) : Type 0 where
  pub size : length lists ≡ index
  pub each : (number : ℕ) (scopes : List ℕ) → item_at number lists ≡ Some scopes → AreLeft net number scopes

pub left-more : (net : Net) (index : ℕ) (lists : List (List ℕ)) (scopes : List ℕ) → AreLeft net (index + 1) scopes →
    AreLeftSoFar net index lists → AreLeftSoFar net (index + 1) (lists ++ scopes ∷ [])
left-more net index lists scopes is are = record {
  size = omega (arith, length_push lists scopes, are.size);
  each = λ number other there. elim (pushed-at lists scopes number other there) as (λ _. AreLeft net number other) [
    | inl old ↦ are.each number other old
    | inr new ↦
        let same : index + 1 ≡ number = omega (arith, new.0, are.size) in
        subst (λ (n : ℕ). AreLeft net n other) same
        (subst (λ (s : List ℕ). AreLeft net (index + 1) s) new.1 is)
  ];
}
