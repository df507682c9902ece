-- The scopes of a depth round others, found level by level.
use Rattle.std.proofs.Common.{◌≡◌, ◌⊎◌, ℕ, ◌+◌, ◌-◌, ◌<◌, ◌≤◌, length, get_or, Some, Option, sym, ap, ◌∙◌, subst, inl, inr, arith}
use Rattle.std.proofs.lemmas.Bool.{cases_eq, cases_lt}
use Rattle.flow_net.specs.Numbers.{item_at}
use Rattle.flow_net.specs.declared.net.LoopInst.{LoopInst}
use Rattle.flow_net.specs.declared.net.Net.{Net}
use Rattle.flow_net.proofs.Numbers.{item_at-within, item_at-same}
use Rattle.nest_solver.specs.Groups.{AreGrouped}
use Rattle.nest_solver.specs.Nets.{AreUp, HasDepths, outer_of, up_step}
use Rattle.nest_solver.specs.Shape.{IsUpTo}
use Rattle.nest_solver.specs.Up.{AreRight}
use Rattle.nest_solver.proofs.Deeps.{inst_at, no_inst}
use Rattle.nest_solver.proofs.Puts.{Puts}

-- A loop instance isn't as deep as the next scope outward.
outer_other : (net : Net) (depths : ℕ → ℕ) → HasDepths net depths → (scope n level : ℕ) (inst : LoopInst) →
    item_at scope net.loops ≡ Some inst → depths n ≡ level → depths scope ≤ level → inst.outer ≡ n → ⊥
outer_other net depths has scope n level inst there deep less same =
    omega (arith, has.outward scope inst there, ap depths same, deep, less)

pub right-more : (net : Net) (depths heads next up up2 : ℕ → ℕ) (depth level n : ℕ) → HasDepths net depths →
    AreGrouped depths (length net.loops + 1) heads next → IsUpTo (length net.loops) n → depths n ≡ level →
    AreRight net depths depth up level n →
    Puts up up2 n (up_step (depths n) depth n (up (outer_of (item_at n net.loops)))) →
    AreRight net depths depth up2 level (next n)
right-more net depths heads next up up2 depth level n has chains number deep were puts =
    by (get_or net.loops (n - 1) no_inst) (inst_at net.loops n number)
    (subst (λ (found : Option LoopInst). Puts up up2 n (up_step (depths n) depth n (up (outer_of found))))
    (inst_at net.loops n number) puts)
  where
    by : (last : LoopInst) → item_at n net.loops ≡ Some last →
        Puts up up2 n (up_step (depths n) depth n (up last.outer)) → AreRight net depths depth up2 level (next n)
    by last there puts = record { found = found }
      where
        same_outer : (scope : ℕ) (inst : LoopInst) → item_at scope net.loops ≡ Some inst → depths scope ≤ level →
            up2 inst.outer ≡ up inst.outer
        same_outer scope inst e less =
            puts.others inst.outer (outer_other net depths has scope n level inst e deep less)

        at_last : (inst : LoopInst) → item_at n net.loops ≡ Some inst →
            up2 n ≡ up_step (depths n) depth n (up2 inst.outer)
        at_last inst e = puts.here
            ∙ ap (λ (i : LoopInst). up_step (depths n) depth n (up i.outer)) (item_at-same net.loops n last inst there e)
            ∙ ap (λ (k : ℕ). up_step (depths n) depth n k) (sym (same_outer n inst e (omega (arith, deep))))

        other : (scope : ℕ) (inst : LoopInst) → item_at scope net.loops ≡ Some inst → (scope ≡ n → ⊥) →
            depths scope ≤ level → ((depths scope < level) ⊎ ((depths scope ≡ level) × (n < scope))) →
            up2 scope ≡ up_step (depths scope) depth scope (up2 inst.outer)
        other scope inst e differ less done = puts.others scope differ ∙ were.found scope inst e done
            ∙ ap (λ (k : ℕ). up_step (depths scope) depth scope k) (sym (same_outer scope inst e less))

        above : (scope : ℕ) (inst : LoopInst) → item_at scope net.loops ≡ Some inst →
            ((depths scope ≡ level) × (next n < scope)) → (scope ≡ n → ⊥) → n < scope
        above scope inst e more differ = elim (cases_lt n scope) as (λ _. n < scope) [
          | inl high ↦ high
          | inr low ↦ absurd (omega (
            arith,
            more,
            chains.next_most n scope number.0 (omega (arith, number))
                (item_at-within net.loops scope inst e).from_one (omega (arith, low, differ)) (more.0 ∙ sym deep),
          ))
        ]

        found : (scope : ℕ) (inst : LoopInst) → item_at scope net.loops ≡ Some inst →
            ((depths scope < level) ⊎ ((depths scope ≡ level) × (next n < scope))) →
            up2 scope ≡ up_step (depths scope) depth scope (up2 inst.outer)
        found scope inst e (inl less) =
            other scope inst e (λ same. omega (arith, ap depths same, deep, less)) (omega (arith, less)) (inl less)
        found scope inst e (inr more) = elim (cases_eq scope n)
            as (λ _. up2 scope ≡ up_step (depths scope) depth scope (up2 inst.outer)) [
              | inl same ↦ subst (λ (k : ℕ). up2 k ≡ up_step (depths k) depth k (up2 inst.outer)) (sym same)
                  (at_last inst (subst (λ (k : ℕ). item_at k net.loops ≡ Some inst) same e))
              | inr differ ↦ other scope inst e differ (omega (arith, more)) (inr (more.0, above scope inst e more differ))
            ]

-- The head of a level's chain is next; behind the chain all of the level are found.
pub right-first : (net : Net) (depths heads next up : ℕ → ℕ) (depth level : ℕ) →
    AreGrouped depths (length net.loops + 1) heads next → AreRight net depths depth up level (length net.loops) →
    AreRight net depths depth up level (heads level)
right-first net depths heads next up depth level chains were = record {
  found = λ scope inst e done. elim done
      as (λ _. up scope ≡ up_step (depths scope) depth scope (up inst.outer)) [
        | inl less ↦ were.found scope inst e (inl less)
        | inr more ↦
            let number = item_at-within net.loops scope inst e in
            absurd (omega (
              arith,
              more,
              chains.first_most scope number.from_one (omega (arith, number.within)),
              ap heads more.0,
            ))
      ];
}

pub right-next : (net : Net) (depths up : ℕ → ℕ) (depth level : ℕ) → AreRight net depths depth up level 0 →
    AreRight net depths depth up (level + 1) (length net.loops)
right-next net depths up depth level were = record {
  found = λ scope inst e done.
      let number = item_at-within net.loops scope inst e in
      elim done as (λ _. up scope ≡ up_step (depths scope) depth scope (up inst.outer)) [
        | inl less ↦ elim (cases_eq (depths scope) level)
            as (λ _. up scope ≡ up_step (depths scope) depth scope (up inst.outer)) [
              | inl same ↦ were.found scope inst e (inr (same, number.from_one))
              | inr differ ↦ were.found scope inst e (inl (omega (arith, less, differ)))
            ]
        | inr more ↦ absurd (omega (arith, more, number.within))
      ];
}

-- The run has depth 0, so no loop instance is found before level 1.
pub right-none : (net : Net) (depths up : ℕ → ℕ) (depth : ℕ) → HasDepths net depths →
    AreRight net depths depth up 1 (length net.loops)
right-none net depths up depth has = record {
  found = λ scope inst e done.
      let number = item_at-within net.loops scope inst e in
      elim done as (λ _. up scope ≡ up_step (depths scope) depth scope (up inst.outer)) [
        | inl less ↦ absurd (omega (arith, less, has.outward scope inst e))
        | inr more ↦ absurd (omega (arith, more, number.within))
      ];
}

pub right-all : (net : Net) (depths up : ℕ → ℕ) (depth level : ℕ) → ((scope : ℕ) → depths scope < level) →
    up 0 ≡ 0 → AreRight net depths depth up level (length net.loops) → AreUp net depths depth up
right-all net depths up depth level enough run right = record {
  run = run;
  outward = λ scope inst e. right.found scope inst e (inl (enough scope));
}

-- Where the chain of a key begins, and where it goes on.
pub chain-first : (n k : ℕ) (key heads next : ℕ → ℕ) → AreGrouped key (n + 1) heads next →
    (heads k ≤ n) × (0 < heads k → key (heads k) ≡ k)
chain-first n k key heads next chains = elim (cases_eq (heads k) 0)
    as (λ _. (heads k ≤ n) × (0 < heads k → key (heads k) ≡ k)) [
      | inl none ↦ (omega (arith, none), λ some. absurd (omega (arith, none, some)))
      | inr some ↦ (omega (arith, chains.first_low k (omega (arith, some))), chains.first_key k)
    ]

pub chain-next : (n i : ℕ) (key heads next : ℕ → ℕ) → IsUpTo n i → AreGrouped key (n + 1) heads next →
    (next i ≤ n) × (0 < next i → key (next i) ≡ key i)
chain-next n i key heads next up chains =
    (omega (arith, up, chains.next_less i up.0 (omega (arith, up))), chains.next_key i up.0 (omega (arith, up)))
