-- Depths by chains: each scope has one, and a table of them has what tells depths.
use Rattle.std.proofs.Common.{◌≡◌, ℕ, zero, suc, ◌+◌, ◌-◌, ◌<◌, ◌≤◌, List, length, Some, None, Option, refl, sym, ap, ◌∙◌, subst, arith, get_or}
use Rattle.std.proofs.lemmas.Option.{none-some}
use Rattle.flow_net.specs.Numbers.{item_at}
use Rattle.flow_net.specs.Nested.{IsNested}
use Rattle.flow_net.specs.declared.net.LoopInst.{LoopInst}
use Rattle.flow_net.specs.declared.net.Net.{Net}
use Rattle.flow_net.proofs.Numbers.{item_at-within, item_at-there, item_at-same, item_at-all}
use Rattle.flow_net.proofs.Chains.{around, around-outward, from_next}
use Rattle.nest_solver.specs.Depths.{IsDeep}
use Rattle.nest_solver.specs.Depths.IsDeep.{run, inner}
use Rattle.nest_solver.specs.Nets.{HasDepths, entry, outer_of}
use Rattle.nest_solver.specs.Shape.{IsUpTo}

pub no_inst : LoopInst
no_inst = record { header = 0; bound = 0; outer = 0 }

pub inst_at : (loops : List LoopInst) (scope : ℕ) → IsUpTo (length loops) scope →
    item_at scope loops ≡ Some (get_or loops (scope - 1) no_inst)
inst_at loops scope up = item_at-there loops scope no_inst (record { from_one = up.0; within = up.1 })

deep_zero : (loops : List LoopInst) (n : ℕ) → IsDeep loops 0 n → n ≡ 0
deep_zero loops _ run = refl
deep_zero loops _ (inner _ depth inst there deep) = absurd (none-some inst there)

-- What lies behind the run tells nothing more.
deep_next : (loops : List LoopInst) (scope n : ℕ) (inst : LoopInst) → item_at scope loops ≡ Some inst →
    IsDeep loops scope n → (m : ℕ) × (n ≡ suc m) × IsDeep loops inst.outer m
deep_next loops _ _ inst there run = absurd (none-some inst there)
deep_next loops _ _ inst there (inner scope depth other also deep) = (
  depth,
  refl,
  subst (λ (i : LoopInst). IsDeep loops i.outer depth)
      (item_at-same loops scope other inst also there) deep,
)

pub deep-same : (loops : List LoopInst) (scope n m : ℕ) → IsDeep loops scope n → IsDeep loops scope m → n ≡ m
deep-same loops _ _ m run d = sym (deep_zero loops m d)
deep-same loops _ _ m (inner scope depth inst there deep) d =
    let next = deep_next loops scope m inst there d in
    ap suc (deep-same loops inst.outer depth next.0 deep next.2) ∙ sym next.1

-- A table whose entries are the depths of scopes.
pub deep-depths : (net : Net) (table : List ℕ) →
    ((scope : ℕ) → scope ≤ length net.loops → IsDeep net.loops scope (entry table scope)) →
    ((scope : ℕ) (inst : LoopInst) → item_at scope net.loops ≡ Some inst → inst.outer ≤ length net.loops) →
    HasDepths net (entry table)
deep-depths net table deep within = record {
  run = deep_zero net.loops (entry table 0) (deep 0 (omega arith));
  outward = λ scope inst there.
      let number = item_at-within net.loops scope inst there in
      let next = deep_next net.loops scope (entry table scope) inst there (deep scope number.within) in
      next.1 ∙ ap suc (deep-same net.loops inst.outer next.0 (entry table inst.outer) next.2
      (deep inst.outer (within scope inst there)));
}

-- How many scopes lie round one, counted from the list.
abbrev pub all_round : List LoopInst → ℕ → ℕ
all_round loops scope = around loops (length loops + 1) scope

from_small : (loops : List LoopInst) (n : ℕ) → ((scope : ℕ) → around loops n scope ≤ n) → (found : Option LoopInst) →
    from_next (around loops n) found ≤ suc n
from_small loops n small None = omega arith
from_small loops n small (Some inst) = omega (arith, small inst.outer)

pub around-small : (loops : List LoopInst) (n scope : ℕ) → around loops n scope ≤ n
around-small loops zero scope = omega arith
around-small loops (suc n) scope = from_small loops n (λ s. around-small loops n s) (item_at scope loops)

-- The walk outward from one scope has come to another one, which lies less deep by so many.
pub record HasCome (loops : List LoopInst) (start scope depth : ℕ) : Type 0 where
  pub number : scope ≤ length loops
  pub deeper : (n : ℕ) → IsDeep loops scope n → IsDeep loops start (depth + n)
  pub left : depth + all_round loops scope ≤ length loops + 1

pub come-first : (loops : List LoopInst) (start : ℕ) → start ≤ length loops → HasCome loops start start 0
come-first loops start number = record {
  number = number;
  deeper = λ n deep. subst (λ (k : ℕ). IsDeep loops start k) (omega arith) deep;
  left = omega (arith, around-small loops (length loops + 1) start);
}

pub come-next : (net : Net) (start scope depth : ℕ) → IsNested net → IsUpTo (length net.loops) scope →
    HasCome net.loops start scope depth →
    HasCome net.loops start (outer_of (item_at scope net.loops)) (depth + 1)
come-next net start scope depth nested up come =
    let loops = net.loops in
    let inst = get_or loops (scope - 1) no_inst in
    let there : item_at scope loops ≡ Some inst = inst_at loops scope up in
    subst (λ (found : Option LoopInst). HasCome loops start (outer_of found) (depth + 1)) (sym there)
    (record {
      number = item_at-all (λ (i : LoopInst). i.outer ≤ length loops) loops scope inst nested.scopes.loops there;
      deeper = λ n deep. subst (λ (k : ℕ). IsDeep loops start k) (omega arith)
          (come.deeper (suc n) (inner scope n inst there deep));
      left = omega (
        arith,
        come.left,
        around-outward loops nested.scopes.loops nested.scopes.chains scope inst there,
      );
    })

pub come-less : (net : Net) (scope : ℕ) → IsNested net → IsUpTo (length net.loops) scope →
    all_round net.loops (outer_of (item_at scope net.loops)) < all_round net.loops scope
come-less net scope nested up =
    let loops = net.loops in
    let inst = get_or loops (scope - 1) no_inst in
    let there : item_at scope loops ≡ Some inst = inst_at loops scope up in
    subst (λ (found : Option LoopInst). all_round loops (outer_of found) < all_round loops scope) (sym there)
    (around-outward loops nested.scopes.loops nested.scopes.chains scope inst there)

-- At the run the walk is over.
pub come-last : (loops : List LoopInst) (start scope depth : ℕ) → scope ≡ 0 → HasCome loops start scope depth →
    IsDeep loops start depth
come-last loops start scope depth e come =
    subst (λ (k : ℕ). IsDeep loops start k) (omega arith)
    (come.deeper 0 (subst (λ (s : ℕ). IsDeep loops s 0) (sym e) run))

pub outer-within : (net : Net) → IsNested net → (scope : ℕ) (inst : LoopInst) → item_at scope net.loops ≡ Some inst →
    inst.outer ≤ length net.loops
outer-within net nested scope inst there =
    item_at-all (λ (i : LoopInst). i.outer ≤ length net.loops) net.loops scope inst nested.scopes.loops there
