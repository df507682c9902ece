-- Worths of one depth more, by the levels as they were solved.
use Rattle.std.proofs.Common.{◌≡◌, ℕ, suc, ◌-◌, ◌^◌, ◌<◌, ◌≤◌, subst, sym, arith}
use Rattle.nest_solver.specs.Answers.{AreWorths}
use Rattle.nest_solver.specs.Levels.{AreLevels}
use Rattle.nest_solver.specs.Nets.{value_at_end}
use Rattle.nest_solver.specs.Shape.{Shape, IsNest, IsUpTo}
use Rattle.nest_solver.specs.Solved.{lifted, weight_of}
use Rattle.nest_solver.specs.Ways.{IsRound, IsSwept}
use Rattle.nest_solver.proofs.Best.{worths-level}
use Rattle.nest_solver.proofs.Facing.{turned-again}
use Rattle.nest_solver.proofs.Levels.{levels-swept}

-- The turns of a depth are the longest ways that another sweep finds.
pub level-turned : (s : Shape) (price weight turns round best choice : ℕ → ℕ) (depth : ℕ) → IsNest s → 0 < depth →
    AreLevels s price weight turns 1 → IsRound s depth round → IsSwept s depth round weight best choice →
    (l : ℕ) → IsUpTo s.loops l → s.depth l ≡ depth → turns l ≡ best (s.header l) - 1
level-turned s price weight turns round best choice depth nest some levels rounds swept l u deep =
    turned-again s (value_at_end s price) turns round best choice depth nest (levels.solved depth (omega (arith, some)))
    rounds (levels-swept s price weight turns round best choice depth 1 levels swept) l u deep

pub worths-next : (s : Shape) (price weight turns round best choice before after : ℕ → ℕ) (depth total : ℕ) →
    IsNest s → 0 < depth → AreLevels s price weight turns 1 → IsRound s depth round →
    IsSwept s depth round weight best choice → ((p : ℕ) → best p ≤ 2 ^ 63) →
    ((p : ℕ) → after p ≡ lifted s round best turns before p) →
    AreWorths s (weight_of s (value_at_end s price) turns) turns (depth - 1) total before →
    AreWorths s (weight_of s (value_at_end s price) turns) turns depth total after
worths-next s price weight turns round best choice before after depth total nest some levels rounds swept short raised were =
    subst (AreWorths s weights turns depth total) same
    (subst (λ (d : ℕ). AreWorths s weights turns d total (lifted s round best turns before)) back
    (worths-level s weights turns round best choice before (depth - 1) total nest were
    (subst (λ (d : ℕ). IsRound s d round) (sym back) rounds)
    (subst (λ (d : ℕ). IsSwept s d round weights best choice) (sym back)
    (levels-swept s price weight turns round best choice depth 1 levels swept))
    short
    (λ l u deep. level-turned s price weight turns round best choice depth nest some levels rounds swept l u
    (omega (arith, deep, back)))))
  where
    weights : ℕ → ℕ
    weights = weight_of s (value_at_end s price) turns

    back : suc (depth - 1) ≡ depth
    back = omega (arith, some)

    same : lifted s round best turns before ≡ after
    same = λ i p. sym (raised p) i
