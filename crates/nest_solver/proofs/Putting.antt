-- One loop after the other: its turn is put back, and there is room for it.
use Rattle.std.proofs.Common.{◌≡◌, ◌⊎◌, ℕ, suc, ◌+◌, ◌-◌, ◌*◌, ◌<◌, ◌≤◌, ◌==◌, nat_lt, cond, List, [], ◌∷◌, refl, sym, ap, ◌∙◌, subst, inl, inr, arith, mul-le-mul_left}
use Rattle.std.proofs.lemmas.Bool.{cases_eq, cases_lt, cond-true, cond-false, eq-eqb, ne_eqb, lt-ltb, le-ltb}
use Rattle.nest_solver.specs.Shape.{Shape, IsNest, IsUpTo}
use Rattle.nest_solver.specs.Solved.{weight_of, IsSolved}
use Rattle.nest_solver.specs.Ways.{IsWay}
use Rattle.nest_solver.specs.Counted.{bit, times, enters, entered, added, IsCounted, IsPath, IsTurn, put_back, with_ways}
use Rattle.nest_solver.specs.Putting.{IsPutting, IsCountedTo, HasRoomFor}
use Rattle.nest_solver.proofs.Sums.{sum-same, sum-le, sum-add, sum-only, sum-none}
use Rattle.nest_solver.proofs.Times.{bit_same, bit_other}
use Rattle.nest_solver.proofs.PutBack.{AreTurned, ways-level, counted-level}
use Rattle.nest_solver.proofs.CountRoom.{counted-room}
use Rattle.nest_solver.proofs.Greatest.{IsTurnAt, turn-at}

-- A level begins with nothing put back.
pub putting-start : (s : Shape) (weight turns start : ℕ → ℕ) (depth at : ℕ) →
    ((l : ℕ) → IsUpTo s.loops l → s.depth l ≡ depth → l ≤ at) → IsPutting s weight turns start depth at start
putting-start s weight turns start depth at high =
    record {
      turned = λ l. [];
      done = λ l u deep above. absurd (omega (arith, high l u deep, above));
      none = λ l u n. refl;
      are = λ i u. omega (
        arith,
        sum-none s.loops (λ l. ((s.bound l - 1) * entered s start l) * 0) (λ l v. omega arith),
      );
    }

-- One way more.
abbrev pub with_one : (k : ℕ) → List ℕ → (ℕ → List ℕ) → ℕ → List ℕ
with_one k ks ways l = cond (l == k) ks (ways l)

with_this : (k : ℕ) (ks : List ℕ) (ways : ℕ → List ℕ) (l : ℕ) → l ≡ k → with_one k ks ways l ≡ ks
with_this k ks ways l e = cond-true {A = List ℕ} (l == k) ks (ways l) (eq-eqb l k e)

with_rest : (k : ℕ) (ks : List ℕ) (ways : ℕ → List ℕ) (l : ℕ) → (l ≡ k → ⊥) → with_one k ks ways l ≡ ways l
with_rest k ks ways l n = cond-false {A = List ℕ} (l == k) ks (ways l) (ne_eqb l k n)

pub added-one : (s : Shape) (often : ℕ → ℕ) (ways : ℕ → List ℕ) (k : ℕ) (ks : List ℕ) (i : ℕ) →
    IsUpTo s.loops k → ways k ≡ [] →
    added s often (with_one k ks ways) i ≡ added s often ways i + ((s.bound k - 1) * often k) * times ks i
added-one s often ways k ks i u empty =
    sum-same s.loops (λ l. m l * times (with_one k ks ways l) i)
    (λ l. m l * times (ways l) i + bit (l == k) * (m l * times ks i)) (λ l v. one l)
    ∙ sum-add s.loops (λ l. m l * times (ways l) i) (λ l. bit (l == k) * (m l * times ks i))
    ∙ ap (λ n. added s often ways i + n)
    (sum-only s.loops k (λ l. bit (l == k) * (m l * times ks i)) u
    (λ l v n. ap (λ b. b * (m l * times ks i)) (bit_other l k n) ∙ omega arith)
    ∙ ap (λ b. b * (m k * times ks i)) (bit_same k k refl) ∙ omega arith)
  where
    m : ℕ → ℕ
    m l = (s.bound l - 1) * often l

    one : (l : ℕ) → m l * times (with_one k ks ways l) i ≡ m l * times (ways l) i + bit (l == k) * (m l * times ks i)
    one l = elim (cases_eq l k)
        as (λ _. m l * times (with_one k ks ways l) i ≡ m l * times (ways l) i + bit (l == k) * (m l * times ks i)) [
          | inl e ↦ omega (
            arith,
            ap (λ (way : List ℕ). m l * times way i) (with_this k ks ways l e),
            ap (λ (way : List ℕ). m l * times way i) (ap ways e ∙ empty),
            ap (λ b. b * (m l * times ks i)) (bit_same l k e),
          )
          | inr n ↦ omega (
            arith,
            ap (λ (way : List ℕ). m l * times way i) (with_rest k ks ways l n),
            ap (λ b. b * (m l * times ks i)) (bit_other l k n),
          )
        ]

-- The turn of the loop at `at` is put back, and the next less loop of the depth comes.
pub putting-more : (s : Shape) (weight turns start counts more : ℕ → ℕ) (depth k next : ℕ) (ks : List ℕ) →
    IsPutting s weight turns start depth k counts → IsUpTo s.loops k → s.depth k ≡ depth →
    (((ks ≡ []) × (turns k ≡ 0)) ⊎ IsTurn s weight k (turns k) ks) →
    ((i : ℕ) → IsUpTo s.arcs i →
    more i ≡ counts i + ((s.bound k - 1) * entered s start k) * times ks i) →
    next < k → ((l : ℕ) → IsUpTo s.loops l → s.depth l ≡ depth → next < l → l < k → ⊥) →
    IsPutting s weight turns start depth next more
putting-more s weight turns start counts more depth k next ks putting u deep turn is less between =
    record {
      turned = with_one k ks putting.turned;
      done = λ l v e above. elim (cases_eq l k)
          as (λ _. ((with_one k ks putting.turned l ≡ []) × (turns l ≡ 0))
          ⊎ IsTurn s weight l (turns l) (with_one k ks putting.turned l)) [
            | inl same ↦ subst (λ (j : ℕ). ((with_one k ks putting.turned j ≡ []) × (turns j ≡ 0))
                ⊎ IsTurn s weight j (turns j) (with_one k ks putting.turned j)) (sym same)
                (subst (λ (way : List ℕ). ((way ≡ []) × (turns k ≡ 0)) ⊎ IsTurn s weight k (turns k) way)
                (sym (with_this k ks putting.turned k refl)) turn)
            | inr n ↦ subst (λ (way : List ℕ). ((way ≡ []) × (turns l ≡ 0)) ⊎ IsTurn s weight l (turns l) way)
                (sym (with_rest k ks putting.turned l n))
                (putting.done l v e (above_k l v e above n))
          ];
      none = λ l v n. with_rest k ks putting.turned l (λ e. n (ap s.depth e ∙ deep) (omega (arith, e, less)))
          ∙ putting.none l v (λ e above. n e (omega (arith, above, less)));
      are = λ i v. omega (
        arith,
        is i v,
        putting.are i v,
        added-one s (entered s start) putting.turned k ks i u
            (putting.none k u (λ e above. omega (arith, above))),
      );
    }
  where
    above_k : (l : ℕ) → IsUpTo s.loops l → s.depth l ≡ depth → next < l → (l ≡ k → ⊥) → k < l
    above_k l v e above n = elim (cases_lt k l) as (λ _. k < l) [
      | inl high ↦ high
      | inr low ↦ absurd (between l v e above (omega (arith, low, n)))
    ]

-- At the end all turns of the depth are.
pub putting-end : (s : Shape) (weight turns start counts : ℕ → ℕ) (depth : ℕ) →
    (putting : IsPutting s weight turns start depth 0 counts) → AreTurned s weight turns depth putting.turned
putting-end s weight turns start counts depth putting =
    record {
      here = λ l u e. putting.done l u e (omega (arith, u));
      none = λ l u n. putting.none l u (λ e above. n e);
    }

-- Counts that agree at the arcs are alike.
pub counted-same : (s : Shape) (path : List ℕ) (ways : ℕ → List ℕ) (one other : ℕ → ℕ) →
    ((i : ℕ) → IsUpTo s.arcs i → one i ≡ other i) → IsCounted s path ways one → IsCounted s path ways other
counted-same s path ways one other same counted i u =
    sym (same i u)
    ∙ counted i u
    ∙ ap (λ n. times path i + n)
    (sum-same s.loops (λ l. ((s.bound l - 1) * entered s one l) * times (ways l) i)
    (λ l. ((s.bound l - 1) * entered s other l) * times (ways l) i)
    (λ l v. ap (λ n. ((s.bound l - 1) * n) * times (ways l) i)
    (sum-same s.arcs (λ j. bit (enters s l j) * one j) (λ j. bit (enters s l j) * other j)
    (λ j w. ap (λ n. bit (enters s l j) * n) (same j w)))))

pub counted-next : (s : Shape) (weight turns start counts : ℕ → ℕ) (depth : ℕ) (path : List ℕ) → IsNest s →
    IsCountedTo s weight turns path depth start → IsPutting s weight turns start (suc depth) 0 counts →
    IsCountedTo s weight turns path (suc depth) counts
counted-next s weight turns start counts depth path nest before putting =
    let turned = putting-end s weight turns start counts (suc depth) putting in
    record {
      ways = with_ways s (suc depth) before.ways putting.turned;
      are = ways-level s weight turns depth before.ways putting.turned before.are turned;
      counted = counted-same s path (with_ways s (suc depth) before.ways putting.turned)
          (put_back s (entered s start) putting.turned start) counts (λ i u. sym (putting.are i u))
          (counted-level s weight turns depth path before.ways putting.turned start nest before.are turned
          before.counted);
    }

-- The turns that are put back and those that are still to come.
abbrev all_turned : (at : ℕ) → (done later : ℕ → List ℕ) → ℕ → List ℕ
all_turned at done later l = cond (nat_lt at l) (done l) (later l)

all_done : (at : ℕ) (done later : ℕ → List ℕ) (l : ℕ) → at < l → all_turned at done later l ≡ done l
all_done at done later l above = cond-true {A = List ℕ} (nat_lt at l) (done l) (later l) (lt-ltb at l above)

all_later : (at : ℕ) (done later : ℕ → List ℕ) (l : ℕ) → l ≤ at → all_turned at done later l ≡ later l
all_later at done later l low = cond-false {A = List ℕ} (nat_lt at l) (done l) (later l) (le-ltb at l low)

all-turned : (s : Shape) (value turns start counts : ℕ → ℕ) (depth at : ℕ) → IsNest s → IsSolved s value turns depth →
    (putting : IsPutting s (weight_of s value turns) turns start depth at counts) →
    (turn : (l : ℕ) → IsTurnAt s (weight_of s value turns) turns depth l) →
    AreTurned s (weight_of s value turns) turns depth (all_turned at putting.turned (λ l. (turn l).way))
all-turned s value turns start counts depth at nest solved putting turn =
    record {
      here = λ l u e. elim (cases_lt at l)
          as (λ _. ((all_turned at putting.turned (λ j. (turn j).way) l ≡ []) × (turns l ≡ 0))
          ⊎ IsTurn s (weight_of s value turns) l (turns l) (all_turned at putting.turned (λ j. (turn j).way) l)) [
            | inl above ↦ subst
                (λ (way : List ℕ). ((way ≡ []) × (turns l ≡ 0)) ⊎ IsTurn s (weight_of s value turns) l (turns l) way)
                (sym (all_done at putting.turned (λ j. (turn j).way) l above)) (putting.done l u e above)
            | inr low ↦ subst
                (λ (way : List ℕ). ((way ≡ []) × (turns l ≡ 0)) ⊎ IsTurn s (weight_of s value turns) l (turns l) way)
                (sym (all_later at putting.turned (λ j. (turn j).way) l low)) ((turn l).here u e)
          ];
      none = λ l u n. elim (cases_lt at l) as (λ _. all_turned at putting.turned (λ j. (turn j).way) l ≡ []) [
        | inl above ↦ all_done at putting.turned (λ j. (turn j).way) l above ∙ putting.none l u (λ e _. n e)
        | inr low ↦ all_later at putting.turned (λ j. (turn j).way) l low ∙ (turn l).none n
      ];
    }

-- So in between no count is above the value of the way out.
pub putting-small : (s : Shape) (value turns start counts : ℕ → ℕ) (depth at total : ℕ) (path : List ℕ) → IsNest s →
    ((i : ℕ) → IsUpTo s.arcs i → 0 < s.to i → 1 ≤ value i) → IsPath s (weight_of s value turns) path total →
    IsCountedTo s (weight_of s value turns) turns path depth start → IsSolved s value turns (suc depth) →
    IsPutting s (weight_of s value turns) turns start (suc depth) at counts → (i : ℕ) → IsUpTo s.arcs i →
    counts i ≤ total
putting-small s value turns start counts depth at total path nest costly is before solved putting i u =
    omega (
      arith,
      putting.are i u,
      counted-room s value turns depth total path before.ways full start nest costly is before.are
          (all-turned s value turns start counts (suc depth) at nest solved putting turn) before.counted i u,
      sum-le s.loops (λ l. ((s.bound l - 1) * entered s start l) * times (putting.turned l) i)
          (λ l. ((s.bound l - 1) * entered s start l) * times (full l) i)
          (λ l v. mul-le-mul_left ((s.bound l - 1) * entered s start l) (less l v)),
    )
  where
    turn : (l : ℕ) → IsTurnAt s (weight_of s value turns) turns (suc depth) l
    turn l = turn-at s value turns (suc depth) l nest solved

    full : ℕ → List ℕ
    full = all_turned at putting.turned (λ l. (turn l).way)

    less : (l : ℕ) → IsUpTo s.loops l → times (putting.turned l) i ≤ times (full l) i
    less l v = elim (cases_lt at l) as (λ _. times (putting.turned l) i ≤ times (full l) i) [
      | inl above ↦ omega (
        arith,
        ap (λ (way : List ℕ). times way i) (all_done at putting.turned (λ j. (turn j).way) l above),
      )
      | inr low ↦ omega (
        arith,
        ap (λ (way : List ℕ). times way i) (putting.none l v (λ e above. omega (arith, above, low))),
      )
    ]

-- And there is room for the next loop's turn.
pub putting-room : (s : Shape) (value turns start counts : ℕ → ℕ) (depth k total : ℕ) (path ks : List ℕ) → IsNest s →
    ((i : ℕ) → IsUpTo s.arcs i → 0 < s.to i → 1 ≤ value i) → IsPath s (weight_of s value turns) path total →
    IsCountedTo s (weight_of s value turns) turns path depth start → IsSolved s value turns (suc depth) →
    IsPutting s (weight_of s value turns) turns start (suc depth) k counts → IsUpTo s.loops k → s.depth k ≡ suc depth →
    IsTurn s (weight_of s value turns) k (turns k) ks →
    HasRoomFor s counts ((s.bound k - 1) * entered s start k) total ks
putting-room s value turns start counts depth k total path ks nest costly is before solved putting u deep turn =
    record { each = each; some = λ n. some ks turn.goes each }
  where
    often : ℕ
    often = (s.bound k - 1) * entered s start k

    more : IsPutting s (weight_of s value turns) turns start (suc depth) (k - 1)
        (λ i. counts i + ((s.bound k - 1) * entered s start k) * times ks i)
    more = putting-more s (weight_of s value turns) turns start counts
        (λ i. counts i + ((s.bound k - 1) * entered s start k) * times ks i) (suc depth) k (k - 1) ks putting u deep
        (inr turn) (λ i v. refl) (omega (arith, u)) (λ l v e above below. omega (arith, above, below))

    each : (i : ℕ) → IsUpTo s.arcs i → counts i + ((s.bound k - 1) * entered s start k) * times ks i ≤ total
    each = putting-small s value turns start
        (λ i. counts i + ((s.bound k - 1) * entered s start k) * times ks i) depth (k - 1) total path nest costly is
        before solved more

    some : (way : List ℕ) → IsWay s (s.depth k) turn.round (s.header k) way →
        ((i : ℕ) → IsUpTo s.arcs i → counts i + ((s.bound k - 1) * entered s start k) * times way i ≤ total) →
        (s.bound k - 1) * entered s start k ≤ total
    some [] w h = absurd w
    some (i ∷ rest) w h =
        omega (
          arith,
          h i w.0,
          ap (λ b. ((s.bound k - 1) * entered s start k) * b) (bit_same i i refl),
        )
