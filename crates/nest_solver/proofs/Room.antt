-- Ways, weights and the bound have room in 64 bits: none is above the crude bound.
use Rattle.std.proofs.Common.{◌≡◌, ◌⊎◌, ℕ, zero, suc, ◌+◌, ◌*◌, ◌<◌, ◌≤◌, ◌==◌, ◌&&◌, ◌||◌, nat_lt, Bool, true, false, refl, sym, ap, ◌∙◌, subst, inl, inr, arith, mul-le-mul_left, true≢false}
use Rattle.std.proofs.lemmas.Bool.{cases_eq, cases_lt, cases_Bool}
use Rattle.std.proofs.lemmas.Bool.Decides.{nat_tests}
use Rattle.ipet_program.specs.Sums.{sum_to}
use Rattle.nest_solver.specs.Shape.{Shape, IsNest, IsUpTo, target, is_back, is_entering}
use Rattle.nest_solver.specs.Nets.{value_at_end}
use Rattle.nest_solver.specs.Ways.{IsRound, IsSwept, HasRoom, closes, goes_on}
use Rattle.nest_solver.specs.Solved.{weight_of, IsSolved, AreSolved}
use Rattle.nest_solver.specs.Counted.{bit}
use Rattle.nest_solver.specs.Crude.{grown, IsCrude}
use Rattle.nest_solver.proofs.Sums.{sum-le, sum-add, sum-none, sum-only, sum-part}
use Rattle.nest_solver.proofs.Times.{bit_same}
use Rattle.nest_solver.proofs.Arcs.{back-of, back-from, entering-of, closes-out, goes_on-out, deeper}
use Rattle.nest_solver.proofs.Solving.{paid-some, paid-none, closes_not_entering}
use Rattle.nest_solver.proofs.Forward.{swept-small}
use Rattle.nest_solver.proofs.Products.{grown-most}
use Rattle.nest_solver.proofs.Priced.{sum_in, priced, carried, Takes, Covers, takes-all, takes-loop, covers-none, covers-level}

-- Sets in one another.
in_le : (a b : Bool) (x : ℕ) → (a ≡ true → b ≡ true) → bit a * x ≤ bit b * x
in_le true b x h = omega (arith, ap (λ t. bit t * x) (h refl))
in_le false b x h = omega arith

in-more : (s : Shape) (few many : ℕ → Bool) (f : ℕ → ℕ) → ((p : ℕ) → few p ≡ true → many p ≡ true) →
    sum_in s few f ≤ sum_in s many f
in-more s few many f h =
    sum-le s.places (λ p. bit (few p) * f p) (λ p. bit (many p) * f p) (λ p u. in_le (few p) (many p) (f p) (h p))

pub in_one : (s : Shape) (set : ℕ → Bool) (f : ℕ → ℕ) (t : ℕ) → IsUpTo s.places t → set t ≡ true → f t ≤ sum_in s set f
in_one s set f t u h =
    omega (arith, sum-part s.places t (λ p. bit (set p) * f p) u, ap (λ b. bit b * f t) h)

bit_with : (a b : Bool) (p t x : ℕ) → (a ≡ true → b ≡ true) → (p ≡ t → (a ≡ false) × (b ≡ true)) →
    bit a * x + bit (p == t) * x ≤ bit b * x
bit_with a b p t x more at = elim (cases_eq p t) as (λ _. bit a * x + bit (p == t) * x ≤ bit b * x) [
  | inl e ↦ omega (
    arith,
    ap (λ c. bit c * x) (at e).0,
    ap (λ c. bit c * x) (at e).1,
    ap (λ c. c * x) (bit_same p t e),
  )
  | inr n ↦ omega (arith, ap (λ c. c * x) (other n), in_le a b x more)
]
  where
    other : (p ≡ t → ⊥) → bit (p == t) ≡ 0
    other m = grind (arith, nat_tests)

in-with : (s : Shape) (few many : ℕ → Bool) (f : ℕ → ℕ) (t : ℕ) → IsUpTo s.places t →
    ((p : ℕ) → few p ≡ true → many p ≡ true) → few t ≡ false → many t ≡ true →
    sum_in s few f + f t ≤ sum_in s many f
in-with s few many f t u more out has =
    omega (
      arith,
      sum-only s.places t (λ p. bit (p == t) * f p) u
          (λ p v n. ap (λ b. b * f p) (other p n) ∙ omega arith),
      ap (λ b. b * f t) (bit_same t t refl),
      sum-add s.places (λ p. bit (few p) * f p) (λ p. bit (p == t) * f p),
      sum-le s.places (λ p. bit (few p) * f p + bit (p == t) * f p) (λ p. bit (many p) * f p)
          (λ p v. bit_with (few p) (many p) p t (f p) (more p)
          (λ e. (subst (λ (q : ℕ). few q ≡ false) (sym e) out, subst (λ (q : ℕ). many q ≡ true) (sym e) has))),
    )
  where
    other : (p : ℕ) → (p ≡ t → ⊥) → bit (p == t) ≡ 0
    other p m = grind (arith, nat_tests)

-- An arc weighs no more than the place that it goes to is priced at.
priced_bit : (h t deep depth : ℕ) → h ≡ t → depth < deep → bit ((h == t) && nat_lt depth deep) ≡ 1
priced_bit h t deep depth e less = grind (arith, nat_tests)

-- The value of an arc is no more than the price of the place that it goes to.
abbrev pub IsFit : Shape → (value price : ℕ → ℕ) → Type 0
IsFit s value price = (i : ℕ) → IsUpTo s.arcs i → value i ≤ price (s.to i)

pub weight-priced : (s : Shape) (value price turns : ℕ → ℕ) (depth i : ℕ) → IsNest s → IsFit s value price →
    IsUpTo s.arcs i →
    (is_entering s i ≡ true → depth < s.depth (target s i)) →
    weight_of s value turns i ≤ priced s price turns depth (s.to i)
weight-priced s value price turns depth i nest fits u deep =
    elim (cases_Bool (is_entering s i))
    as (λ _. weight_of s value turns i ≤ priced s price turns depth (s.to i)) [
      | inr out ↦ omega (arith, paid-none s turns i out, fits i u)
      | inl into ↦ let of_loop = entering-of s nest i into in
          omega (
            arith,
            fits i u,
            paid-some s turns i into,
            sum-part s.loops (target s i)
                (λ l. bit ((s.header l == s.to i) && nat_lt depth (s.depth l)) * carried s turns l) of_loop.up,
            ap (λ b. b * carried s turns (target s i))
                (priced_bit (s.header (target s i)) (s.to i) (s.depth (target s i)) depth (sym of_loop.header)
                (deep into)),
          )
    ]

-- What may follow a place inside its loop: the places of greater number, and the header.
abbrev after_in : Shape → (rank round : ℕ → ℕ) → ℕ → ℕ → Bool
after_in s rank round p q =
    nat_lt 0 (round p) && ((round q == round p) && (nat_lt (rank p) (rank q) || (q == s.header (round p))))

after_out : (r q rp rq h x : ℕ) → (nat_lt 0 r && ((q == r) && (nat_lt rp rq || (x == h)))) ≡ true →
    (0 < r) × (q ≡ r) × ((rp < rq) ⊎ (x ≡ h))
after_out r q rp rq h x e = elim (cases_lt rp rq) as (λ _. (0 < r) × (q ≡ r) × ((rp < rq) ⊎ (x ≡ h))) [
  | inl less ↦ (grind (arith, nat_tests), grind (arith, nat_tests), inl less)
  | inr more ↦ (grind (arith, nat_tests), grind (arith, nat_tests), inr (grind (arith, nat_tests)))
]

after_from : (r q rp rq h x : ℕ) → 0 < r → q ≡ r → (rp < rq) ⊎ (x ≡ h) →
    (nat_lt 0 r && ((q == r) && (nat_lt rp rq || (x == h)))) ≡ true
after_from r q rp rq h x low e (inl less) = grind (arith, nat_tests)
after_from r q rp rq h x low e (inr is) = grind (arith, nat_tests)

after_not : (r q rp rq h x : ℕ) → rq ≤ rp → (x ≡ h → ⊥) →
    (nat_lt 0 r && ((q == r) && (nat_lt rp rq || (x == h)))) ≡ false
after_not r q rp rq h x more other = grind (arith, nat_tests)

abbrev most_in : Shape → (rank round price turns : ℕ → ℕ) → (depth : ℕ) → ℕ → ℕ
most_in s rank round price turns depth p = sum_in s (after_in s rank round p) (priced s price turns depth)

goes_in : (s : Shape) (rank round value price turns : ℕ → ℕ) (depth i : ℕ) → IsNest s → IsFit s value price → IsRound s (suc depth) round →
    ((j : ℕ) → IsUpTo s.arcs j → 0 < s.from j → 0 < s.to j → is_back s j ≡ false →
    rank (s.from j) < rank (s.to j)) →
    IsUpTo s.arcs i → goes_on s (suc depth) round i ≡ true →
    weight_of s value turns i + most_in s rank round price turns (suc depth) (s.to i)
    ≤ most_in s rank round price turns (suc depth) (s.from i)
goes_in s rank round value price turns depth i nest fits rounds rises u on =
    let goes = goes_on-out s (suc depth) round i on in
    elim goes.inside
    as (λ _. weight_of s value turns i + most_in s rank round price turns (suc depth) (s.to i)
    ≤ most_in s rank round price turns (suc depth) (s.from i)) [
      | inl z ↦ absurd (omega (arith, z))
      | inr same ↦
          let less = rises i u goes.from goes.to goes.forward in
          let here = rounds.here (s.from i) same.0 in
          omega (
            arith,
            weight-priced s value price turns (suc depth) i nest fits u
                (λ into. deeper s nest (suc depth) round i rounds on into),
            in-with s (after_in s rank round (s.to i)) (after_in s rank round (s.from i))
                (priced s price turns (suc depth)) (s.to i) (goes.to, nest.ends i u)
                (λ q e. more same.1 less q e)
                (after_not (round (s.to i)) (round (s.to i)) (rank (s.to i)) (rank (s.to i))
                (s.header (round (s.to i))) (s.to i) (omega arith)
                (λ e. true≢false (sym (back-from s nest i (round (s.from i)) here.0
                (e ∙ ap s.header (sym same.1)) here.2) ∙ goes.forward)))
                (after_from (round (s.from i)) (round (s.to i)) (rank (s.from i)) (rank (s.to i))
                (s.header (round (s.from i))) (s.to i) same.0 (sym same.1) (inl less)),
          )
    ]
  where
    more : round (s.from i) ≡ round (s.to i) → rank (s.from i) < rank (s.to i) → (q : ℕ) →
        after_in s rank round (s.to i) q ≡ true → after_in s rank round (s.from i) q ≡ true
    more same less q e =
        let parts = after_out (round (s.to i)) (round q) (rank (s.to i)) (rank q) (s.header (round (s.to i))) q e in
        after_from (round (s.from i)) (round q) (rank (s.from i)) (rank q) (s.header (round (s.from i))) q
        (omega (arith, same, parts.0)) (parts.1 ∙ sym same)
        (elim parts.2 as (λ _. (rank (s.from i) < rank q) ⊎ (q ≡ s.header (round (s.from i)))) [
          | inl high ↦ inl (omega (arith, less, high))
          | inr is ↦ inr (is ∙ ap s.header (sym same))
        ])

ends_in : (s : Shape) (rank round value price turns : ℕ → ℕ) (depth i : ℕ) → IsNest s → IsFit s value price → IsRound s (suc depth) round →
    IsUpTo s.arcs i →
    closes s (suc depth) i ≡ true →
    weight_of s value turns i ≤ most_in s rank round price turns (suc depth) (s.from i)
ends_in s rank round value price turns depth i nest fits rounds u c =
    elim (closes-out s (suc depth) i c)
    as (λ _. weight_of s value turns i ≤ most_in s rank round price turns (suc depth) (s.from i)) [
      | inl z ↦ absurd (omega (arith, z))
      | inr back ↦
          let is = back-of s nest i back.1 in
          let from : round (s.from i) ≡ target s i = rounds.all (target s i) (s.from i) is.up back.2 is.source in
          let to : round (s.to i) ≡ target s i = rounds.all (target s i) (s.to i) is.up back.2 is.held in
          omega (
            arith,
            weight-priced s value price turns (suc depth) i nest fits u
                (λ into. absurd (true≢false (sym into ∙ closes_not_entering s nest (suc depth) i c))),
            in_one s (after_in s rank round (s.from i)) (priced s price turns (suc depth)) (s.to i)
                (omega (arith, is.header, nest.headers (target s i) is.up))
                (after_from (round (s.from i)) (round (s.to i)) (rank (s.from i)) (rank (s.to i))
                (s.header (round (s.from i))) (s.to i) (omega (arith, from, is.up)) (to ∙ sym from)
                (inr (is.header ∙ ap s.header (sym from)))),
          )
    ]

-- Inside a loop no way weighs more than its places come to.
inside_most : (s : Shape) (rank round price turns : ℕ → ℕ) (depth p l : ℕ) → IsRound s (suc depth) round →
    round p ≡ l → most_in s rank round price turns (suc depth) p ≤ sum_in s (s.holds l) (priced s price turns (suc depth))
inside_most s rank round price turns depth p l rounds is =
    in-more s (after_in s rank round p) (s.holds l) (priced s price turns (suc depth))
    (λ q e. let parts = after_out (round p) (round q) (rank p) (rank q) (s.header (round p)) q e in
    subst (λ (k : ℕ). s.holds k q ≡ true) (parts.1 ∙ is) (rounds.here q (omega (arith, parts.0, parts.1))).2)

grown_all : (s : Shape) (price : ℕ → ℕ) (limit depth : ℕ) (set : ℕ → Bool) → IsNest s → IsCrude s price limit →
    sum_in s set (λ p. price p * grown s depth p) ≤ limit
grown_all s price limit depth set nest crude =
    omega (
      arith,
      crude.low,
      sum-le s.places (λ p. bit (set p) * (price p * grown s depth p)) (λ p. price p * grown s 0 p)
          (λ p u. one (set p) (price p) (grown s depth p) (grown s 0 p) (grown-most s depth p nest)),
    )
  where
    one : (b : Bool) (c g h : ℕ) → g ≤ h → bit b * (c * g) ≤ c * h
    one true c g h low = omega (arith, mul-le-mul_left c low)
    one false c g h low = omega arith

abbrev CoversAll : Shape → (price turns : ℕ → ℕ) → ℕ → Type 0
CoversAll s price turns depth = (set : ℕ → Bool) → Takes s depth set → Covers s price turns depth set

room_in : (s : Shape) (value price turns round : ℕ → ℕ) (depth limit : ℕ) → IsNest s → IsFit s value price → IsCrude s price limit →
    IsRound s (suc depth) round → CoversAll s price turns (suc depth) →
    HasRoom s (suc depth) round (weight_of s value turns) limit
room_in s value price turns round depth limit nest fits crude rounds covers =
    record {
      most = most_in s nest.rank round price turns (suc depth);
      small = λ p. small p (cases_lt 0 (round p));
      ends = λ i u c. ends_in s nest.rank round value price turns depth i nest fits rounds u c;
      goes = λ i u on. goes_in s nest.rank round value price turns depth i nest fits rounds nest.rises u on;
    }
  where
    small : (p : ℕ) → (0 < round p) ⊎ (round p ≤ 0) → most_in s nest.rank round price turns (suc depth) p ≤ limit
    small p (inl some) =
        let here = rounds.here p some in
        omega (
          arith,
          inside_most s nest.rank round price turns depth p (round p) rounds refl,
          covers (s.holds (round p)) (takes-loop s (suc depth) (round p) nest here.0 (omega (arith, here.1))),
          grown_all s price limit (suc depth) (s.holds (round p)) nest crude,
        )
    small p (inr none) =
        omega (
          arith,
          sum-none s.places (λ q. bit (after_in s nest.rank round p q) * priced s price turns (suc depth) q)
              (λ q u. ap (λ b. bit b * priced s price turns (suc depth) q)
              (nothing (round p) none ((round q == round p) && (nat_lt (nest.rank p) (nest.rank q) || (q == s.header (round p)))))
              ∙ omega arith),
        )
      where
        nothing : (r : ℕ) → r ≤ 0 → (b : Bool) → (nat_lt 0 r && b) ≡ false
        nothing r low b = grind (arith, nat_tests)

-- So a loop's turn weighs no more than its places grow to.
turn_small : (s : Shape) (value price turns : ℕ → ℕ) (depth limit : ℕ) → IsNest s → IsFit s value price → IsCrude s price limit →
    IsSolved s value turns (suc depth) → CoversAll s price turns (suc depth) →
    (l : ℕ) → IsUpTo s.loops l → s.depth l ≡ suc depth →
    turns l ≤ sum_in s (s.holds l) (λ p. price p * grown s (suc depth) p)
unfolding room_in
turn_small s value price turns depth limit nest fits crude solved covers l u deep =
    omega (
      arith,
      solved.turned l u deep,
      swept-small s (suc depth) limit solved.round (weight_of s value turns) solved.best solved.choice
          nest solved.swept (record {
            most = most_in s nest.rank solved.round price turns (suc depth);
            small = (room_in s value price turns solved.round depth limit nest fits crude solved.rounds covers).small;
            ends = λ i v c. ends_in s nest.rank solved.round value price turns depth i nest fits solved.rounds v c;
            goes = λ i v on. goes_in s nest.rank solved.round value price turns depth i nest fits solved.rounds nest.rises v on;
          }) (s.header l),
      inside_most s nest.rank solved.round price turns depth (s.header l) l solved.rounds
          (solved.rounds.all l (s.header l) u deep (nest.held l u)),
      covers (s.holds l) (takes-loop s (suc depth) l nest u (omega (arith, deep))),
    )

-- Level by level, the deepest first.
covers_by : (s : Shape) (value price turns : ℕ → ℕ) (limit n depth : ℕ) → IsNest s → IsFit s value price → IsCrude s price limit →
    ((l : ℕ) → IsUpTo s.loops l → s.depth l ≤ depth + n) →
    AreSolved s value turns (suc depth) → CoversAll s price turns depth
covers_by s value price turns limit zero depth nest fits crude low solved set takes =
    covers-none s price turns depth set (λ l u. omega (arith, low l u))
covers_by s value price turns limit (suc n) depth nest fits crude low solved set takes =
    let this = solved (suc depth) (omega arith) in
    let below : CoversAll s price turns (suc depth) =
    covers_by s value price turns limit n (suc depth) nest fits crude (λ l u. omega (arith, low l u))
    (λ e high. solved e (omega (arith, high))) in
    covers-level s price turns depth this.round set nest this.rounds takes
    (below set (λ l u deep. takes l u (omega (arith, deep))))
    (turn_small s value price turns depth limit nest fits crude this below)

pub covers-solved : (s : Shape) (value price turns : ℕ → ℕ) (limit depth : ℕ) → IsNest s → IsFit s value price → IsCrude s price limit →
    AreSolved s value turns (suc depth) → (set : ℕ → Bool) → Takes s depth set →
    Covers s price turns depth set
covers-solved s value price turns limit depth nest fits crude solved =
    covers_by s value price turns limit (sum_to s.loops s.depth) depth nest fits crude
    (λ l u. omega (arith, sum-part s.loops l s.depth u)) solved

-- At depth 0 what may follow a place are the places of greater number.
abbrev most_out : Shape → (rank price turns : ℕ → ℕ) → ℕ → ℕ
most_out s rank price turns p = sum_in s (λ q. nat_lt (rank p) (rank q)) (priced s price turns 0)

lt_told : (a b : ℕ) → nat_lt a b ≡ true → a < b
lt_told a b e = grind (arith, nat_tests)

lt_from : (a b : ℕ) → a < b → nat_lt a b ≡ true
lt_from a b h = grind (arith, nat_tests)

lt_not : (a b : ℕ) → b ≤ a → nat_lt a b ≡ false
lt_not a b h = grind (arith, nat_tests)

goes_out : (s : Shape) (value price turns round : ℕ → ℕ) (i : ℕ) → (nest : IsNest s) → IsFit s value price → IsRound s 0 round → IsUpTo s.arcs i →
    goes_on s 0 round i ≡ true →
    weight_of s value turns i + most_out s nest.rank price turns (s.to i)
    ≤ most_out s nest.rank price turns (s.from i)
goes_out s value price turns round i nest fits rounds u on =
    let goes = goes_on-out s 0 round i on in
    let less = nest.rises i u goes.from goes.to goes.forward in
    omega (
      arith,
      weight-priced s value price turns 0 i nest fits u (λ into. deeper s nest 0 round i rounds on into),
      in-with s (λ q. nat_lt (nest.rank (s.to i)) (nest.rank q)) (λ q. nat_lt (nest.rank (s.from i)) (nest.rank q))
          (priced s price turns 0) (s.to i) (goes.to, nest.ends i u)
          (λ q e. lt_from (nest.rank (s.from i)) (nest.rank q)
          (omega (arith, less, lt_told (nest.rank (s.to i)) (nest.rank q) e)))
          (lt_not (nest.rank (s.to i)) (nest.rank (s.to i)) (omega arith))
          (lt_from (nest.rank (s.from i)) (nest.rank (s.to i)) less),
    )

ends_out : (s : Shape) (value price turns : ℕ → ℕ) (i : ℕ) → (nest : IsNest s) → IsFit s value price → price 0 ≡ 0 → IsUpTo s.arcs i → closes s 0 i ≡ true →
    weight_of s value turns i ≤ most_out s nest.rank price turns (s.from i)
ends_out s value price turns i nest fits free u c =
    elim (closes-out s 0 i c)
    as (λ _. weight_of s value turns i ≤ most_out s nest.rank price turns (s.from i)) [
      | inl z ↦ omega (
        arith,
        fits i u,
        ap price z.0,
        free,
        paid-none s turns i (closes_not_entering s nest 0 i c),
      )
      | inr back ↦ absurd (omega (arith, back.2, nest.deep (target s i) (back-of s nest i back.1).up))
    ]

pub priced_all : (s : Shape) (value price turns : ℕ → ℕ) (limit depth : ℕ) → IsNest s → IsFit s value price → IsCrude s price limit →
    AreSolved s value turns (suc depth) → sum_in s (λ p. true) (priced s price turns depth) ≤ limit
priced_all s value price turns limit depth nest fits crude solved =
    omega (
      arith,
      covers-solved s value price turns limit depth nest fits crude solved (λ p. true) (takes-all s depth),
      grown_all s price limit depth (λ p. true) nest crude,
    )

room_out : (s : Shape) (value price turns round : ℕ → ℕ) (limit : ℕ) → IsNest s → IsFit s value price → IsCrude s price limit →
    AreSolved s value turns 1 → IsRound s 0 round →
    HasRoom s 0 round (weight_of s value turns) limit
room_out s value price turns round limit nest fits crude solved rounds =
    record {
      most = most_out s nest.rank price turns;
      small = λ p. omega (
        arith,
        in-more s (λ q. nat_lt (nest.rank p) (nest.rank q)) (λ q. true) (priced s price turns 0) (λ q e. refl),
        priced_all s value price turns limit 0 nest fits crude solved,
      );
      ends = λ i u c. ends_out s value price turns i nest fits crude.outside u c;
      goes = λ i u on. goes_out s value price turns round i nest fits rounds u on;
    }

-- The ways of a depth have room once all deeper loops are solved.
pub room-level_fit : (s : Shape) (value price turns round : ℕ → ℕ) (depth limit : ℕ) → IsNest s → IsFit s value price → IsCrude s price limit →
    AreSolved s value turns (suc depth) → IsRound s depth round →
    HasRoom s depth round (weight_of s value turns) limit
room-level_fit s value price turns round zero limit nest fits crude solved rounds =
    room_out s value price turns round limit nest fits crude solved rounds
room-level_fit s value price turns round (suc depth) limit nest fits crude solved rounds =
    room_in s value price turns round depth limit nest fits crude rounds
    (covers-solved s value price turns limit (suc depth) nest fits crude solved)

-- So have the weights of all arcs that carry no turn but those of solved loops.
pub room-weight_fit : (s : Shape) (value price turns : ℕ → ℕ) (depth limit i : ℕ) → IsNest s → IsFit s value price → IsCrude s price limit →
    AreSolved s value turns (suc depth) → IsUpTo s.arcs i →
    (is_entering s i ≡ true → depth < s.depth (target s i)) →
    weight_of s value turns i ≤ limit
room-weight_fit s value price turns depth limit i nest fits crude solved u deep =
    elim (cases_lt 0 (s.to i)) as (λ _. weight_of s value turns i ≤ limit) [
      | inl low ↦ omega (
        arith,
        weight-priced s value price turns depth i nest fits u deep,
        in_one s (λ p. true) (priced s price turns depth) (s.to i) (low, nest.ends i u) refl,
        priced_all s value price turns limit depth nest fits crude solved,
      )
      | inr none ↦ let z : s.to i ≡ 0 = omega (arith, none) in
          omega (arith, fits i u, ap price z, crude.outside, paid-none s turns i (no_entry z))
    ]
  where
    no_entry : s.to i ≡ 0 → is_entering s i ≡ false
    no_entry z = elim (cases_Bool (is_entering s i)) as (λ _. is_entering s i ≡ false) [
      | inr out ↦ out
      | inl into ↦ let of_loop = entering-of s nest i into in
          absurd (omega (arith, of_loop.header, z, nest.headers (target s i) of_loop.up))
    ]

-- Arc 1 and the longest way behind it weigh no more than the limit.
pub total-small_fit : (s : Shape) (value price turns round best choice : ℕ → ℕ) (limit : ℕ) → IsNest s → IsFit s value price → IsCrude s price limit →
    AreSolved s value turns 1 → IsRound s 0 round →
    IsSwept s 0 round (weight_of s value turns) best choice →
    weight_of s value turns 1 + best (s.to 1) ≤ limit + 1
unfolding room_out
total-small_fit s value price turns round best choice limit nest fits crude solved rounds swept =
    omega (
      arith,
      swept-small s 0 limit round (weight_of s value turns) best choice nest swept (record {
        most = most_out s nest.rank price turns;
        small = (room_out s value price turns round limit nest fits crude solved rounds).small;
        ends = λ i u c. ends_out s value price turns i nest fits crude.outside u c;
        goes = λ i u on. goes_out s value price turns round i nest fits rounds u on;
      }) (s.to 1),
      weight-priced s value price turns 0 1 nest fits (omega (arith, nest.some)) (λ into. omega (arith, nest.deep (target s 1) (entering-of s nest 1 into).up)),
      in-with s (λ q. nat_lt (nest.rank (s.to 1)) (nest.rank q)) (λ q. true) (priced s price turns 0) (s.to 1)
          (nest.begins, nest.ends 1 (omega (arith, nest.some))) (λ q e. refl)
          (lt_not (nest.rank (s.to 1)) (nest.rank (s.to 1)) (omega arith)) refl,
      priced_all s value price turns limit 0 nest fits crude solved,
    )

-- ---- The same where an arc's value is just the price of the place that it goes to.
pub fits-end : (s : Shape) (price : ℕ → ℕ) → IsFit s (value_at_end s price) price
fits-end s price i u = omega arith

pub room-level : (s : Shape) (price turns round : ℕ → ℕ) (depth limit : ℕ) → IsNest s → IsCrude s price limit →
    AreSolved s (value_at_end s price) turns (suc depth) → IsRound s depth round →
    HasRoom s depth round (weight_of s (value_at_end s price) turns) limit
room-level s price turns round depth limit nest crude solved rounds =
    room-level_fit s (value_at_end s price) price turns round depth limit nest (fits-end s price) crude solved rounds

pub room-weight : (s : Shape) (price turns : ℕ → ℕ) (depth limit i : ℕ) → IsNest s → IsCrude s price limit →
    AreSolved s (value_at_end s price) turns (suc depth) → IsUpTo s.arcs i →
    (is_entering s i ≡ true → depth < s.depth (target s i)) → weight_of s (value_at_end s price) turns i ≤ limit
room-weight s price turns depth limit i nest crude solved u deep =
    room-weight_fit s (value_at_end s price) price turns depth limit i nest (fits-end s price) crude solved u deep

pub total-small : (s : Shape) (price turns round best choice : ℕ → ℕ) (limit : ℕ) → IsNest s → IsCrude s price limit →
    AreSolved s (value_at_end s price) turns 1 → IsRound s 0 round →
    IsSwept s 0 round (weight_of s (value_at_end s price) turns) best choice →
    weight_of s (value_at_end s price) turns 1 + best (s.to 1) ≤ limit + 1
total-small s price turns round best choice limit nest crude solved rounds swept =
    total-small_fit s (value_at_end s price) price turns round best choice limit nest (fits-end s price) crude solved
    rounds swept
