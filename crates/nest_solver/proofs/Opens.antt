-- The queue and the open places together.
use Rattle.std.proofs.Common.{◌≡◌, ℕ, ◌+◌, ◌-◌, ◌<◌, ◌≤◌, ◌==◌, true, false, List, [], ◌∷◌, ◌++◌, length, sym, ap, ◌∙◌, subst, inl, inr, arith, true≢false}
use Rattle.std.proofs.lemmas.Bool.{cases_eq}
use Rattle.ipet_program.specs.Sums.{sum_to}
use Rattle.nest_solver.specs.Counted.{bit}
use Rattle.nest_solver.specs.Groups.{AreGrouped}
use Rattle.nest_solver.specs.Nets.{entry}
use Rattle.nest_solver.specs.Orders.{Arcs, AreAcyclic, AreOpen, IsOpening, IsOrder, IsQueue}
use Rattle.nest_solver.specs.Shape.{IsUpTo}
use Rattle.nest_solver.proofs.Puts.{Puts}
use Rattle.nest_solver.proofs.Queues.{queue-none, queue-pass, queue-put, queue-take, left-some}
use Rattle.nest_solver.proofs.Opening.{open-any, open-back, open-first, open-low, open-none, open-opens, open-pass, open-put, open-shut, open-skip}
use Rattle.nest_solver.proofs.Ordering.{queue-order}

-- An arc to `q` up to the mark of its chain isn't in the queue, unless it is a back arc.
fresh_at : (a : Arcs) (place left : ℕ → ℕ) (first low q n : ℕ) → AreOpen a place left first low q n →
    IsUpTo a.count n → a.to n ≡ q → a.back n ≡ false → place n ≡ 0
fresh_at a place left first low q n kept up goes forward = elim (cases_eq (place n) 0) as (λ _. place n ≡ 0) [
  | inl none ↦ none
  | inr some ↦ absurd (omega (arith, (kept.others_only n up forward (omega (arith, some))).2 goes))
]

pub opening-put : (a : Arcs) (order : List ℕ) (place place2 left heads next : ℕ → ℕ) (done first low q n : ℕ) →
    AreGrouped a.to (a.count + 1) heads next → IsUpTo a.count n → a.to n ≡ q → a.back n ≡ false → left q ≡ 0 →
    q < low → Puts place place2 n (length order + 1) → IsOpening a order place left done first low q n →
    IsOpening a (order ++ n ∷ []) place2 left done first low q (next n)
opening-put a order place place2 left heads next done first low q n chains up goes forward none below puts was = record {
  queue = queue-put a order place place2 left done n was.queue up
      (fresh_at a place left first low q n was.arcs up goes forward) (λ f. ap left goes ∙ none) puts;
  arcs = open-put a place place2 left heads next first low q n (length order + 1) chains was.arcs up goes forward none
      below (omega arith) puts;
}

pub opening-skip : (a : Arcs) (order : List ℕ) (place left heads next : ℕ → ℕ) (done first low q n : ℕ) →
    AreGrouped a.to (a.count + 1) heads next → IsUpTo a.count n → a.to n ≡ q → a.back n ≡ true →
    IsOpening a order place left done first low q n → IsOpening a order place left done first low q (next n)
opening-skip a order place left heads next done first low q n chains up goes back was = record {
  queue = was.queue;
  arcs = open-skip a place left heads next first low q n chains was.arcs up goes back;
}

fresh_back : (a : Arcs) (place left : ℕ → ℕ) (n low q at : ℕ) → AreOpen a place left n low q at → IsUpTo a.count n →
    a.back n ≡ true → place n ≡ 0
fresh_back a place left n low q at kept up back = elim (cases_eq (place n) 0) as (λ _. place n ≡ 0) [
  | inl none ↦ none
  | inr some ↦ absurd (omega (arith, kept.backs_only n up back (omega (arith, some))))
]

pub opening-back : (a : Arcs) (order : List ℕ) (place place2 left : ℕ → ℕ) (n : ℕ) → IsUpTo a.count n →
    a.back n ≡ true → Puts place place2 n (length order + 1) → IsOpening a order place left 0 n 0 0 0 →
    IsOpening a (order ++ n ∷ []) place2 left 0 (n + 1) 0 0 0
opening-back a order place place2 left n up back puts was = record {
  queue = queue-put a order place place2 left 0 n was.queue up (fresh_back a place left n 0 0 0 was.arcs up back)
      (λ f. absurd (true≢false (sym back ∙ f))) puts;
  arcs = open-back a place place2 left 0 n (length order + 1) was.arcs back (omega arith) puts;
}

pub opening-pass : (a : Arcs) (order : List ℕ) (place left : ℕ → ℕ) (n : ℕ) → a.back n ≡ false →
    IsOpening a order place left 0 n 0 0 0 → IsOpening a order place left 0 (n + 1) 0 0 0
opening-pass a order place left n forward was = record {
  queue = was.queue;
  arcs = open-pass a place left 0 n was.arcs forward;
}

pub opening-any : (a : Arcs) (order : List ℕ) (place left : ℕ → ℕ) (done first low q : ℕ) →
    IsOpening a order place left done first low q 0 → IsOpening a order place left done first low 0 0
opening-any a order place left done first low q was = record {
  queue = was.queue;
  arcs = open-any a place left first low q 0 was.arcs;
}

pub opening-low : (a : Arcs) (order : List ℕ) (place left : ℕ → ℕ) (done first p : ℕ) → (left p ≡ 0 → ⊥) →
    IsOpening a order place left done first p 0 0 → IsOpening a order place left done first (p + 1) 0 0
opening-low a order place left done first p some was = record {
  queue = was.queue;
  arcs = open-low a place left first p 0 was.arcs some;
}

pub opening-first : (a : Arcs) (order : List ℕ) (place left heads next : ℕ → ℕ) (done first p : ℕ) →
    AreGrouped a.to (a.count + 1) heads next → IsOpening a order place left done first p 0 0 →
    IsOpening a order place left done first (p + 1) p (heads p)
opening-first a order place left heads next done first p chains was = record {
  queue = was.queue;
  arcs = open-first a place left heads next first p 0 chains was.arcs;
}

pub opening-zero : (a : Arcs) (order : List ℕ) (place left : ℕ → ℕ) (done first low n : ℕ) →
    IsOpening a order place left done first low 0 0 → done < length order → entry order done ≡ n → a.from n ≡ 0 →
    IsOpening a order place left (done + 1) first low 0 0
opening-zero a order place left done first low n was more e none = record {
  queue = queue-pass a order place left done n was.queue more e none;
  arcs = was.arcs;
}

pub opening-shut : (a : Arcs) (order : List ℕ) (place left left2 : ℕ → ℕ) (done first low n : ℕ) →
    IsOpening a order place left done first low 0 0 → done < length order → entry order done ≡ n → 0 < a.from n →
    Puts left left2 (a.from n) (left (a.from n) - 1) → (left2 (a.from n) ≡ 0 → ⊥) →
    IsOpening a order place left2 (done + 1) first low 0 0
opening-shut a order place left left2 done first low n was more e some puts shut = record {
  queue = queue-take a order place left left2 done n was.queue more e some puts;
  arcs = open-shut a place left left2 first low 0 (a.from n) was.arcs
      (left-some a order place left done n was.queue more e some) puts shut;
}

pub opening-opens : (a : Arcs) (order : List ℕ) (place left left2 heads next : ℕ → ℕ) (done first low n : ℕ) →
    AreGrouped a.to (a.count + 1) heads next →
    IsOpening a order place left done first low 0 0 → done < length order → entry order done ≡ n → 0 < a.from n →
    Puts left left2 (a.from n) (left (a.from n) - 1) →
    IsOpening a order place left2 (done + 1) first low (a.from n) (heads (a.from n))
opening-opens a order place left left2 heads next done first low n chains was more e some puts = record {
  queue = queue-take a order place left left2 done n was.queue more e some puts;
  arcs = open-opens a place left left2 heads next first low 0 (a.from n) chains was.arcs
      (left-some a order place left done n was.queue more e some) puts;
}

pub opening-none : (a : Arcs) (place left : ℕ → ℕ) → ((i : ℕ) → place i ≡ 0) →
    ((p : ℕ) → 0 < p → left p ≡ sum_to a.count (λ i. bit (a.from i == p))) → left 0 ≡ 0 →
    IsOpening a [] place left 0 1 0 0 0
opening-none a place left fresh counts outside = record {
  queue = queue-none a place left fresh counts outside;
  arcs = open-none a place left 0 fresh;
}

pub opening-order : (a : Arcs) (places done : ℕ) (order : List ℕ) (place left : ℕ → ℕ) → AreAcyclic a places →
    IsOpening a order place left done (a.count + 1) (places + 1) 0 0 → length order ≤ done → IsOrder a order place
opening-order a places done order place left acyclic was all =
    queue-order a places order place left (a.count + 1) (places + 1) 0 acyclic
    (subst (λ (k : ℕ). IsQueue a order place left k) (omega (arith, all, was.queue.taken)) was.queue)
    was.arcs (omega arith) (omega arith)

-- The arc that an index reads from the queue is an arc.
pub opening-arc : (a : Arcs) (order : List ℕ) (place left : ℕ → ℕ) (done first low n : ℕ) →
    IsOpening a order place left done first low 0 0 → done < length order → n ≡ entry order done → IsUpTo a.count n
opening-arc a order place left done first low n was more e =
    subst (λ (k : ℕ). IsUpTo a.count k) (sym e) (was.queue.up done more)

pub opening-left : (a : Arcs) (order : List ℕ) (place left : ℕ → ℕ) (done first low n : ℕ) →
    IsOpening a order place left done first low 0 0 → done < length order → n ≡ entry order done → 0 < a.from n →
    0 < left (a.from n)
opening-left a order place left done first low n was more e some =
    left-some a order place left done n was.queue more (sym e) some
