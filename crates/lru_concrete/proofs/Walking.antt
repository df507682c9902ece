-- An access that goes through caches, cache by cache.
use Rattle.std.proofs.Common.{◌≡◌, ℕ, zero, suc, ◌+◌, ◌*◌, ◌<◌, ◌≤◌, Bool, true, false, cond, List, [], ◌∷◌, ◌++◌, length, get_or, set, take, drop, refl, sym, ◌∙◌, ap, ap₂, zero-add, arith, append_assoc}
use Rattle.std.proofs.lemmas.List.{drop_more, take_more, take_more_set, set_split, take_all, drop_all, drop-set-lt, append-nil, take_at, take-append-drop, length_push}
use Rattle.std.proofs.lemmas.List.Sums.{sum_by-append, sum_by-cons}
use Rattle.std.proofs.lemmas.List.Elements.{filter-append, filter_more}
use Rattle.lru_concrete.specs.declared.level.Level.{Level}
use Rattle.lru_concrete.specs.declared.level.Side.{Side}
use Rattle.lru_concrete.specs.declared.visit.Visit.{Visit}
use Rattle.lru_concrete.specs.Limits.{most_latency, most_levels}
use Rattle.lru_concrete.specs.Contents.{Content, block_in, holds, touching}
use Rattle.lru_concrete.specs.Chains.{Held, Visited, Went, AreOfLevels, chain, cycles_of, finds_in, goes, held_of, latencies, levels_of, onward, serves, touch_in, visit_of}
use Rattle.lru_concrete.specs.Walks.{IsVisit}

-- The first caches were gone through; what is left of the walk is the walk through the others.
pub record IsWalked (side : Side) (address : ℕ) (levels : List Level) (start now : List Held) (i visited spent : ℕ) : Type 0 where
  pub caches : (goes side address start).visit.caches ≡ visited + (goes side address (drop i now)).visit.caches
  pub hit : (goes side address start).visit.hit ≡ (goes side address (drop i now)).visit.hit
  pub after : (goes side address start).after ≡ take i now ++ (goes side address (drop i now)).after
  pub passed : visited ≡ length (chain side (take i levels))
  pub cycles : spent ≡ latencies (chain side (take i levels))
  pub few : visited ≤ i
  pub low : spent ≤ i * most_latency

pub walked-none : (side : Side) (address : ℕ) (levels : List Level) (start : List Held) → IsWalked side address levels start start 0 0 0
walked-none side address levels start = record {
  caches = sym (zero-add (goes side address start).visit.caches);
  hit = refl;
  after = refl;
  passed = refl;
  cycles = refl;
  few = omega arith;
  low = omega arith;
}

-- A cache with its level.
abbrev pub holding : Level → Content → Held
holding level content = record { level = level; blocks = content.blocks }

pub held-get : (levels : List Level) (contents : List Content) (i : ℕ) (level : Level) (content : Content) → AreOfLevels levels contents →
    i < length levels → level ≡ get_or levels i level → content ≡ get_or contents i content →
    get_or (held_of levels contents) i (holding level content) ≡ holding level content
held-get [] contents i level content same h e f = absurd (omega arith)
held-get (l ∷ levels) [] i level content same h e f = absurd same
held-get (l ∷ levels) (k ∷ contents) zero level content same h e f =
    ap₂ (λ (x : Level) (y : Content). holding x y) (sym e) (sym f)
held-get (l ∷ levels) (k ∷ contents) (suc i) level content same h e f =
    held-get levels contents i level content same.1 (omega arith) e f

pub length-held_of : (levels : List Level) (contents : List Content) → AreOfLevels levels contents →
    length (held_of levels contents) ≡ length levels
length-held_of [] contents same = refl
length-held_of (l ∷ levels) [] same = absurd same
length-held_of (l ∷ levels) (k ∷ contents) same = ap suc (length-held_of levels contents same.1)

pub length-contents : (levels : List Level) (contents : List Content) → AreOfLevels levels contents → length contents ≡ length levels
length-contents [] [] same = refl
length-contents [] (k ∷ contents) same = absurd same
length-contents (l ∷ levels) [] same = absurd same
length-contents (l ∷ levels) (k ∷ contents) same = ap suc (length-contents levels contents same.1)

pub levels-held_of : (levels : List Level) (contents : List Content) → AreOfLevels levels contents →
    levels_of (held_of levels contents) ≡ levels
levels-held_of [] contents same = refl
levels-held_of (l ∷ levels) [] same = absurd same
levels-held_of (l ∷ levels) (k ∷ contents) same = ap (λ (ls : List Level). l ∷ ls) (levels-held_of levels contents same.1)

pub held-set : (levels : List Level) (contents : List Content) (i : ℕ) (level : Level) (new : Content) → AreOfLevels levels contents →
    i < length levels → level ≡ get_or levels i level →
    held_of levels (set contents i new) ≡ set (held_of levels contents) i (holding level new)
held-set [] contents i level new same h e = absurd (omega arith)
held-set (l ∷ levels) [] i level new same h e = absurd same
held-set (l ∷ levels) (k ∷ contents) zero level new same h e =
    ap (λ (x : Level). holding x new ∷ held_of levels contents) (sym e)
held-set (l ∷ levels) (k ∷ contents) (suc i) level new same h e =
    ap (λ (hs : List Held). holding l k ∷ hs) (held-set levels contents i level new same.1 (omega arith) e)

pub same-at : (levels : List Level) (contents : List Content) (i : ℕ) (level : Level) (content : Content) → AreOfLevels levels contents →
    i < length levels → level ≡ get_or levels i level → content ≡ get_or contents i content → content.shape ≡ level.shape
same-at [] contents i level content same h e f = absurd (omega arith)
same-at (l ∷ levels) [] i level content same h e f = absurd same
same-at (l ∷ levels) (k ∷ contents) zero level content same h e f =
    ap (λ (x : Content). x.shape) f ∙ same.0 ∙ ap (λ (x : Level). x.shape) (sym e)
same-at (l ∷ levels) (k ∷ contents) (suc i) level content same h e f = same-at levels contents i level content same.1 (omega arith) e f

pub same-set : (levels : List Level) (contents : List Content) (i : ℕ) (content new : Content) → AreOfLevels levels contents →
    content ≡ get_or contents i content → new.shape ≡ content.shape → AreOfLevels levels (set contents i new)
same-set levels [] i content new same f g = same
same-set [] (k ∷ contents) i content new same f g = absurd same
same-set (l ∷ levels) (k ∷ contents) zero content new same f g = (g ∙ ap (λ (x : Content). x.shape) f ∙ same.0, same.1)
same-set (l ∷ levels) (k ∷ contents) (suc i) content new same f g = (same.0, same-set levels contents i content new same.1 f g)

-- What an access does at a cache.
goes-past : (side : Side) (address : ℕ) (cache : Held) (more : List Held) → serves cache.level.serves side ≡ false →
    goes side address (cache ∷ more) ≡ record (goes side address more) { after = cache ∷ (goes side address more).after }
goes-past side address cache more e =
    ap (λ (b : Bool). onward b (finds_in cache address) cache (touch_in cache address) more (goes side address more)) e

goes-hit : (side : Side) (address : ℕ) (cache : Held) (more : List Held) → serves cache.level.serves side ≡ true →
    finds_in cache address ≡ true →
    goes side address (cache ∷ more) ≡ record { visit = record { caches = 1; hit = true }; after = touch_in cache address ∷ more }
goes-hit side address cache more e f =
    ap₂ (λ (b c : Bool). onward b c cache (touch_in cache address) more (goes side address more)) e f

goes-miss : (side : Side) (address : ℕ) (cache : Held) (more : List Held) → serves cache.level.serves side ≡ true →
    finds_in cache address ≡ false →
    goes side address (cache ∷ more) ≡ record {
      visit = record { caches = suc (goes side address more).visit.caches; hit = (goes side address more).visit.hit };
      after = touch_in cache address ∷ (goes side address more).after;
    }
goes-miss side address cache more e f =
    ap₂ (λ (b c : Bool). onward b c cache (touch_in cache address) more (goes side address more)) e f

-- The chain up to a level, and its latencies.
latencies-more : (levels : List Level) (level : Level) → latencies (levels ++ level ∷ []) ≡ latencies levels + level.latency
latencies-more levels level =
    let whole = sum_by-append (λ (l : Level). l.latency) levels (level ∷ []) in
    let one = sum_by-cons (λ (l : Level). l.latency) level [] in
    whole ∙ ap (λ n. latencies levels + n) (one ∙ (let e : level.latency + 0 ≡ level.latency = omega arith in e))

module _ (side : Side) (levels : List Level) (i : ℕ) (level : Level) (within : i < length levels) (level_is : level ≡ get_or levels i level) where
  chain-past : serves level.serves side ≡ false → chain side (take (i + 1) levels) ≡ chain side (take i levels)
  chain-past e =
      filter_more (λ (l : Level). serves l.serves side) levels i level within ∙
      ap (λ (l : Level). chain side (take i levels) ++ cond (serves l.serves side) (l ∷ []) []) (sym level_is) ∙
      ap (λ (b : Bool). chain side (take i levels) ++ cond b (level ∷ []) []) e ∙ append-nil (chain side (take i levels))

  chain-more : serves level.serves side ≡ true → chain side (take (i + 1) levels) ≡ chain side (take i levels) ++ level ∷ []
  chain-more e =
      filter_more (λ (l : Level). serves l.serves side) levels i level within ∙
      ap (λ (l : Level). chain side (take i levels) ++ cond (serves l.serves side) (l ∷ []) []) (sym level_is) ∙
      ap (λ (b : Bool). chain side (take i levels) ++ cond b (level ∷ []) []) e

  chain-front : (n : ℕ) → length (chain side (take (i + 1) levels)) ≡ n → take n (chain side levels) ≡ chain side (take (i + 1) levels)
  chain-front n e =
      ap (λ (ls : List Level). take n (chain side ls)) (sym (take-append-drop (i + 1) levels)) ∙
      ap (λ (ls : List Level). take n ls) (filter-append (λ (l : Level). serves l.serves side) (take (i + 1) levels) (drop (i + 1) levels)) ∙
      take_at (chain side (take (i + 1) levels)) (chain side (drop (i + 1) levels)) n e

-- One cache more.
module _ (side : Side) (address : ℕ) (levels : List Level) (contents : List Content) (start : List Held) (i visited spent : ℕ)
    (level : Level) (content : Content) (same : AreOfLevels levels contents) (within : i < length levels)
    (level_is : level ≡ get_or levels i level) (content_is : content ≡ get_or contents i content)
    (walked : IsWalked side address levels start (held_of levels contents) i visited spent) where
  size : i < length (held_of levels contents)
  size = rw (length-held_of levels contents same) within

  drops : drop i (held_of levels contents) ≡ holding level content ∷ drop (i + 1) (held_of levels contents)
  drops = drop_more (held_of levels contents) i (holding level content) size ∙
      ap (λ (h : Held). h ∷ drop (i + 1) (held_of levels contents)) (held-get levels contents i level content same within level_is content_is)

  takes : take (i + 1) (held_of levels contents) ≡ take i (held_of levels contents) ++ holding level content ∷ []
  takes = take_more (held_of levels contents) i (holding level content) size ∙
      ap (λ (h : Held). take i (held_of levels contents) ++ h ∷ []) (held-get levels contents i level content same within level_is content_is)

  -- It doesn't serve the side.
  pub walked-past : serves level.serves side ≡ false →
      IsWalked side address levels start (held_of levels contents) (i + 1) visited spent
  walked-past e =
      let rest : Went = goes side address (drop (i + 1) (held_of levels contents)) in
      let step = ap (goes side address) drops ∙ goes-past side address (holding level content) (drop (i + 1) (held_of levels contents)) e in
      let few : visited ≤ i = walked.few in
      let low : spent ≤ i * most_latency = walked.low in
      record {
        caches = walked.caches ∙ ap (λ (w : Went). visited + w.visit.caches) step;
        hit = walked.hit ∙ ap (λ (w : Went). w.visit.hit) step;
        after = walked.after ∙ ap (λ (w : Went). take i (held_of levels contents) ++ w.after) step ∙
            sym (append_assoc (take i (held_of levels contents)) (holding level content ∷ []) rest.after) ∙
            ap (λ (hs : List Held). hs ++ rest.after) (sym takes);
        passed = walked.passed ∙ ap (λ (ls : List Level). length ls) (sym (chain-past side levels i level within level_is e));
        cycles = walked.cycles ∙ ap latencies (sym (chain-past side levels i level within level_is e));
        few = omega arith;
        low = omega arith;
      }

  -- It serves the side, and is touched.
  module _ (serve : serves level.serves side ≡ true) (new : Content)
      (new_is : new ≡ record content { blocks = touching content.shape content.blocks (block_in level.shape address) }) where
    shapes : content.shape ≡ level.shape
    shapes = same-at levels contents i level content same within level_is content_is

    pub same-touched : AreOfLevels levels (set contents i new)
    same-touched = same-set levels contents i content new same content_is (ap (λ (k : Content). k.shape) new_is)

    touched_held : holding level new ≡ touch_in (holding level content) address
    touched_held = ap (λ (k : Content). holding level k) new_is ∙
        ap (λ s. record { level = level; blocks = touching s content.blocks (block_in level.shape address) }) shapes

    now_set : held_of levels (set contents i new) ≡ set (held_of levels contents) i (holding level new)
    now_set = held-set levels contents i level new same within level_is

    counted : visited + 1 ≡ length (chain side (take (i + 1) levels))
    counted =
        let e = ap (λ (ls : List Level). length ls) (chain-more side levels i level within level_is serve) ∙ length_push (chain side (take i levels)) level in
        omega (arith, walked.passed, e)

    paid : spent + level.latency ≡ latencies (chain side (take (i + 1) levels))
    paid =
        let e = ap latencies (chain-more side levels i level within level_is serve) ∙ latencies-more (chain side (take i levels)) level in
        omega (arith, walked.cycles, e)

    dear : spent + level.latency ≤ (i + 1) * most_latency
    dear = let low : spent ≤ i * most_latency = walked.low in let limit : level.latency ≤ most_latency = level.latency_limit in omega arith

    -- It doesn't hold the block.
    pub walked-miss : false ≡ holds content.shape content.blocks (block_in level.shape address) →
        IsWalked side address levels start (held_of levels (set contents i new)) (i + 1) (visited + 1) (spent + level.latency)
    walked-miss e =
        let rest : Went = goes side address (drop (i + 1) (held_of levels contents)) in
        let found : finds_in (holding level content) address ≡ false =
        ap (λ s. holds s content.blocks (block_in level.shape address)) (sym shapes) ∙ sym e in
        let step = ap (goes side address) drops ∙
        goes-miss side address (holding level content) (drop (i + 1) (held_of levels contents)) serve found in
        let others : drop (i + 1) (held_of levels (set contents i new)) ≡ drop (i + 1) (held_of levels contents) =
        ap (drop (i + 1)) now_set ∙ drop-set-lt (i + 1) (held_of levels contents) i (holding level new) (omega arith) in
        let front : take (i + 1) (held_of levels (set contents i new)) ≡ take i (held_of levels contents) ++ touch_in (holding level content) address ∷ [] =
        ap (take (i + 1)) now_set ∙ take_more_set (held_of levels contents) i (holding level new) size ∙
        ap (λ (h : Held). take i (held_of levels contents) ++ h ∷ []) touched_held in
        let few : visited ≤ i = walked.few in
        record {
          caches = walked.caches ∙ ap (λ (w : Went). visited + w.visit.caches) step ∙
              (let n : ℕ = rest.visit.caches in let f : visited + suc rest.visit.caches ≡ visited + 1 + rest.visit.caches = omega arith in f) ∙
              ap (λ (hs : List Held). visited + 1 + (goes side address hs).visit.caches) (sym others);
          hit = walked.hit ∙ ap (λ (w : Went). w.visit.hit) step ∙ ap (λ (hs : List Held). (goes side address hs).visit.hit) (sym others);
          after = walked.after ∙ ap (λ (w : Went). take i (held_of levels contents) ++ w.after) step ∙
              sym (append_assoc (take i (held_of levels contents)) (touch_in (holding level content) address ∷ []) rest.after) ∙
              ap₂ (λ (front hs : List Held). front ++ (goes side address hs).after) (sym front) (sym others);
          passed = counted;
          cycles = paid;
          few = omega arith;
          low = dear;
        }

    -- It holds the block.
    module _ (held : true ≡ holds content.shape content.blocks (block_in level.shape address)) where
      stop : goes side address (drop i (held_of levels contents)) ≡ record {
        visit = record { caches = 1; hit = true };
        after = touch_in (holding level content) address ∷ drop (i + 1) (held_of levels contents);
      }
      stop = ap (goes side address) drops ∙ goes-hit side address (holding level content) (drop (i + 1) (held_of levels contents)) serve
          (ap (λ s. holds s content.blocks (block_in level.shape address)) (sym shapes) ∙ sym held)

      reached : (goes side address start).visit.caches ≡ visited + 1
      reached = walked.caches ∙ ap (λ (w : Went). visited + w.visit.caches) stop

      pub visit-hit : length levels ≤ most_levels →
          IsVisit side levels (goes side address start).visit (record { caches = visited + 1; hit = true; cycles = spent + level.latency })
      visit-hit few = record {
        caches = sym reached;
        hit = sym (walked.hit ∙ ap (λ (w : Went). w.visit.hit) stop);
        cycles = paid ∙ ap latencies (sym (chain-front side levels i level within level_is (goes side address start).visit.caches
            (sym counted ∙ sym reached)));
        low = let d = dear in omega (arith, d);
      }

      pub after-hit : held_of levels (set contents i new) ≡ (goes side address start).after
      after-hit =
          let next : suc i ≡ i + 1 = omega arith in
          now_set ∙ set_split (held_of levels contents) i (holding level new) size ∙
          ap₂ (λ (h : Held) (n : ℕ). take i (held_of levels contents) ++ h ∷ drop n (held_of levels contents)) touched_held next ∙
          sym (walked.after ∙ ap (λ (w : Went). take i (held_of levels contents) ++ w.after) stop)

content-at : (levels : List Level) (contents : List Content) (i : ℕ) → AreOfLevels levels contents → i < length levels →
    (content : Content) × (content ≡ get_or contents i content)
content-at [] contents i same h = absurd (omega arith)
content-at (l ∷ levels) [] i same h = absurd same
content-at (l ∷ levels) (k ∷ contents) zero same h = (k, refl)
content-at (l ∷ levels) (k ∷ contents) (suc i) same h = content-at levels contents i same.1 (omega arith)

pub walked-by : (side : Side) (address : ℕ) (levels : List Level) (contents : List Content) (start : List Held) (i visited spent : ℕ)
    (level : Level) → AreOfLevels levels contents → i < length levels → level ≡ get_or levels i level →
    IsWalked side address levels start (held_of levels contents) i visited spent → serves level.serves side ≡ false →
    IsWalked side address levels start (held_of levels contents) (i + 1) visited spent
walked-by side address levels contents start i visited spent level same within level_is walked e =
    let there = content-at levels contents i same within in
    walked-past side address levels contents start i visited spent level there.0 same within level_is there.1 walked e

-- All caches were gone through.
module _ (side : Side) (address : ℕ) (levels : List Level) (contents : List Content) (start : List Held) (i visited spent : ℕ)
    (same : AreOfLevels levels contents) (end : length levels ≤ i) (upto : i ≤ length levels)
    (walked : IsWalked side address levels start (held_of levels contents) i visited spent) where
  nothing : drop i (held_of levels contents) ≡ []
  nothing = drop_all i (held_of levels contents) (rw (length-held_of levels contents same) end)

  pub visit-end : (visit : Visit) → visit.caches ≡ visited → visit.hit ≡ false → visit.cycles ≡ spent → length levels ≤ most_levels →
      IsVisit side levels (goes side address start).visit visit
  visit-end visit e f g few =
      let whole : take i levels ≡ levels = take_all i levels end in
      let reached : (goes side address start).visit.caches ≡ visited =
      walked.caches ∙ ap (λ (hs : List Held). visited + (goes side address hs).visit.caches) nothing ∙ omega arith in
      let low : spent ≤ i * most_latency = walked.low in
      record {
        caches = e ∙ sym reached;
        hit = f ∙ sym (walked.hit ∙ ap (λ (hs : List Held). (goes side address hs).visit.hit) nothing);
        cycles = g ∙ walked.cycles ∙ ap (λ (ls : List Level). latencies (chain side ls)) whole ∙
            sym (ap latencies (take_all (goes side address start).visit.caches (chain side levels)
            (let p : visited ≡ length (chain side levels) = walked.passed ∙ ap (λ (ls : List Level). length (chain side ls)) whole in
            omega (arith, p, reached))));
        low = omega (arith, g, low);
      }

  pub after-end : held_of levels contents ≡ (goes side address start).after
  after-end = sym (walked.after ∙ ap (λ (hs : List Held). take i (held_of levels contents) ++ (goes side address hs).after) nothing ∙
      append-nil (take i (held_of levels contents)) ∙ take_all i (held_of levels contents) (rw (length-held_of levels contents same) end))

-- The whole visit, memory among what is visited where no cache held the block.
module _ (side : Side) (levels levels' : List Level) (memory : ℕ) (visited : Visited) (visit : Visit) (same : levels' ≡ levels)
    (is : IsVisit side levels visited visit) where
  pub visit-cached : visit.hit ≡ true → visit ≡ visit_of side levels' memory visited
  visit-cached held = λ j. record {
    caches = is.caches j;
    hit = is.hit j;
    cycles = (total ∙ ap (λ (ls : List Level). cycles_of side ls memory visited) (sym same)) j;
  }
    where
      total : visit.cycles ≡ cycles_of side levels memory visited
      total =
          let hit : visited.hit ≡ true = sym is.hit ∙ held in
          let spent = is.cycles in
          ap (λ n. n) spent ∙ (let e : latencies (take visited.caches (chain side levels)) ≡ latencies (take visited.caches (chain side levels)) + 0 = omega arith in e) ∙
          ap (λ (b : Bool). latencies (take visited.caches (chain side levels)) + cond b 0 memory) (sym hit)

  pub visit-memory : visit.hit ≡ false → (cycles : ℕ) → cycles ≡ visit.cycles + memory →
      record visit { cycles = cycles } ≡ visit_of side levels' memory visited
  visit-memory missed cycles e = λ j. record {
    caches = is.caches j;
    hit = is.hit j;
    cycles = (e ∙ total ∙ ap (λ (ls : List Level). cycles_of side ls memory visited) (sym same)) j;
  }
    where
      total : visit.cycles + memory ≡ cycles_of side levels memory visited
      total =
          let hit : visited.hit ≡ false = sym is.hit ∙ missed in
          ap (λ n. n + memory) is.cycles ∙
          ap (λ (b : Bool). latencies (take visited.caches (chain side levels)) + cond b 0 memory) (sym hit)
