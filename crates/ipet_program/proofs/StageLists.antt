-- The further stages of a net, access by access.
use Rattle.std.proofs.Common.{◌≡◌, ℕ, zero, suc, ◌+◌, ◌<◌, ◌≤◌, List, [], ◌∷◌, ◌++◌, length, get_or, drop, refl, sym, ◌∙◌, ap, ap₂, subst, arith}
use Rattle.std.specs.List.{AllZip}
use Rattle.std.proofs.lemmas.List.{append_assoc, drop_more, length-append}
use Rattle.cache_config.specs.Instructions.{Costs}
use Rattle.flow_net.specs.declared.letter.Level2.{Level2}
use Rattle.flow_net.specs.declared.net.Access.{Access}
use Rattle.flow_net.specs.declared.net.Net.{Net}
use Rattle.ipet_program.specs.Stages.{stages_by, stages_from}
use Rattle.ipet_program.specs.declared.program.Stage.{Stage}

-- What holds of two lists item by item holds of the items at a place.
pub zip-read : {A B : Type 0} (R : A → B → Type 0) (xs : List A) (ys : List B) (i : ℕ) (d : A) (e : B) → AllZip R xs ys →
    i < length xs → R (get_or xs i d) (get_or ys i e)
zip-read R [] [] i d e all less = absurd (omega (arith, less))
zip-read R [] (y ∷ ys) i d e all less = absurd all
zip-read R (x ∷ xs) [] i d e all less = absurd all
zip-read R (x ∷ xs) (y ∷ ys) zero d e all less = all.0
zip-read R (x ∷ xs) (y ∷ ys) (suc i) d e all less = zip-read R xs ys i d e all.1 (omega (arith, less))

-- An access has a stage for each entry of its row.
pub length-stages_from : (net : Net) (costs : Costs) (number : ℕ) (access : Access) (before level column : ℕ) (row : List Level2) →
    length (stages_from net costs number access before level column row) ≡ length row
length-stages_from net costs number access before level column [] = refl
length-stages_from net costs number access before level column (entry ∷ more) =
    ap suc (length-stages_from net costs number access column (suc level) (suc column) more)

-- The stages of an access are added to those before it.
pub stages_by-next : (net : Net) (costs : Costs) (index columns : ℕ) (accesses : List Access) (rows : List (List Level2)) (d : Access)
    (e row : List Level2) (whole before after : List Stage) →
    before ++ stages_by net costs (suc index) (suc (columns + length before)) (drop index accesses) (drop index rows) ≡ whole →
    index < length accesses → index < length rows → row ≡ get_or rows index e →
    after ≡ before ++ stages_from net costs (index + 1) (get_or accesses index d) 0 1 (suc (columns + length before)) row →
    after ++ stages_by net costs (suc (index + 1)) (suc (columns + length after)) (drop (index + 1) accesses) (drop (index + 1) rows)
    ≡ whole
stages_by-next net costs index columns accesses rows d e row whole before after known inside within read added =
    let access = get_or accesses index d in
    let column = suc (columns + length before) in
    let front = stages_from net costs (index + 1) access 0 1 column row in
    let more = stages_by net costs (suc (index + 1)) (column + length row) (drop (index + 1) accesses) (drop (index + 1) rows) in
    let long : suc (columns + length after) ≡ column + length row =
    omega (
      arith,
      ap length added,
      length-append before front,
      length-stages_from net costs (index + 1) access 0 1 column row,
    ) in
    let first : drop index accesses ≡ access ∷ drop (index + 1) accesses = drop_more accesses index d inside in
    let second : drop index rows ≡ row ∷ drop (index + 1) rows =
    drop_more rows index e within ∙ ap (λ (r : List Level2). r ∷ drop (index + 1) rows) (sym read) in
    let number : suc index ≡ index + 1 = omega arith in
    ap (λ (k : ℕ). after ++ stages_by net costs (suc (index + 1)) k (drop (index + 1) accesses) (drop (index + 1) rows)) long
    ∙ ap (λ (xs : List Stage). xs ++ more) added ∙ append_assoc before front more
    ∙ ap (λ (xs : List Stage). before ++ xs)
    (sym (ap₂ (stages_by net costs (suc index) column) first second
    ∙ ap (λ (n : ℕ). stages_by net costs n column (access ∷ drop (index + 1) accesses) (row ∷ drop (index + 1) rows)) number))
    ∙ known
