-- Which arcs are no back arcs, and which of those close a cycle.
use Rattle.std.proofs.Common.{◌≡◌, ℕ, List, [], ◌∷◌, Contains, refl, subst, arith}
use Rattle.std.proofs.lemmas.List.Elements.{Contains-append_right}
use Rattle.elf_mips.specs.declared.image.Image.{Image}
use Rattle.net_model.specs.Functions.{IsReached}
use Rattle.net_model.specs.Functions.{GoesOn, IsWay}
use Rattle.net_model.specs.Loops.{IsBackArc, IsForwardWay, IsIrreducible, IsReachedWithout, begins, goes}

first-listed : (x : ℕ) (more : List ℕ) → Contains (x ∷ more) x
first-listed x more = (0, Prim.omega arith, refl)

-- What is reached without a header goes on to what is, by a way that the header doesn't lie on.
pub without-way : (image : Image) (entry header : ℕ) (way : List ℕ) (from to : ℕ) → IsReachedWithout image entry header from →
    IsWay image from way to → (Contains way header → ⊥) → IsReachedWithout image entry header to
without-way image entry header [] from to without same avoids = subst (IsReachedWithout image entry header) same without
without-way image entry header (later ∷ more) from to without way avoids =
    without-way image entry header more later to
    (goes from later without way.0 (λ same. avoids (subst (λ (h : ℕ). Contains (later ∷ more) h) same (first-listed later more))))
    way.1 (λ here. avoids (Contains-append_right (later ∷ []) more header here))

-- A way from the entry to the source of an arc that avoids the arc's end shows that the arc is no back arc.
pub not-back : (image : Image) (entry from header : ℕ) (way : List ℕ) → IsWay image entry way from → (entry ≡ header → ⊥) →
    (Contains way header → ⊥) → IsReachedWithout image entry header from
not-back image entry from header way leads apart avoids =
    without-way image entry header way entry from (begins apart) leads avoids

-- An arc that is no back arc closes a cycle without back arcs where a forward way leads from its end to its source.
pub irreducible-arc : (image : Image) (entry from header : ℕ) → IsReached image entry from → GoesOn image from header →
    (IsBackArc image entry from header → ⊥) → (way : List ℕ) → IsForwardWay image entry header way from → IsIrreducible image entry from
irreducible-arc image entry from header reached on ahead way back = record {
  reached = reached;
  later = header;
  more = way;
  begins = record { goes = on; forward = ahead };
  back = back;
}
