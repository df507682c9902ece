-- Words at the front of bytes: one that is there is taken off, and what is behind it is told by it.
use Rattle.std.proofs.Common.{◌≡◌, ◌≢◌, ℕ, List, ◌++◌, Option, Some, None, sym, ap, ◌∙◌, option_map, IfSome, Bor}
use Rattle.std.specs.Option.{MatchOption}
use Rattle.std.proofs.lemmas.List.{append_cancel_left}

pub word_takes : (bytes word : List ℕ) (r : Option (Bor (List ℕ))) →
    MatchOption r ((rest : List ℕ) → bytes ≢ word ++ rest) (λ x. bytes ≡ word ++ x.now) →
    IfSome r (λ rest. bytes ≡ word ++ rest.now)
word_takes bytes word None h = tt
word_takes bytes word (Some x) h = h

pub word_again : (bytes word : List ℕ) (r : Option (Bor (List ℕ))) →
    MatchOption r ((rest : List ℕ) → bytes ≢ word ++ rest) (λ x. bytes ≡ word ++ x.now) →
    (rest : List ℕ) → bytes ≡ word ++ rest → option_map {U = List ℕ} (λ r. r.now) r ≡ Some rest
word_again bytes word None h rest e = absurd (h rest e)
word_again bytes word (Some x) h rest e =
    ap (λ (t : List ℕ). Some t) (append_cancel_left word x.now rest (sym h ∙ e))
