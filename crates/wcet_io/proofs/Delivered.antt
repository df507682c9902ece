-- What a delivery has done so far, and what one more put adds.
use Rattle.std.proofs.Common.{◌≡◌, ℕ, ◌+◌, ◌≤◌, List, ◌++◌, length, take, drop, Option, sym, ap, subst, ◌∙◌, arith, length-drop, drop-drop, take-add}
use Rattle.std.proofs.KnownBytes.{Appends-trans}
use Rattle.std.specs.Io.KnownBytes.{Appends}

-- a front of the bytes was taken, and the rest is what is left of them
pub record Delivered (bytes rest : List ℕ) (before now : Option (List ℕ)) : Type 0 where
  pub taken : ℕ
  pub within : taken ≤ length bytes
  pub left : rest ≡ drop taken bytes
  pub held : Appends before now (take taken bytes)

-- a put took n bytes of the rest
pub delivered_more : {bytes rest left : List ℕ} {before now after : Option (List ℕ)} (n : ℕ)
    → Delivered bytes rest before now → n ≤ length rest → Appends now after (take n rest)
    → left ≡ drop n rest
    → Delivered bytes left before after
delivered_more {bytes} {rest} {left} {before} {now} {after} n d within took is_left = record {
  taken = d.taken + n;
  within = omega (arith, ap length d.left, length-drop d.taken bytes, d.within);
  left = is_left ∙ ap (drop n) d.left ∙ drop-drop n d.taken bytes;
  held =
      subst (Appends before after)
      (ap (λ l. take d.taken bytes ++ take n l) d.left ∙ sym (take-add d.taken n bytes))
      (Appends-trans before now after _ _ d.held took);
}
