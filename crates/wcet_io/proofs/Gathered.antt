-- What a gathering has done so far, and what one more piece adds.
use Rattle.std.proofs.Common.{◌≡◌, ℕ, ◌+◌, ◌-◌, ◌≤◌, List, ◌++◌, length, take, Option, None, Some, IfSome}
use Rattle.std.proofs.Common.{sym, ap, ◌∙◌, arith, length-append, length-take-le, take-add}
use Rattle.wcet_io.specs.Counts.{raised}
use Rattle.wcet_io.specs.Files.{Places}

-- what came is a front of what is told
abbrev pub IsFront : Option (List ℕ) → List ℕ → Type 0
IsFront told bytes = IfSome told (λ file. bytes ≡ take (length bytes) file)

-- the bytes are a front of what is told, within the limit, and as many as the shelf placed
pub record Gathered (limit : ℕ) (told : Option (List ℕ)) (bytes : List ℕ) (before now : ℕ) : Type 0
  where
    pub fits : length bytes ≤ limit
    pub front : IsFront told bytes
    pub came : raised now 0 ≡ raised before (length bytes)
    pub few : now ≤ before + length bytes

-- how long the bytes are after a piece
grown : (bytes buf : List ℕ) (n : ℕ) → n ≤ length buf
    → length (bytes ++ take n buf) ≡ length bytes + n
grown bytes buf n within =
    length-append bytes (take n buf) ∙ ap (λ k. length bytes + k) (length-take-le n buf within)

-- a piece after a front makes a longer front
front_more : (told : Option (List ℕ)) (bytes buf : List ℕ) (n : ℕ) → n ≤ length buf
    → IsFront told bytes → IfSome told (λ file. Places file (length bytes) n buf)
    → IsFront told (bytes ++ take n buf)
front_more None bytes buf n within front placed = tt
front_more (Some file) bytes buf n within front placed =
    ap (λ l. l ++ take n buf) front
    ∙ ap (λ l. take (length bytes) file ++ l) placed.bytes
    ∙ sym (take-add (length bytes) n file)
    ∙ ap (λ k. take k file) (sym (grown bytes buf n within))

-- a piece of n bytes came and fits
pub gathered_more : {limit : ℕ} {told : Option (List ℕ)} {bytes : List ℕ} {before now : ℕ}
    (buf : List ℕ) (n after : ℕ) → Gathered limit told bytes before now
    → n ≤ length buf → n ≤ limit - length bytes
    → IfSome told (λ file. Places file (length bytes) n buf) → after ≡ raised now n
    → Gathered limit told (bytes ++ take n buf) before after
gathered_more {limit} {told} {bytes} {before} {now} buf n after g within fits placed counted =
    let size = grown bytes buf n within in
    record {
      fits = omega (arith, size, g.fits, fits);
      front = front_more told bytes buf n within g.front placed;
      came = omega (arith, size, g.came, counted);
      few = omega (arith, size, g.few, counted);
    }
