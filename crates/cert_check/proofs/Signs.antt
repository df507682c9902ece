-- Numbers with a sign at the front of bytes.
use Rattle.std.proofs.Common.{◌≡◌, ℕ, suc, ◌<◌, ◌+◌, ◌^◌, List, ◌∷◌, ◌++◌, get_or, Option, Some, refl, sym, ap, subst, ◌∙◌, arith}
use Rattle.std.specs.Prelude.{ℤ, pos, negsuc, FitsSigned}
use Rattle.std.specs.Fmt.{decimal, signed_decimal}
use Rattle.std.specs.Int.{w128}
use Rattle.cert_check.specs.Numbers.{IsDigit, IsStop, Stands}
use Rattle.cert_check.proofs.Decimal.{digit_in, some_digit}
use Rattle.cert_check.proofs.Lists.{tail_same}

pub below_half : (n : ℕ) → FitsSigned w128 (negsuc n) → n < 2 ^ 127
below_half n fits = omega (arith, fits.sfits)

pub half : (n : ℕ) → FitsSigned w128 (pos n) → n < 2 ^ 127
half n fits = omega (arith, fits.sfits)

-- What stands behind a `-`.
pub record IsNegative (digits : List ℕ) (z : ℤ) (stop : ℕ) (rest : List ℕ) : Type 0 where
  pub n : ℕ
  pub is : z ≡ negsuc n
  pub stands : Stands digits (n + 1) stop rest

-- A number behind a `-` is below 0: no digit is a `-`.
pub negative : (bytes digits : List ℕ) (z : ℤ) (stop : ℕ) (rest : List ℕ) → FitsSigned w128 z → IsStop stop →
    bytes ≡ 45 ∷ digits → bytes ≡ signed_decimal z ++ stop ∷ rest → IsNegative digits z stop rest
negative bytes digits (pos n) stop rest fits ends e is =
    let small : n < 2 ^ 128 = omega (arith, half n fits) in
    let first : IsDigit (get_or bytes 0 0) =
    digit_in bytes n stop rest 0 small (record { ends = ends; is = is }) (some_digit n small) in
    let minus : IsDigit 45 = subst (λ (b : List ℕ). IsDigit (get_or b 0 0)) e first in
    absurd (omega (arith, minus))
negative bytes digits (negsuc n) stop rest fits ends e is =
    let same : suc n ≡ n + 1 = omega arith in
    record {
      n = n;
      is = refl;
      stands = record { ends = ends; is = subst (λ (m : ℕ). digits ≡ decimal m ++ stop ∷ rest) same (tail_same (sym e ∙ is)) };
    }
