-- The innermost loop that holds a unit: that of the header with the greatest rank.
use Rattle.std.proofs.Common.{◌≡◌, ℕ, ◌≤◌, ◌⊎◌, inl, inr, subst, arith}
use Rattle.elf_mips.specs.declared.image.Image.{Image}
use Rattle.net_model.specs.Functions.{IsReached}
use Rattle.net_model.specs.Loops.{HasRanks, IsInBody, IsInnermost, head}
use Rattle.loop_nest.proofs.Dominance.{body-header, body-reached}
use Rattle.loop_nest.proofs.Laminar.{apart, laminar}
use Rattle.loop_nest.proofs.ForwardWays.{AreToldApart}
use Rattle.loop_nest.proofs.HeaderRank.{header-rank}

-- A header of no lesser rank than another that shares a unit with it lies in the other's body.
within-lesser : (image : Image) (entry : ℕ) (ranks : HasRanks image entry) → AreToldApart image entry → (header other address : ℕ) →
    IsInBody image entry header address → IsInBody image entry other address → ranks.rank other ≤ ranks.rank header →
    ((a b : ℕ) → IsReached image entry a → IsReached image entry b → ranks.rank a ≡ ranks.rank b → a ≡ b) →
    IsInBody image entry other header
within-lesser image entry ranks told header other address body second lesser single =
    by_nest (laminar image entry header other address body second) where
      own : IsInBody image entry header header
      own = head (body-header image entry header address body)

      by_nest : ((header ≡ other) ⊎ ((IsInBody image entry other header) ⊎ (IsInBody image entry header other))) →
          IsInBody image entry other header
      by_nest (inl same) = subst (λ (h : ℕ). IsInBody image entry h header) same own
      by_nest (inr (inl within)) = within
      by_nest (inr (inr around)) =
          let least : ranks.rank header ≤ ranks.rank other = header-rank image entry ranks told header other around in
          let equal : ranks.rank header ≡ ranks.rank other = omega (arith, least, lesser) in
          let same : header ≡ other =
          single header other (body-reached image entry header header own) (body-reached image entry header other around) equal in
          subst (λ (h : ℕ). IsInBody image entry h header) same own

-- Where no two units have one rank, the header of the greatest rank is the innermost.
pub innermost-of : (image : Image) (entry : ℕ) (ranks : HasRanks image entry) → AreToldApart image entry → (header address : ℕ) →
    IsInBody image entry header address →
    ((other : ℕ) → IsInBody image entry other address → ranks.rank other ≤ ranks.rank header) →
    ((a b : ℕ) → IsReached image entry a → IsReached image entry b → ranks.rank a ≡ ranks.rank b → a ≡ b) →
    IsInnermost image entry header address
innermost-of image entry ranks told header address body greatest single = record {
  held = body;
  inner = λ other second. within-lesser image entry ranks told header other address body second (greatest other second) single;
}

-- A unit has one innermost loop at most.
pub innermost-one : (image : Image) (entry header other address : ℕ) → IsInnermost image entry header address →
    IsInnermost image entry other address → header ≡ other
innermost-one image entry header other address one another =
    apart image entry header other (one.inner other another.held) (another.inner header one.held)
