-- Rows of accesses of whose classes nothing is known fit their chains, and what they say holds of every walk.
use Rattle.std.proofs.Common.{◌≡◌, ℕ, zero, suc, ◌+◌, ◌-◌, ◌≤◌, ◌<◌, List, [], ◌∷◌, ◌++◌, length, All, Some, refl, sym, ap, ap₂, ◌∙◌, subst, append_assoc, arith}
use Rattle.std.proofs.lemmas.List.Elements.{All-cons, All-nil}
use Rattle.std.proofs.lemmas.Option.{none-some, same_Some}
use Rattle.std.specs.List.{AllZip}
use Rattle.age_model.specs.Classes.{AreLawful, FollowLetters, HasLetters, HasRows, HoldsOfWalks, IsRowOf, NamesHolding, SaysNothing, TableHolds, chain_length}
use Rattle.age_model.specs.Moves.{Moves, side_at, side_by}
use Rattle.cache_config.specs.Chains.{side_of}
use Rattle.flow_net.specs.Letters.{next_letter}
use Rattle.flow_net.specs.Numbers.{item_at}
use Rattle.flow_net.specs.declared.letter.Class.{Class}
use Rattle.flow_net.specs.declared.letter.Class.TheVariants.{Unclassified}
use Rattle.flow_net.specs.declared.letter.ClassTable.{ClassTable}
use Rattle.flow_net.specs.declared.letter.Letter.{Letter}
use Rattle.flow_net.specs.declared.letter.Letter.TheVariants.{Always, Never, Uncertain}
use Rattle.flow_net.specs.declared.letter.Level2.{Level2}
use Rattle.flow_net.specs.declared.net.Access.{Access}
use Rattle.flow_net.specs.declared.net.Net.{Net}
use Rattle.level_filter.specs.Unknown.{unknown_from, unknown_row_of, unknown_rows}
use Rattle.level_filter.proofs.Arriving.{always-arrives}
use Rattle.lru_concrete.specs.Chains.{Held}
use Rattle.lru_concrete.specs.declared.level.Level.{Level}
use Rattle.net_model.specs.Accesses.{kind_of}
use Rattle.net_model.specs.Claims.{ClassHolds, LetterHolds}
use Rattle.net_model.specs.Moments.{Moment}
use Rattle.net_model.specs.Walks.{IsWalk}

-- ---- Each row by itself.
length-unknown : (letter : Letter) (caches : ℕ) → length (unknown_from letter caches) ≡ caches
length-unknown letter zero = refl
length-unknown letter (suc caches) = ap (λ (n : ℕ). suc n) (length-unknown (next_letter letter Unclassified) caches)

names-unknown : (net : Net) (place : ℕ) (letter : Letter) (caches : ℕ) →
    All (λ (entry : Level2). NamesHolding net place entry.class) (unknown_from letter caches)
names-unknown net place letter zero = All-nil (λ (entry : Level2). NamesHolding net place entry.class)
names-unknown net place letter (suc caches) =
    All-cons (λ (entry : Level2). NamesHolding net place entry.class) (record { letter = letter; class = Unclassified })
    (unknown_from (next_letter letter Unclassified) caches) tt (names-unknown net place (next_letter letter Unclassified) caches)

says-nothing : (letter : Letter) → SaysNothing letter Unclassified
says-nothing Never = refl
says-nothing Always = tt
says-nothing Uncertain = tt

follow-unknown : (letter : Letter) (caches : ℕ) → FollowLetters letter (unknown_from letter caches)
follow-unknown letter zero = tt
follow-unknown letter (suc caches) =
    (refl, says-nothing letter, follow-unknown (next_letter letter Unclassified) caches)

-- So many entries begin with the next one.
pub unknown-next : (caches counter : ℕ) (letter next : Letter) (row more : List Level2) → counter < caches →
    more ≡ row ++ record { letter = letter; class = Unclassified } ∷ [] → next ≡ next_letter letter Unclassified →
    row ++ unknown_from letter (caches - counter) ≡ unknown_from Always caches →
    more ++ unknown_from next (caches - (counter + 1)) ≡ unknown_from Always caches
unknown-next caches counter letter next row more low pushed follows so_far =
    let left : caches - counter ≡ suc (caches - (counter + 1)) = omega (arith, low) in
    let entry : Level2 = record { letter = letter; class = Unclassified } in
    let rest : List Level2 = unknown_from (next_letter letter Unclassified) (caches - (counter + 1)) in
    ap₂ (λ (l : List Level2) (n : Letter). l ++ unknown_from n (caches - (counter + 1))) pushed follows
    ∙ append_assoc row (entry ∷ []) rest
    ∙ sym (ap (λ (n : ℕ). row ++ unknown_from letter n) left)
    ∙ so_far

-- ---- The rows of all accesses.
pub rows-unknown : (net : Net) (levels : List Level) (accesses : List Access) →
    AllZip (IsRowOf net levels) accesses (unknown_rows levels accesses)
rows-unknown net levels [] = tt
rows-unknown net levels (access ∷ more) =
    let caches = chain_length levels (side_of (kind_of access.role)) in (
      record { chain = length-unknown Always caches; firsts = names-unknown net access.place Always caches },
      rows-unknown net levels more,
    )

pub letters-unknown : (levels : List Level) (accesses : List Access) → All (FollowLetters Always) (unknown_rows levels accesses)
letters-unknown levels [] = All-nil (FollowLetters Always)
letters-unknown levels (access ∷ more) =
    All-cons (FollowLetters Always) (unknown_row_of levels access) (unknown_rows levels more)
    (follow-unknown Always (chain_length levels (side_of (kind_of access.role)))) (letters-unknown levels more)

-- ---- What they say holds.
module _ (net : Net) (levels : List Level) (moments : List Moment) where
  -- From a letter that says nothing on, nothing is said.
  uncertain-holds : (access level at caches : ℕ) (entry : Level2) → item_at at (unknown_from Uncertain caches) ≡ Some entry →
      LetterHolds access level entry.letter moments × ClassHolds net access level entry.class moments
  uncertain-holds access level zero caches entry there = absurd (none-some entry there)
  uncertain-holds access level (suc at) zero entry there = absurd (none-some entry there)
  uncertain-holds access level (suc zero) (suc caches) entry there = subst
      (λ (found : Level2). LetterHolds access level found.letter moments × ClassHolds net access level found.class moments)
      (same_Some (record { letter = Uncertain; class = Unclassified }) entry there) (tt, tt)
  uncertain-holds access level (suc (suc at)) (suc caches) entry there =
      uncertain-holds access level (suc at) caches entry there

  row-holds : (access : ℕ) (caches : ℕ) → (1 ≤ caches → LetterHolds access 1 Always moments) → (level : ℕ) (entry : Level2) →
      item_at level (unknown_from Always caches) ≡ Some entry →
      LetterHolds access level entry.letter moments × ClassHolds net access level entry.class moments
  row-holds access caches first zero entry there = absurd (none-some entry there)
  row-holds access zero first (suc at) entry there = absurd (none-some entry there)
  row-holds access (suc caches) first (suc zero) entry there = subst
      (λ (found : Level2). LetterHolds access 1 found.letter moments × ClassHolds net access 1 found.class moments)
      (same_Some (record { letter = Always; class = Unclassified }) entry there) (first (omega arith), tt)
  row-holds access (suc caches) first (suc (suc at)) entry there =
      uncertain-holds access (suc (suc at)) (suc at) caches entry there

  -- The row of a number is that of the access of this number.
  some-access : (accesses : List Access) (number : ℕ) (row : List Level2) →
      item_at number (unknown_rows levels accesses) ≡ Some row →
      (access : Access) × (item_at number accesses ≡ Some access) × (row ≡ unknown_row_of levels access)
  some-access [] zero row there = absurd (none-some row there)
  some-access [] (suc at) row there = absurd (none-some row there)
  some-access (access ∷ more) zero row there = absurd (none-some row there)
  some-access (access ∷ more) (suc zero) row there = (access, refl, sym (same_Some (unknown_row_of levels access) row there))
  some-access (access ∷ more) (suc (suc at)) row there = some-access more (suc at) row there

pub hold-unknown : (net : Net) (levels : List Level) (range : ℕ → ℕ → Type 0) (classes : ClassTable) →
    classes.rows ≡ unknown_rows levels net.accesses → HoldsOfWalks net levels range classes
hold-unknown net levels range classes same caches moments lawful walk moves access level row entry there at =
    let found = some-access net levels moments net.accesses access row
    (subst (λ (rows : List (List Level2)). item_at access rows ≡ Some row) same there) in
    let count : ℕ = chain_length levels (side_of (kind_of found.0.role)) in
    let side : side_at net access ≡ side_of (kind_of found.0.role) = ap side_by found.1 in
    row-holds net levels moments access count
    (λ some. always-arrives net levels access
    (subst (λ s. 1 ≤ chain_length levels s) (sym side) some) caches moments lawful.of_levels moves)
    level entry (subst (λ (items : List Level2). item_at level items ≡ Some entry) found.2 at)
