-- Lists of numbers as sets.
use Rattle.std.specs.Prelude.{ℕ, ◌<◌, List, All, AllPairs, Contains}

-- The numbers of a list, rising, each once.
pub record IsSetOf (given listed : List ℕ) : Type 0 where
  pub rising : AllPairs (λ (a b : ℕ). a < b) listed
  pub sound : All (Contains given) listed
  pub whole : All (Contains listed) given
