-- Ages of the blocks of one cache set with W ways: how many blocks were touched after a block (Ferdinand and Wilhelm
-- 1999). A block that isn't in the set has the age W.
use Rattle.std.specs.Prelude.{ℕ, suc, ◌+◌, ◌≤◌, ◌==◌, if◌then◌else◌, min, max, nat_le, nat_lt, List, [], ◌∷◌}

-- The age of a block in a list, whose first block has the age n.
abbrev pub age_from : (ways n : ℕ) → List ℕ → (block : ℕ) → ℕ
age_from ways n [] block = ways
age_from ways n (x ∷ xs) block = if x == block then n else age_from ways (suc n) xs block

-- The true age of a block: how many blocks stand before it in its set.
abbrev pub true_age : (ways : ℕ) → List ℕ → (block : ℕ) → ℕ
true_age ways blocks block = age_from ways 0 blocks block

-- Each age is at least the true one.
abbrev pub AreUpperAges : (ways : ℕ) → (age : ℕ → ℕ) → List ℕ → Type 0
AreUpperAges ways age blocks = (block : ℕ) → true_age ways blocks block ≤ age block

-- Each age is at most the true one.
abbrev pub AreLowerAges : (ways : ℕ) → (age : ℕ → ℕ) → List ℕ → Type 0
AreLowerAges ways age blocks = (block : ℕ) → age block ≤ true_age ways blocks block

-- An age that is below another one grows by one.
abbrev pub grown_below : (age other : ℕ) → ℕ
grown_below age other = if nat_lt age other then age + 1 else age

-- An age that is at most another one grows by one, up to the ways.
abbrev pub grown_up_to : (ways age other : ℕ) → ℕ
grown_up_to ways age other = if nat_le age other then min (age + 1) ways else age

-- Upper ages after a sure touch: the block gets the age 0, and each block that was younger than it grows by one. This is
-- what a touch does to true ages too.
abbrev pub sure_upper : (block : ℕ) → (age : ℕ → ℕ) → (other : ℕ) → ℕ
sure_upper block age other = if other == block then 0 else grown_below (age other) (age block)

-- The greatest age of some blocks.
abbrev pub oldest : (age : ℕ → ℕ) → List ℕ → ℕ
oldest age [] = 0
oldest age (block ∷ blocks) = max (age block) (oldest age blocks)

-- Upper ages after a doubtful touch: a block grows by one if some other candidate is older.
abbrev pub doubtful_upper : (candidates : List ℕ) → (age : ℕ → ℕ) → (other : ℕ) → ℕ
doubtful_upper candidates age other = grown_below (age other) (oldest age candidates)

-- Lower ages after a sure touch: the block gets the age 0, and each block that was at most as old grows by one.
abbrev pub sure_lower : (ways block : ℕ) → (age : ℕ → ℕ) → (other : ℕ) → ℕ
sure_lower ways block age other = if other == block then 0 else grown_up_to ways (age other) (age block)
