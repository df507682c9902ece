-- One set of a cache with least-recently-used replacement: distinct blocks, the most recent one first.
use Rattle.std.specs.Prelude.{ℕ, List, ◌∷◌, take}
pub use Rattle.link_table.specs.Items.{is_in, AreApart, without}

-- A touch puts the block at the front. Where it didn't stand in a full set, the last block goes.
abbrev pub touched : (ways : ℕ) → List ℕ → (block : ℕ) → List ℕ
touched ways blocks block = take ways (block ∷ without blocks block)
