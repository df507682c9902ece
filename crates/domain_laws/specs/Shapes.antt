-- Shapes: what the values of one state table have in common, as the ways of a cache or the keys of a map.
use Rattle.std.specs.Prelude.{ℕ, List}

-- A shape is plain data. Numbers serve a type with shapes of its own, a pair of shapes serves a pair of
-- values, and a list of keys, each with the shape of its value, a map.
pub data Shape : Type 0 where
  plain : (numbers : List ℕ) → Shape
  pair : (left right : Shape) → Shape
  no_keys : Shape
  key : (number : ℕ) (value rest : Shape) → Shape

-- Two values have a common shape.
abbrev pub HaveShape : {D : Type 0} → (D → Shape → Type 0) → D → D → Type 0
HaveShape has x y = (s : Shape) × has x s × has y s
