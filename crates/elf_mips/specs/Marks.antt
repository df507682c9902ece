-- Which records an image may hold.
use Rattle.std.specs.Prelude.{◌%◌, ◌==◌, ◌&&◌, ◌||◌, nat_le, nat_lt, Bool}
use Rattle.elf_mips.specs.declared.mark.Mark.{Mark}

-- Kind 1 bounds a loop by x, at least 1; y is 0. Kind 2 names a target x, a multiple of 4; y is 0.
-- Kind 3 names a range from x to below y, which isn't empty. Each stands at a multiple of 4.
abbrev pub is_lawful : Mark → Bool
is_lawful m = m.address % 4 == 0 &&
    (m.kind == 1 && nat_le 1 m.x && m.y == 0
    || m.kind == 2 && m.x % 4 == 0 && m.y == 0
    || m.kind == 3 && nat_lt m.x m.y)
