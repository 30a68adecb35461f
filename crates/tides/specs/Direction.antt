-- Numbers in units of 1/E: products, the unit vector of a whole vector, and P.
use Rattle.std.specs.Prelude.{ℕ, ◌^◌, ℤ, pos, ◌-ℤ◌, ◌*ℤ◌}
use Rattle.mark.specs.declared.Vec3.{Vec3}
use Rattle.mark.specs.Mark.{each}
use Rattle.numbers.specs.Near.{near}

-- E, the unit of every fraction of one
abbrev pub E : ℕ
E = 2 ^ 30

-- near(x y/E): the product of two numbers of which one counts in units of 1/E
unfoldable pub times : ℤ → ℤ → ℤ
times x y = near (x *ℤ y) E

-- u = near(m E/L), for each component m of a vector of whole length L
unfoldable pub unit : ℕ → ℤ → ℤ
unit l m = near (m *ℤ pos E) l

abbrev pub units : ℕ → Vec3 → Vec3
units l m = each (unit l) m

-- P = near((3 s2 - E)/2)
unfoldable pub legendre : ℤ → ℤ
legendre s = near (pos 3 *ℤ s -ℤ pos E) 2
