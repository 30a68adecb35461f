-- What the private steps make of a line of the table, and what they ask of it, so that nothing on the way leaves 64 bits.
use Rattle.std.specs.Prelude.{◌≤◌, ℤ, pos, nat_abs, ◌+ℤ◌, ◌*ℤ◌}
use Rattle.numbers.specs.Near.{near}
use Rattle.mark.specs.declared.Vec3.{Vec3}
use Rattle.mark.specs.Mark.{vec}
use Rattle.mark.specs.Ranges.{Within}
use Rattle.frames.specs.declared.rows.Line.{Line}
use Rattle.frames.specs.Frame.{micro, linear, componentwise}

-- near(k n/10¹⁴), where n = 10⁹ a + 848,136,811 s
unfoldable pub wide : ℤ → ℤ → ℤ → ℤ
wide k a s = near (k *ℤ (pos 1000000000 *ℤ a +ℤ pos 848136811 *ℤ s)) micro

-- 100 k T + near(k n/10¹⁴): A with k = 1,461, the grains in a micrometre, B with 1
unfoldable pub term : ℤ → ℤ → ℤ → ℤ → ℤ → ℤ
term k t d m s = pos 100 *ℤ k *ℤ t +ℤ near (k *ℤ linear d m s) micro

-- without rotation: 100 k T + near(k D m/100,000)
unfoldable pub straight : ℤ → ℤ → ℤ → ℤ → ℤ
straight k t d m = pos 100 *ℤ k *ℤ t +ℤ near (k *ℤ d *ℤ m) 100000

unfoldable pub terms : ℤ → Line → Vec3 → Vec3
terms k p m = componentwise (term k) p m

-- a rule for one component, of T, D and the mark, for three
abbrev pub threefold : (ℤ → ℤ → ℤ → ℤ) → Line → Vec3 → Vec3
threefold f p m = vec (f p.t.x p.d m.x) (f p.t.y p.d m.y) (f p.t.z p.d m.z)

-- T and D are at most 10,000 in size, each R 500, in the table's units
pub record LineWithin (p : Line) : Type 0 where
  pub t : Within 10000 p.t
  pub d : nat_abs p.d ≤ 10000
  pub r : Within 500 p.r
