-- The formulas of both tides are steady in the distances: they are made of sums, multiples, products and quotients by a distance.
use Prim.Native.Nat.{ℕ}
use lib.IntN.{pos}
use Rattle.algebra.specs.Fraction.{Fraction, Positive}
use Rattle.mark.specs.declared.Vec3.{Vec3}
use Rattle.laws.specs.Formulas.{Vector, ◌+ᵛ◌, ◌-ᵛ◌, ◌*ᵛ◌, dot, direction, metre, grains}
use Rattle.laws.specs.Formulas.{P2, radial, north, pole, permanent_at, permanent_formula}
use Rattle.laws.specs.Formulas.{strength_at, strength_three_at, h2, l2, P3, slope3, degree_two, degree_three, the_moon, the_sun, solid_formula}
use Rattle.laws.proofs.SteadyLaws.{Steady, Lasting, constant, plus, minus, times, over, mul, divide, timesᵈ}

-- each component is steady
pub record SteadyEach {A : Type 0} (near : ℕ → A → Type 0) (f : A → Vector) : Type 0 where
  pub x : Steady near (λ (p : A). (f p).x)
  pub y : Steady near (λ (p : A). (f p).y)
  pub z : Steady near (λ (p : A). (f p).z)

module _ {A : Type 0} {near : ℕ → A → Type 0} where
  -- ---- vectors

  constantᵛ : (v : Vector) → SteadyEach near (λ (p : A). v)
  constantᵛ v = record { x = constant v.x; y = constant v.y; z = constant v.z }

  plusᵛ : {f g : A → Vector} → SteadyEach near f → SteadyEach near g → SteadyEach near (λ (p : A). f p +ᵛ g p)
  plusᵛ a b = record { x = plus a.x b.x; y = plus a.y b.y; z = plus a.z b.z }

  minusᵛ : {f g : A → Vector} → SteadyEach near f → SteadyEach near g → SteadyEach near (λ (p : A). f p -ᵛ g p)
  minusᵛ a b = record { x = minus a.x b.x; y = minus a.y b.y; z = minus a.z b.z }

  timesᵛ : {c : A → Fraction} {f : A → Vector} → Steady near c → SteadyEach near f → SteadyEach near (λ (p : A). c p *ᵛ f p)
  timesᵛ c a = record { x = mul c a.x; y = mul c a.y; z = mul c a.z }

  grainsᵛ : {f : A → Vector} → SteadyEach near f → SteadyEach near (λ (p : A). grains (f p))
  grainsᵛ a = record { x = times (pos metre) a.x; y = times (pos metre) a.y; z = times (pos metre) a.z }

  dot-steady : {f g : A → Vector} → SteadyEach near f → SteadyEach near g → Steady near (λ (p : A). dot (f p) (g p))
  unfolding dot
  dot-steady a b = plus (plus (mul a.x b.x) (mul a.y b.y)) (mul a.z b.z)

  direction-steady : {c : ℕ} {D : A → Positive} (v : Vec3) → Lasting near c D → SteadyEach near (λ (p : A). direction v (D p))
  direction-steady v d = record { x = divide d (constant _); y = divide d (constant _); z = divide d (constant _) }

  -- ---- what the formulas take of a number

  module _ {f : A → Fraction} (s : Steady near f) where
    P2-steady : Steady near (λ (p : A). P2 (f p))
    unfolding P2
    P2-steady = over _ (minus (times _ (mul s s)) (constant _))

    P3-steady : Steady near (λ (p : A). P3 (f p))
    unfolding P3
    P3-steady = over _ (minus (times _ (mul (mul s s) s)) (times _ s))

    slope3-steady : Steady near (λ (p : A). slope3 (f p))
    unfolding slope3
    slope3-steady = over _ (minus (times _ (mul s s)) (constant _))

    radial-steady : Steady near (λ (p : A). radial (f p))
    unfolding radial
    radial-steady = mul (plus (constant _) (mul (constant _) s)) s

    north-steady : Steady near (λ (p : A). north (f p))
    unfolding north
    north-steady = minus (constant _) (mul (constant _) s)

    h2-steady : Steady near (λ (p : A). h2 (f p))
    unfolding h2
    h2-steady = minus (constant _) (mul (constant _) s)

    l2-steady : Steady near (λ (p : A). l2 (f p))
    unfolding l2
    l2-steady = plus (constant _) (mul (constant _) s)

  -- ---- the permanent displacement

  permanent-at-steady : {r : A → Vector} → SteadyEach near r → SteadyEach near (λ (p : A). permanent_at (r p))
  permanent-at-steady r =
      let P = P2-steady r.z in
      plusᵛ (timesᵛ (radial-steady P) r) (timesᵛ (north-steady P) (timesᵛ (times _ r.z) (minusᵛ (constantᵛ pole) (timesᵛ r.z r))))

  pub permanent-steady : {c : ℕ} {L : A → Positive} (m : Vec3) → Lasting near c L → SteadyEach near (λ (p : A). permanent_formula m (L p))
  permanent-steady m d = grainsᵛ (permanent-at-steady (direction-steady m d))

  -- ---- the solid tide

  strength-steady : {c : ℕ} {R : A → Positive} (gm : Fraction) → Lasting near c R → Steady near (λ (p : A). strength_at gm (R p))
  unfolding strength_at
  strength-steady gm d = divide d (divide d (divide d (constant _)))

  strength-three-steady : {c : ℕ} {R : A → Positive} (gm : Fraction) → Lasting near c R → Steady near (λ (p : A). strength_three_at gm (R p))
  unfolding strength_three_at
  strength-three-steady gm d = divide d (divide d (divide d (divide d (constant _))))

  -- K, r̂ and R̂
  module _ {K : A → Fraction} {r R : A → Vector} (k : Steady near K) (u : SteadyEach near r) (d : SteadyEach near R) where
    c-steady : Steady near (λ (p : A). dot (r p) (R p))
    c-steady = dot-steady u d

    aside-steady : SteadyEach near (λ (p : A). R p -ᵛ dot (r p) (R p) *ᵛ r p)
    aside-steady = minusᵛ d (timesᵛ c-steady u)

    two-steady : SteadyEach near (λ (p : A). degree_two (K p) (r p) (R p))
    two-steady =
        let P = P2-steady u.z in
        timesᵛ k (plusᵛ (timesᵛ (mul (h2-steady P) (P2-steady c-steady)) u) (timesᵛ (times _ (mul (l2-steady P) c-steady)) aside-steady))

    three-steady : SteadyEach near (λ (p : A). degree_three (K p) (r p) (R p))
    three-steady =
        timesᵛ k (plusᵛ (timesᵛ (mul (constant _) (P3-steady c-steady)) u) (timesᵛ (mul (constant _) (slope3-steady c-steady)) aside-steady))

  pub solid-steady :
      {cl cr cs : ℕ} {L R S : A → Positive} (m v w : Vec3)
      → Lasting near cl L → Lasting near cr R → Lasting near cs S → SteadyEach near (λ (p : A). solid_formula m (L p) v (R p) w (S p))
  solid-steady m v w dl dr ds =
      let u = direction-steady m dl in
      let d = direction-steady v dr in
      grainsᵛ
      (plusᵛ
      (plusᵛ (two-steady (strength-steady the_moon.gm (timesᵈ the_moon.unit dr)) u d) (three-steady (strength-three-steady the_moon.gm (timesᵈ the_moon.unit dr)) u d))
      (two-steady (strength-steady the_sun.gm (timesᵈ the_sun.unit ds)) u (direction-steady w ds)))
