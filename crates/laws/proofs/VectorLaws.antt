-- Vectors: the identities of positions and velocities that the core rests on.
--
-- Each identity is proved over one axis and lifted to three. p position, v velocity, t the tides in force, a and b the frame's A and B,
-- f the frame's shift A + B x epoch, g that of another frame, e epoch, d a move.
use mathlib.Core.Path.{◌≡◌, ◌∙◌, ap}
use mathlib.Core.List.{[], ◌∷◌}
use Prim.Native.Nat.{ℕ, ◌+◌, ◌*◌, ◌≤◌}
use native.Mathlib.Nat.{le_refl, mul-le-mul}
use native.Mathlib.Omega.{arith}
use lib.IntN.{ℤ, pos, nat_abs, ◌+ℤ◌, ◌-ℤ◌, ◌*ℤ◌}
use Rattle.algebra.proofs.IntLaws.{abs-+, abs-*}
use Rattle.algebra.proofs.Ring.{by-ring, quote}
use Rattle.mark.specs.declared.Vec3.{Vec3}
use Rattle.mark.specs.Mark.{nowhere, plus, minus, scaled}
use Rattle.mark.specs.Ranges.{Within}
use Rattle.mark.proofs.LengthLaws.{vec≡}

-- what was taken away comes back
pub back : (v w : Vec3) → plus (minus v w) w ≡ v
unfolding plus minus
back v w = vec≡ (go v.x w.x) (go v.y w.y) (go v.z w.z)
  where
    go : (a b : ℤ) → a -ℤ b +ℤ b ≡ a
    go a b = by-ring (a ∷ b ∷ []) (search quote depth 30) tt

pub back-two : (p t f : Vec3) → plus (plus (minus (minus p t) f) f) t ≡ p
back-two p t f = ap (λ (q : Vec3). plus q t) (back (minus p t) f) ∙ back p t

-- what is gained and taken away
pub gained-nothing : (p v : Vec3) → plus p (minus v v) ≡ p
unfolding plus minus
gained-nothing p v = vec≡ (go p.x v.x) (go p.y v.y) (go p.z v.z)
  where
    go : (a b : ℤ) → a +ℤ (b -ℤ b) ≡ a
    go a b = by-ring (a ∷ b ∷ []) (search quote depth 30) tt

-- ---- moving

pub unmoved : (e : ℤ) → e +ℤ pos 0 ≡ e
unmoved e = by-ring (e ∷ []) (search quote depth 30) tt

pub scaled-nothing : (p v : Vec3) → plus p (scaled (pos 0) v) ≡ p
unfolding plus scaled
scaled-nothing p v = vec≡ (go p.x v.x) (go p.y v.y) (go p.z v.z)
  where
    go : (p v : ℤ) → p +ℤ pos 0 *ℤ v ≡ p
    go p v = by-ring (p ∷ v ∷ []) (search quote depth 30) tt

pub scaled-twice : (d e : ℤ) (p v : Vec3) → plus (plus p (scaled d v)) (scaled e v) ≡ plus p (scaled (d +ℤ e) v)
unfolding plus scaled
scaled-twice d e p v = vec≡ (go p.x v.x) (go p.y v.y) (go p.z v.z)
  where
    go : (p v : ℤ) → p +ℤ d *ℤ v +ℤ e *ℤ v ≡ p +ℤ (d +ℤ e) *ℤ v
    go p v = by-ring (d ∷ e ∷ p ∷ v ∷ []) (search quote depth 30) tt

-- the position after a move, and the frame's shift at the new epoch
pub moved-bare :
    (p v t a b : Vec3) (e d : ℤ)
    → minus (minus (plus p (scaled d v)) t) (plus a (scaled (e +ℤ d) b))
    ≡ plus (minus (minus p t) (plus a (scaled e b))) (scaled d (minus v b))
unfolding plus minus scaled
moved-bare p v t a b e d =
    vec≡
    (go p.x v.x t.x a.x b.x)
    (go p.y v.y t.y a.y b.y)
    (go p.z v.z t.z a.z b.z)
  where
    go : (p v t a b : ℤ) → p +ℤ d *ℤ v -ℤ t -ℤ (a +ℤ (e +ℤ d) *ℤ b) ≡ p -ℤ t -ℤ (a +ℤ e *ℤ b) +ℤ d *ℤ (v -ℤ b)
    go p v t a b = by-ring (p ∷ v ∷ t ∷ a ∷ b ∷ e ∷ d ∷ []) (search quote depth 60 fits 5000) tt

-- ---- another frame

pub reframed-bare : (p t f g : Vec3) → minus (minus (plus p (minus g f)) t) g ≡ minus (minus p t) f
unfolding plus minus
reframed-bare p t f g =
    vec≡
    (go p.x t.x f.x g.x)
    (go p.y t.y f.y g.y)
    (go p.z t.z f.z g.z)
  where
    go : (p t f g : ℤ) → p +ℤ (g -ℤ f) -ℤ t -ℤ g ≡ p -ℤ t -ℤ f
    go p t f g = by-ring (p ∷ t ∷ f ∷ g ∷ []) (search quote depth 30) tt

pub reframed-steady : (v b b' : Vec3) → minus (plus v (minus b' b)) b' ≡ minus v b
unfolding plus minus
reframed-steady v b b' = vec≡ (go v.x b.x b'.x) (go v.y b.y b'.y) (go v.z b.z b'.z)
  where
    go : (v b b' : ℤ) → v +ℤ (b' -ℤ b) -ℤ b' ≡ v -ℤ b
    go v b b' = by-ring (v ∷ b ∷ b' ∷ []) (search quote depth 30) tt

-- ---- tides: s the stored vector, h the permanent shift

pub mean-on : (p s h : Vec3) → minus (plus p h) (plus s h) ≡ minus p (plus s nowhere)
unfolding plus minus
mean-on p s h = vec≡ (go p.x s.x h.x) (go p.y s.y h.y) (go p.z s.z h.z)
  where
    go : (p s h : ℤ) → p +ℤ h -ℤ (s +ℤ h) ≡ p -ℤ (s +ℤ pos 0)
    go p s h = by-ring (p ∷ s ∷ h ∷ []) (search quote depth 30) tt

pub mean-off : (p s h : Vec3) → minus (minus p h) (plus s nowhere) ≡ minus p (plus s h)
unfolding plus minus
mean-off p s h = vec≡ (go p.x s.x h.x) (go p.y s.y h.y) (go p.z s.z h.z)
  where
    go : (p s h : ℤ) → p -ℤ h -ℤ (s +ℤ pos 0) ≡ p -ℤ (s +ℤ h)
    go p s h = by-ring (p ∷ s ∷ h ∷ []) (search quote depth 30) tt

pub solid-on : (p s h : Vec3) → minus (plus p s) (plus s h) ≡ minus p (plus nowhere h)
unfolding plus minus
solid-on p s h = vec≡ (go p.x s.x h.x) (go p.y s.y h.y) (go p.z s.z h.z)
  where
    go : (p s h : ℤ) → p +ℤ s -ℤ (s +ℤ h) ≡ p -ℤ (pos 0 +ℤ h)
    go p s h = by-ring (p ∷ s ∷ h ∷ []) (search quote depth 30) tt

pub solid-off : (p s h : Vec3) → minus (minus p s) (plus nowhere h) ≡ minus p (plus s h)
unfolding plus minus
solid-off p s h = vec≡ (go p.x s.x h.x) (go p.y s.y h.y) (go p.z s.z h.z)
  where
    go : (p s h : ℤ) → p -ℤ s -ℤ (pos 0 +ℤ h) ≡ p -ℤ (s +ℤ h)
    go p s h = by-ring (p ∷ s ∷ h ∷ []) (search quote depth 30) tt

-- ---- the difference of two

-- what is taken from both is gone
pub common : (p q f : Vec3) → minus (minus p f) (minus q f) ≡ minus p q
unfolding minus
common p q f = vec≡ (go p.x q.x f.x) (go p.y q.y f.y) (go p.z q.z f.z)
  where
    go : (p q f : ℤ) → p -ℤ f -ℤ (q -ℤ f) ≡ p -ℤ q
    go p q f = by-ring (p ∷ q ∷ f ∷ []) (search quote depth 30) tt

pub apart-later :
    (d : ℤ) (p q v w : Vec3) → minus (plus p (scaled d v)) (plus q (scaled d w)) ≡ plus (minus p q) (scaled d (minus v w))
unfolding plus minus scaled
apart-later d p q v w =
    vec≡
    (go p.x q.x v.x w.x)
    (go p.y q.y v.y w.y)
    (go p.z q.z v.z w.z)
  where
    go : (p q v w : ℤ) → p +ℤ d *ℤ v -ℤ (q +ℤ d *ℤ w) ≡ p -ℤ q +ℤ d *ℤ (v -ℤ w)
    go p q v w = by-ring (d ∷ p ∷ q ∷ v ∷ w ∷ []) (search quote depth 30) tt

-- ---- sizes

-- at most a, and d times at most b
pub later-within : (a b : ℕ) (d : ℤ) (p v : Vec3) → Within a p → Within b v → Within (a + b * nat_abs d) (plus p (scaled d v))
unfolding plus scaled
later-within a b d p v h k =
    record { x = go p.x v.x h.x k.x; y = go p.y v.y h.y k.y; z = go p.z v.z h.z k.z }
  where
    go : (p v : ℤ) → nat_abs p ≤ a → nat_abs v ≤ b → nat_abs (p +ℤ d *ℤ v) ≤ a + b * nat_abs d
    go p v h k = omega (arith, abs-+ p (d *ℤ v), abs-* d v, mul-le-mul k (le_refl (nat_abs d)))
