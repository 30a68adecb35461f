-- What a line of the table gives: the two forms that A and B share, how near(k n/10¹⁴) is worked out in 64 bits, though k n can have 74, and how large it is.
use mathlib.Core.Bool.{true}
use mathlib.Core.List.{[], ◌∷◌}
use mathlib.Core.Path.{◌≡◌, refl, sym, ap, ◌∙◌}
use Prim.Native.Nat.{ℕ, zero, suc, ◌+◌, ◌*◌, ◌≤◌}
use native.Mathlib.Nat.{le_refl, le_trans}
use native.Mathlib.Omega.{arith}
use lib.Dec.{lit<, lit≤}
use lib.IntN.{ℤ, pos, negsuc, nat_abs, ◌+ℤ◌, ◌-ℤ◌, ◌*ℤ◌}
use Rattle.algebra.proofs.Machine.{plain, lit, v+, v-, v*}
use Rattle.algebra.proofs.Ring.{quote, by-ring}
use Rattle.numbers.specs.Near.{near}
use Rattle.numbers.proofs.NearLaws.{near-scale, near-shift, near-size, near-bound}
use Rattle.mark.specs.declared.Vec3.{Vec3}
use Rattle.mark.specs.Mark.{nowhere, sized}
use Rattle.mark.specs.Ranges.{Within}
use Rattle.mark.proofs.LengthLaws.{vec≡}
use Rattle.mark.proofs.SizeLaws.{sized-is}
use Rattle.frames.specs.declared.rows.Line.{Line}
use Rattle.frames.specs.Frame.{turned, micro, linear, offset, drift, componentwise}
use Rattle.frames.specs.Lines.{wide, term, straight, terms, threefold}

-- ---- A and B are one rule, with k = 1,461 and 1

pub term-offset : (t d m s : ℤ) → term (pos 1461) t d m s ≡ offset t d m s
unfolding term offset
term-offset t d m s = refl

pub term-drift : (t d m s : ℤ) → term (pos 1) t d m s ≡ drift t d m s
unfolding term drift
term-drift t d m s = let once : pos 1 *ℤ linear d m s ≡ linear d m s = by-ring (linear d m s ∷ []) (search quote depth 30) tt in ap (λ (z : ℤ). pos 100 *ℤ t +ℤ near z micro) once

same-terms : (f g : ℤ → ℤ → ℤ → ℤ → ℤ) → ((t d m s : ℤ) → f t d m s ≡ g t d m s) → (p : Line) (m : Vec3) → componentwise f p m ≡ componentwise g p m
same-terms f g e p m =
    let s = turned p.r m in
    vec≡ (e p.t.x p.d m.x s.x) (e p.t.y p.d m.y s.y) (e p.t.z p.d m.z s.z)

pub terms-offset : (p : Line) (m : Vec3) → terms (pos 1461) p m ≡ componentwise offset p m
unfolding terms
terms-offset p m = same-terms (term (pos 1461)) offset term-offset p m

pub terms-drift : (p : Line) (m : Vec3) → terms (pos 1) p m ≡ componentwise drift p m
unfolding terms
terms-drift p m = same-terms (term (pos 1)) drift term-drift p m

-- ---- without rotation

turned-nowhere : (r m : Vec3) → r ≡ nowhere → turned r m ≡ nowhere
unfolding turned
turned-nowhere r m e = rw e (vec≡ (none m.z m.y) (none m.x m.z) (none m.y m.x))
  where
    none : (a b : ℤ) → pos 0 *ℤ a -ℤ pos 0 *ℤ b ≡ pos 0
    none a b = by-ring (a ∷ b ∷ []) (search quote depth 30) tt

-- without rotation it is near(k D m/100,000)
pub term-straight : (k t d m : ℤ) → term k t d m (pos 0) ≡ straight k t d m
unfolding term straight linear
term-straight k t d m =
    let same : k *ℤ (pos 1000000000 *ℤ d *ℤ m +ℤ pos 4848136811 *ℤ pos 0) ≡ pos 1000000000 *ℤ (k *ℤ d *ℤ m) = by-ring (k ∷ d ∷ m ∷ []) (search quote depth 40) tt in
    ap (λ (z : ℤ). pos 100 *ℤ k *ℤ t +ℤ z) (ap (λ (z : ℤ). near z micro) same ∙ near-scale 1000000000 (k *ℤ d *ℤ m) 100000 (lit< tt))

-- a line that turns nothing, by any rule that is another one where s is 0
pub unturned :
    (f : ℤ → ℤ → ℤ → ℤ → ℤ) (g : ℤ → ℤ → ℤ → ℤ)
    → ((t d m : ℤ) → f t d m (pos 0) ≡ g t d m)
    → (p : Line) (m : Vec3)
    → p.r ≡ nowhere
    → componentwise f p m ≡ threefold g p m
unturned f g e p m h =
    rw (turned-nowhere p.r m h) (vec≡ (e p.t.x p.d m.x) (e p.t.y p.d m.y) (e p.t.z p.d m.z))

pub terms-straight : (k : ℤ) (p : Line) (m : Vec3) → p.r ≡ nowhere → terms k p m ≡ threefold (straight k) p m
unfolding terms
terms-straight k p m h = unturned (term k) (straight k) (term-straight k) p m h

-- no component of R has a size
pub still : (r : Vec3) → sized 0 r ≡ true → r ≡ nowhere
still r e = let w = sized-is 0 r e in vec≡ (none r.x w.x) (none r.y w.y) (none r.z w.z)
  where
    none : (a : ℤ) → nat_abs a ≤ 0 → a ≡ pos 0
    none (pos zero) h = refl
    none (pos (suc n)) h = absurd (omega arith)
    none (negsuc n) h = absurd (omega arith)

-- ---- in 64 bits

-- n = 10⁹ a + 848,136,811 s, as 4,848,136,811 is 4 x 10⁹ and so much more
pub wide_is : (k t d m s : ℤ) → pos 100 *ℤ k *ℤ t +ℤ wide k (d *ℤ m +ℤ pos 4 *ℤ s) s ≡ term k t d m s
unfolding wide term linear
wide_is k t d m s = ap (λ (z : ℤ). pos 100 *ℤ k *ℤ t +ℤ near z micro) (by-ring (k ∷ d ∷ m ∷ s ∷ []) (search quote depth 40) tt)

-- what is left of n when c whole micrometres are taken out
abbrev pub left : ℤ → ℤ → ℤ → ℤ
left a s c = (a -ℤ pos 100000 *ℤ c) *ℤ pos 1000000000 +ℤ pos 848136811 *ℤ s

-- whatever c, e and t are
pub in-twos : (k a s c e t : ℤ) → pos 2 *ℤ t +ℤ near ((k *ℤ (c +ℤ e) -ℤ pos 2 *ℤ t) *ℤ pos micro +ℤ k *ℤ (left a s c -ℤ pos micro *ℤ e)) micro ≡ wide k a s
unfolding wide
in-twos k a s c e t =
    sym (near-shift t ((k *ℤ (c +ℤ e) -ℤ pos 2 *ℤ t) *ℤ pos micro +ℤ k *ℤ (left a s c -ℤ pos micro *ℤ e)) micro (lit< tt))
    ∙ ap (λ (z : ℤ). near z micro) (by-ring (k ∷ a ∷ s ∷ c ∷ e ∷ t ∷ []) (search quote depth 60 fits 5000) tt)

-- ---- how large it is, at marks of at most 6,400,000 m a component

abbrev pub most : ℕ
most = 6400000

-- what 100 k T + k n/10¹⁴ can come to, times 10¹⁴; a and b are the rotations that turn the component
abbrev pub reach : ℕ → ℤ → ℤ → ℤ → ℤ → ℕ
reach k t d a b = micro * (100 * k * nat_abs t) + k * (1000000000 * nat_abs d * most + 4848136811 * (nat_abs a * most + nat_abs b * most))

-- a rounded number with a whole one is at most top where both come to less than a half more
together : (P Q N K top : ℕ) → 2 * (micro * Q) ≤ 2 * N + micro → N ≤ K → 2 * (micro * P + K) + 1 ≤ (2 * top + 1) * micro → P + Q ≤ top
together P Q N K top h l e = omega arith

pub term-bound :
    (k top : ℕ) (t d m s a b : ℤ)
    → nat_abs m ≤ most
    → nat_abs s ≤ nat_abs a * most + nat_abs b * most
    → 2 * reach k t d a b + 1 ≤ (2 * top + 1) * micro
    → nat_abs (term (pos k) t d m s) ≤ top
unfolding term linear
term-bound k top t d m s a b hm hs e =
    let X = pos k *ℤ (pos 1000000000 *ℤ d *ℤ m +ℤ pos 4848136811 *ℤ s) in
    let T = pos 100 *ℤ pos k *ℤ t in
    le_trans (v+ (v* (v* (lit 100) (lit k)) (plain t (le_refl (nat_abs t)))) (plain (near X micro) (le_refl (nat_abs (near X micro))))).small
    (together (100 * k * nat_abs t) (nat_abs (near X micro)) (nat_abs X)
    (k * (1000000000 * nat_abs d * most + 4848136811 * (nat_abs a * most + nat_abs b * most))) top
    (near-size X micro (lit< tt))
    (v* (lit k) (v+ (v* (v* (lit 1000000000) (plain d (le_refl (nat_abs d)))) (plain m hm)) (v* (lit 4848136811) (plain s hs)))).small
    e)

-- near(k n/10¹⁴) of any line that the steps take
pub wide-bound : (k a s : ℤ) → nat_abs k ≤ 1461 → nat_abs a ≤ 89600000000 → nat_abs s ≤ 6400000000 → nat_abs (wide k a s) ≤ 1388360185
unfolding wide
wide-bound k a s hk ha hs =
    near-bound (k *ℤ (pos 1000000000 *ℤ a +ℤ pos 848136811 *ℤ s)) micro 1388360185
    (le_trans (v* (plain k hk) (v+ (v* (lit 1000000000) (plain a ha)) (v* (lit 848136811) (plain s hs)))).small (lit≤ tt))

-- a turned component
pub turn-bound : (a b m n : ℤ) → nat_abs m ≤ most → nat_abs n ≤ most → nat_abs (a *ℤ m -ℤ b *ℤ n) ≤ nat_abs a * most + nat_abs b * most
turn-bound a b m n hm hn = (v- (v* (plain a (le_refl (nat_abs a))) (plain m hm)) (v* (plain b (le_refl (nat_abs b))) (plain n hn))).small

pub turned-within : {r m : Vec3} → Within 500 r → Within most m → Within 6400000000 (turned r m)
unfolding turned
turned-within {r} {m} h w =
    record {
      x = le_trans (turn-bound r.y r.z m.z m.y w.z w.y) (omega (arith, h.y, h.z));
      y = le_trans (turn-bound r.z r.x m.x m.z w.x w.z) (omega (arith, h.z, h.x));
      z = le_trans (turn-bound r.x r.y m.y m.x w.y w.x) (omega (arith, h.x, h.y));
    }
