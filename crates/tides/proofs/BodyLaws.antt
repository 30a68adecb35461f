-- The two bodies of a tide: either order gives the same answer; what is seen of an accepted body.
use mathlib.Core.Path.{◌≡◌, refl, sym, ap, ◌∙◌}
use mathlib.Core.Logic.{◌⊎◌, inl, inr}
use mathlib.Core.Bool.{Bool, true, false, not, cond, ◌&&◌, and-false}
use Prim.Native.Nat.{ℕ, ◌^◌, ◌<◌}
use native.Mathlib.Nat.{lt_of_lt_of_le}
use native.Mathlib.Omega.{arith}
use borrow.Author.Tests.{leb-false, lt-leb}
use lib.Dec.{leb, eqb, lit<}
use lib.IntN.{ℤ, pos, nat_abs}
use Rattle.std.specs.Prelude.{Result, Ok, Err}
use Rattle.algebra.proofs.BoolLaws.{both}
use Rattle.refusal.specs.declared.Refusal.{Refusal}
use Rattle.refusal.specs.declared.Refusal.TheVariants.{BodyNotFinite, BodyDistance}
use Rattle.refusal.specs.Answered.{Answered, number, number_of}
use Rattle.refusal.proofs.AnsweredLaws.{kept}
use Rattle.refusal.specs.Refusal.{choose, first}
use Rattle.mark.specs.declared.Vec3.{Vec3}
use Rattle.mark.specs.Mark.{nowhere, each, marked, between, length_of}
use Rattle.mark.specs.Ranges.{Within}
use Rattle.mark.proofs.LengthLaws.{vec≡, within-length, at_least, at_most}
use Rattle.tides.specs.declared.BodyVector.{BodyVector}
use Rattle.tides.specs.declared.Body.{Body}
use Rattle.tides.specs.declared.Body.TheVariants.{Moon, Sun}
use Rattle.tides.specs.declared.bodies.Sight.{Sight}
use Rattle.tides.specs.Bodies.{moon, sun, wholes, finite, in_reach, paired, moon_of, sun_of}
use Rattle.tides.specs.Steps.{Reached, clipped, seen, sight_of, sights_of}
use Rattle.tides.specs.Tide.{tide, bodies_number, tide_number, tide_answer}

-- ---- either order

-- 6 or 17: no shift comes with it, whatever the bodies are
unpaired : (b : Bool) (s t : Vec3) → ◌≡◌ {A = Answered Vec3} (record { number = choose b 6 17; value = cond (eqb (choose b 6 17) 0) s nowhere }) (record { number = choose b 6 17; value = cond (eqb (choose b 6 17) 0) t nowhere })
unpaired true s t = refl
unpaired false s t = refl

pub either_order : (m : Vec3) (a b : Body) → tide_answer m a b ≡ tide_answer m b a
unfolding tide_answer tide_number paired moon_of sun_of first
either_order m (Moon v) (Moon w) = unpaired (not (marked m)) (tide m v w) (tide m w v)
either_order m (Moon v) (Sun w) = refl
either_order m (Sun v) (Moon w) = refl
either_order m (Sun v) (Sun w) = unpaired (not (marked m)) (tide m w v) (tide m v w)

-- ---- a component past 2^30 stands for every one: it is out of reach as well

abbrev Far : ℤ → Type 0
Far z = (2 ^ 30 < nat_abs z) × (2 ^ 30 < nat_abs (clipped z))

clip : (z : ℤ) → (clipped z ≡ z) ⊎ Far z
unfolding clipped
clip z = go (leb (nat_abs z) (2 ^ 30)) refl
  where
    go : (t : Bool) → leb (nat_abs z) (2 ^ 30) ≡ t → (cond t z (pos (2 ^ 31)) ≡ z) ⊎ ((2 ^ 30 < nat_abs z) × (2 ^ 30 < nat_abs (cond t z (pos (2 ^ 31)))))
    go true e = inl refl
    go false e = inr (leb-false (nat_abs z) (2 ^ 30) e, lit< tt)

clip-each : (w : Vec3) → (each clipped w ≡ w) ⊎ ((2 ^ 30 < length_of w) × (2 ^ 30 < length_of (each clipped w)))
clip-each w = go (clip w.x) (clip w.y) (clip w.z)
  where
    l : Within (length_of w) w
    l = within-length w

    k : Within (length_of (each clipped w)) (each clipped w)
    k = within-length (each clipped w)

    go : (clipped w.x ≡ w.x) ⊎ Far w.x → (clipped w.y ≡ w.y) ⊎ Far w.y → (clipped w.z ≡ w.z) ⊎ Far w.z → (each clipped w ≡ w) ⊎ ((2 ^ 30 < length_of w) × (2 ^ 30 < length_of (each clipped w)))
    go (inr h) q r = inr (lt_of_lt_of_le h.0 l.x, lt_of_lt_of_le h.1 k.x)
    go (inl p) (inr h) r = inr (lt_of_lt_of_le h.0 l.y, lt_of_lt_of_le h.1 k.y)
    go (inl p) (inl q) (inr h) = inr (lt_of_lt_of_le h.0 l.z, lt_of_lt_of_le h.1 k.z)
    go (inl p) (inl q) (inl r) = inl (vec≡ p q r)

not-between : (low high n : ℕ) → high < 2 ^ 30 → 2 ^ 30 < n → between low high n ≡ false
not-between low high n h l = rw (lt-leb n high (omega arith)) (and-false (leb low n))

module _ (low high : ℕ) (v : Vec3) (h : high < 2 ^ 30) where
  -- the clipped vector is in reach where the vector is, and then it is the vector itself
  pub clipped-sight : sight_of low high (each clipped v) ≡ sight_of low high v
  unfolding sight_of
  clipped-sight = go (clip-each v)
    where
      go : (each clipped v ≡ v) ⊎ ((2 ^ 30 < length_of v) × (2 ^ 30 < length_of (each clipped v))) → sight_of low high (each clipped v) ≡ sight_of low high v
      go (inl p) = ap (sight_of low high) p
      go (inr p) = rw (not-between low high (length_of v) h p.0, not-between low high (length_of (each clipped v)) h p.1)

-- ---- a Moon and a Sun together

numbered : (f g : Bool) (s : Sight × Sight) → number (cond f (cond g (Ok s) (Err BodyDistance)) (Err BodyNotFinite)) ≡ choose (not f) 10 (choose (not g) 11 0)
numbered true true s = refl
numbered true false s = refl
numbered false g s = refl

found : (f g : Bool) (s t : Sight × Sight) → ◌≡◌ {A = Result (Sight × Sight) Refusal} (cond f (cond g (Ok s) (Err BodyDistance)) (Err BodyNotFinite)) (Ok t) → (g ≡ true) × (t ≡ s)
found true g s t h = kept g s t BodyDistance h
found false g s t h = absurd (cc)

-- an accepted pair: in reach, and the values are their wholes
pub record Sighted (v w : BodyVector) (s t : Sight) : Type 0 where
  pub number : bodies_number v w ≡ 0
  pub moon_at : s.at ≡ wholes v
  pub sun_at : t.at ≡ wholes w
  pub moon_reached : Reached 350000000 410000000 s
  pub sun_reached : Reached 146000000 153000000 t

reached-at : (low high : ℕ) (s : Sight) (w : Vec3) → s ≡ seen w → between low high (length_of w) ≡ true → Reached low high s
reached-at low high s w e h =
    rw e (record {
      squares = refl;
      least = at_least low high (length_of w) h;
      most = at_most low high (length_of w) h;
    })

module _ (v w : BodyVector) where
  -- the refusal of both
  pub sights-number : number (sights_of v w) ≡ bodies_number v w
  unfolding sights_of bodies_number first
  sights-number = numbered (finite v && finite w) (in_reach moon v && in_reach sun w) (seen (wholes v), seen (wholes w))

  pub refused : (e : Refusal) → Err e ≡ sights_of v w → number_of e ≡ bodies_number v w
  refused e h = ap number h ∙ sights-number

  pub sighted : (s t : Sight) → Ok (s, t) ≡ sights_of v w → Sighted v w s t
  unfolding sights_of in_reach
  sighted s t h =
      let k = found (finite v && finite w) (in_reach moon v && in_reach sun w) (seen (wholes v), seen (wholes w)) (s, t) (sym h) in
      let r = both (in_reach moon v) (in_reach sun w) k.0 in
      let p : s ≡ seen (wholes v) = ap (λ (q : Sight × Sight). q.0) k.1 in
      let q : t ≡ seen (wholes w) = ap (λ (q : Sight × Sight). q.1) k.1 in
      record {
        number = sym (refused-none h);
        moon_at = ap (λ (x : Sight). x.at) p;
        sun_at = ap (λ (x : Sight). x.at) q;
        moon_reached = reached-at 350000000 410000000 s (wholes v) p r.0;
        sun_reached = reached-at 146000000 153000000 t (wholes w) q r.1;
      }
    where
      refused-none : Ok (s, t) ≡ sights_of v w → ◌≡◌ {A = ℕ} 0 (bodies_number v w)
      refused-none e = ap number e ∙ sights-number
