-- How large the rows are, by one test over the table, and A and B at every accepted mark.
use mathlib.Core.Path.{◌≡◌, refl, subst}
use mathlib.Core.Bool.{Bool, true, ◌&&◌}
use mathlib.Core.List.{List, [], ◌∷◌}
use Prim.Native.Nat.{ℕ, zero, suc, ◌+◌, ◌*◌, ◌≤◌}
use borrow.Author.Tests.{leb-true}
use lib.Dec.{leb}
use lib.ListN.{get_or}
use lib.IntN.{ℤ, pos, nat_abs}
use Rattle.algebra.proofs.BoolLaws.{both}
use Rattle.mark.specs.declared.Vec3.{Vec3}
use Rattle.mark.specs.Mark.{sized}
use Rattle.mark.specs.Ranges.{Within}
use Rattle.mark.proofs.SizeLaws.{sized-is, plus-within, minus-within, scaled-within}
use Rattle.frames.specs.declared.rows.Line.{Line}
use Rattle.frames.specs.declared.rows.Row.{Row}
use Rattle.frames.specs.Frame.{itrf2008, rows, row_of, micro, turned, frame_a, frame_b, frame_at, frame_shift, frame_gain}
use Rattle.frames.specs.Lines.{LineWithin, term, terms}
pub use Rattle.frames.proofs.RowSizes.{most_a, most_b}
use Rattle.frames.proofs.LineLaws.{most, reach, term-bound, turn-bound, terms-offset, terms-drift}

-- ---- the rows: one test over the table

-- a line's numbers are in the range that the steps ask for
abbrev in_range : Line → Bool
in_range p = sized 10000 p.t && (leb (nat_abs p.d) 10000 && sized 500 p.r)

-- a component, turned by a and b, comes to at most top, rounded
abbrev comes_to : ℕ → ℕ → ℤ → ℤ → ℤ → ℤ → Bool
comes_to k top t d a b = leb (2 * reach k t d a b + 1) ((2 * top + 1) * micro)

abbrev stays_under : ℕ → ℕ → Line → Bool
stays_under k top p =
    comes_to k top p.t.x p.d p.r.y p.r.z
    && (comes_to k top p.t.y p.d p.r.z p.r.x && comes_to k top p.t.z p.d p.r.x p.r.y)

abbrev line_fits : ℕ → ℕ → Line → Bool
line_fits k top p = in_range p && stays_under k top p

abbrev row_fits : Row → Bool
row_fits r = line_fits 1461 most_a r.at && line_fits 1 most_b r.rates

abbrev all_fit : List Row → Bool
all_fit [] = true
all_fit (r ∷ rs) = row_fits r && all_fit rs

at_place : (rs : List Row) (k : ℕ) → all_fit rs ≡ true → row_fits itrf2008 ≡ true → row_fits (get_or rs k itrf2008) ≡ true
at_place [] k e f = f
at_place (r ∷ rs) zero e f = (both (row_fits r) (all_fit rs) e).0
at_place (r ∷ rs) (suc k) e f = at_place rs k (both (row_fits r) (all_fit rs) e).1 f

table_fits : all_fit rows ≡ true
unfolding sized
table_fits = refl

none-fits : row_fits itrf2008 ≡ true
unfolding sized
none-fits = refl

row_fits_lem : (code : ℕ) → row_fits (row_of code) ≡ true
unfolding row_of
row_fits_lem code = at_place rows code table_fits none-fits

-- ---- what a line gives, at a mark of at most 6,400,000 m a component

in-range : (p : Line) → in_range p ≡ true → LineWithin p
in-range p e =
    let a = both (sized 10000 p.t) (leb (nat_abs p.d) 10000 && sized 500 p.r) e in
    let b = both (leb (nat_abs p.d) 10000) (sized 500 p.r) a.1 in
    record { t = sized-is 10000 p.t a.0; d = leb-true (nat_abs p.d) 10000 b.0; r = sized-is 500 p.r b.1 }

module _ (k top : ℕ) (p : Line) (e : line_fits k top p ≡ true) where
  pub line-within : LineWithin p
  line-within = in-range p (both (in_range p) (stays_under k top p) e).0

  -- one component
  bounded : (t d m s a b : ℤ) → nat_abs m ≤ most → nat_abs s ≤ nat_abs a * most + nat_abs b * most → comes_to k top t d a b ≡ true → nat_abs (term (pos k) t d m s) ≤ top
  bounded t d m s a b hm hs c = term-bound k top t d m s a b hm hs (leb-true (2 * reach k t d a b + 1) ((2 * top + 1) * micro) c)

  pub terms-within : (m : Vec3) → Within most m → Within top (terms (pos k) p m)
  unfolding terms turned
  terms-within m w =
      let t = p.t in
      let r = p.r in
      let s = turned r m in
      let Y = comes_to k top t.y p.d r.z r.x in
      let Z = comes_to k top t.z p.d r.x r.y in
      let x = both (comes_to k top t.x p.d r.y r.z) (Y && Z) (both (in_range p) (stays_under k top p) e).1 in
      let yz = both Y Z x.1 in
      record {
        x = bounded t.x p.d m.x s.x r.y r.z w.x (turn-bound r.y r.z m.z m.y w.z w.y) x.0;
        y = bounded t.y p.d m.y s.y r.z r.x w.y (turn-bound r.z r.x m.x m.z w.x w.z) yz.0;
        z = bounded t.z p.d m.z s.z r.x r.y w.z (turn-bound r.x r.y m.y m.x w.y w.x) yz.1;
      }

-- ---- the two lines of a frame

module _ (g : ℕ) where
  two : (line_fits 1461 most_a (row_of g).at ≡ true) × (line_fits 1 most_b (row_of g).rates ≡ true)
  two = both (line_fits 1461 most_a (row_of g).at) (line_fits 1 most_b (row_of g).rates) (row_fits_lem g)

  pub at-line : LineWithin (row_of g).at
  at-line = line-within 1461 most_a (row_of g).at two.0

  pub rates-line : LineWithin (row_of g).rates
  rates-line = line-within 1 most_b (row_of g).rates two.1

  pub frame-a-within : (m : Vec3) → Within most m → Within most_a (frame_a g m)
  unfolding frame_a
  frame-a-within m w = subst (λ (v : Vec3). Within most_a v) (terms-offset (row_of g).at m) (terms-within 1461 most_a (row_of g).at two.0 m w)

  pub frame-b-within : (m : Vec3) → Within most m → Within most_b (frame_b g m)
  unfolding frame_b
  frame-b-within m w = subst (λ (v : Vec3). Within most_b v) (terms-drift (row_of g).rates m) (terms-within 1 most_b (row_of g).rates two.1 m w)

-- ---- what a card gains, at an epoch in its range

pub gain-within : (f g : ℕ) (m : Vec3) → Within most m → Within (most_b + most_b) (frame_gain f g m)
unfolding frame_gain
gain-within f g m w = minus-within (frame-b-within g m w) (frame-b-within f m w)

module _ (epoch : ℤ) (m : Vec3) (w : Within most m) (h : nat_abs epoch ≤ 146100) where
  pub at-within : (g : ℕ) → Within (most_a + 146100 * most_b) (frame_at g m epoch)
  unfolding frame_at
  at-within g = plus-within (frame-a-within g m w) (scaled-within epoch h (frame-b-within g m w))

  pub shift-within : (f g : ℕ) → Within (most_a + 146100 * most_b + (most_a + 146100 * most_b)) (frame_shift f g epoch m)
  unfolding frame_shift
  shift-within f g = minus-within (at-within g) (at-within f)
