-- The tide series row by row: the rows as they are cut, the number of a row, the scan of the rows, and the numbers that are written.
use mathlib.Core.Path.{◌≡◌, refl, sym, ap, ap₂, ◌∙◌}
use mathlib.Core.Logic.{◌↔◌}
use mathlib.Core.Bool.{Bool, true, false, cond, ◌&&◌}
use mathlib.Core.List.{List, [], ◌∷◌, ◌++◌, append-nil}
use Prim.Native.Nat.{ℕ, zero, suc, ◌+◌, ◌*◌, ◌/◌, ◌%◌, ◌≤◌, ◌<◌}
use native.Mathlib.Nat.{suc-add}
use native.Mathlib.Omega.{arith}
use borrow.Author.Tests.{eq-eqb, ne_eqb, eqb-true, eqb-false}
use lib.Dec.{eqb}
use lib.ListN.{length, get_or, take, drop, set}
use lib.IntN.{ℤ}
use lib.Ieee.{Float, nan, inf, fin}
use Rattle.std.specs.Float.{float_is_finite}
use Rattle.std.specs.Prelude.{flat_map}
use Rattle.std.specs.Simd.{first_chunks}
use Rattle.std.proofs.lemmas.List.{drop-drop, get_or-take, get_or-drop, take_more}
use Rattle.std.proofs.lemmas.Grind.{flat_map-append}
use Rattle.algebra.proofs.ChunkLaws.{chunk-at, chunk-count}
use Rattle.algebra.proofs.BoolLaws.{and_first, and_second, and_left, and_right}
use Rattle.refusal.specs.Refusal.{first}
use Rattle.refusal.specs.FirstBad.{first_bad}
use Rattle.mark.specs.declared.Vec3.{Vec3}
use Rattle.mark.specs.Mark.{length_of, marked}
use Rattle.tides.specs.declared.BodyVector.{BodyVector}
use Rattle.refusal.specs.Answered.{Answered}
use Rattle.tides.specs.Direction.{units}
use Rattle.tides.specs.Bodies.{is_number, finite}
use Rattle.tides.specs.Aim.{pair_answer, pair_at}
use Rattle.tides.specs.Tide.{bodies_number, tide}
use Rattle.tides.proofs.AimLaws.{accepted-directed, pair-directed}
use Rattle.series.specs.Series.{body_at, moon_at, sun_at, rows_fit, row_number, scan, three, tides_from, series_answer, series_numbers}
use Rattle.series.specs.Steps.{number_at, scan_of, shift_of, shifts_of}
use Rattle.numbers.specs.Whole.{whole_of}

-- ---- the rows, cut from the doubles

past-row : {A : Type 0} (i : ℕ) (xs : List A) → drop 6 (drop (6 * i) xs) ≡ drop (6 * (i + 1)) xs
past-row i xs = drop-drop 6 (6 * i) xs ∙ ap (λ (n : ℕ). drop n xs) (omega arith)

module _ (b : List Float) (i : ℕ) where
  abbrev cut : List Float
  cut = take 6 (drop (6 * i) b)

  double : (k n : ℕ) → k < 6 → n ≡ 6 * i + k → get_or cut k nan ≡ get_or b n nan
  double k n h e = get_or-take 6 (drop (6 * i) b) k nan h ∙ get_or-drop (6 * i) b k nan ∙ ap (λ (m : ℕ). get_or b m nan) (sym e)

  moon-cut : body_at cut 0 ≡ moon_at b i
  unfolding body_at
  moon-cut = λ t. record { x = double 0 (6 * i) (omega arith) (omega arith) t; y = double 1 (6 * i + 1) (omega arith) (omega arith) t; z = double 2 (6 * i + 2) (omega arith) (omega arith) t }

  sun-cut : body_at cut 3 ≡ sun_at b i
  unfolding body_at
  sun-cut = λ t. record { x = double 3 (6 * i + 3) (omega arith) (omega arith) t; y = double 4 (6 * i + 3 + 1) (omega arith) (omega arith) t; z = double 5 (6 * i + 3 + 2) (omega arith) (omega arith) t }

-- ---- the number of a row

-- one of the six is no number: refusal 10
module _ (rows : List (List Float)) (i : ℕ) where
  abbrev row : List Float
  row = get_or rows i []

  refused-ten : finite (body_at row 0) && finite (body_at row 3) ≡ false → number_at rows i ≡ 10
  unfolding number_at bodies_number first
  refused-ten e = rw e

  ten : (j : ℕ) → j < 6 → is_number (whole_of (get_or row j nan)) ≡ false → number_at rows i ≡ 10
  unfolding body_at finite
  ten zero h e = refused-ten (and_first _ _ (and_first _ _ (and_first _ _ e)))
  ten (suc zero) h e = refused-ten (and_first _ _ (and_first _ _ (and_second _ _ e)))
  ten (suc (suc zero)) h e = refused-ten (and_first _ _ (and_second _ _ e))
  ten (suc (suc (suc zero))) h e = refused-ten (and_second _ _ (and_first _ _ (and_first _ _ e)))
  ten (suc (suc (suc (suc zero)))) h e = refused-ten (and_second _ _ (and_first _ _ (and_second _ _ e)))
  ten (suc (suc (suc (suc (suc zero))))) h e = refused-ten (and_second _ _ (and_second _ _ e))
  ten (suc (suc (suc (suc (suc (suc j)))))) h e = absurd (omega arith)

  finite-number : (x : Float) → float_is_finite x ≡ is_number (whole_of x)
  unfolding float_is_finite whole_of
  finite-number nan = refl
  finite-number (inf s) = refl
  finite-number (fin s n e) = refl

  pub not-finite : (j : ℕ) → j < 6 → float_is_finite (get_or row j nan) ≡ false → number_at rows i ≡ 10
  not-finite j h e = ten j h (sym (finite-number (get_or row j nan)) ∙ e)

-- a row that is cut has the number of the doubles' row
cut-number : (k i : ℕ) (b : List Float) → i < k → number_at (first_chunks 6 k b) i ≡ row_number b i
unfolding number_at row_number
cut-number k i b h =
    ap₂ bodies_number
    (ap (λ (r : List Float). body_at r 0) (chunk-at 6 k i b h) ∙ moon-cut b i)
    (ap (λ (r : List Float). body_at r 3) (chunk-at 6 k i b h) ∙ sun-cut b i)

-- ---- the scan

same-bad : (f g : ℕ → ℕ) (i k : ℕ) → ((n : ℕ) → n < i + k → f n ≡ g n) → first_bad f i k ≡ first_bad g i k
unfolding first_bad
same-bad f g i zero h = refl
same-bad f g i (suc k) h =
    let e : f i ≡ g i = h i (omega arith) in
    let r : first_bad f (i + 1) k ≡ first_bad g (i + 1) k = same-bad f g (i + 1) k (λ n l. h n (omega (arith, l))) in
    λ t. cond (eqb (e t) 0) (r t) (e t, i)

pub scan-cut : (k : ℕ) (b : List Float) → scan_of (first_chunks 6 k b) ≡ scan b 0 k
unfolding scan
scan-cut k b =
    ap (first_bad (number_at (first_chunks 6 k b)) 0) (chunk-count 6 k b)
    ∙ same-bad (number_at (first_chunks 6 k b)) (row_number b) 0 k (λ n l. cut-number k n b (omega (arith, l)))

-- ---- the numbers

-- three stores in a row, as the start of the list
pub stored : (l : List ℤ) (n : ℕ) (x y z : ℤ) → n + 3 ≤ length l → take (n + 3) (set (set (set l n x) (n + 1) y) (n + 2) z) ≡ take n l ++ (x ∷ y ∷ z ∷ [])
stored [] zero x y z h = absurd (omega arith)
stored (a ∷ []) zero x y z h = absurd (omega arith)
stored (a ∷ c ∷ []) zero x y z h = absurd (omega arith)
stored (a ∷ c ∷ d ∷ l) zero x y z h = refl
stored [] (suc n) x y z h = absurd (omega arith)
stored (a ∷ l) (suc n) x y z h = rw (suc-add n 3, suc-add n 1, suc-add n 2) (ap (λ (t : List ℤ). a ∷ t) (stored l n x y z (omega arith)))

-- a row written
pub shifts-step : (u : Vec3) (rows : List (List Float)) (i : ℕ) (out : List ℤ) (x y z : ℤ) → i < length rows → 3 * i + 3 ≤ length out → (x ∷ y ∷ z ∷ []) ≡ shift_of u (get_or rows i []) → take (3 * i) out ≡ shifts_of u (take i rows) → take (3 * (i + 1)) (set (set (set out (3 * i) x) (3 * i + 1) y) (3 * i + 2) z) ≡ shifts_of u (take (i + 1) rows)
shifts-step u rows i out x y z l h e p =
    let n : 3 * (i + 1) ≡ 3 * i + 3 = omega arith in
    ap (λ (m : ℕ). take m (set (set (set out (3 * i) x) (3 * i + 1) y) (3 * i + 2) z)) n
    ∙ stored out (3 * i) x y z h
    ∙ ap₂ (λ (s t : List ℤ). s ++ t) p (e ∙ sym (append-nil (shift_of u (get_or rows i []))))
    ∙ sym (ap (flat_map (shift_of u)) (take_more rows i [] l) ∙ flat_map-append (shift_of u) (take i rows) (get_or rows i [] ∷ []))

-- ---- the answers of a series

module _ (m : Vec3) (b : List Float) (n : ℕ) where
  pub series-unmarked : marked m ≡ false → (6, 0) ≡ series_answer m b n
  unfolding series_answer
  series-unmarked e = rw e

  pub series-uneven : marked m ≡ true → rows_fit (length b) n ≡ false → (16, 0) ≡ series_answer m b n
  unfolding series_answer
  series-uneven e f = rw (e, f)

  pub series-scanned : marked m ≡ true → rows_fit (length b) n ≡ true → scan b 0 (n / 3) ≡ series_answer m b n
  unfolding series_answer
  series-scanned e f = rw (e, f)

pub fits : (d n : ℕ) → d ≡ 6 * (n / 3) → n ≡ 3 * (n / 3) → rows_fit d n ≡ true
unfolding rows_fit
fits d n h k = rw (eq-eqb d (6 * (n / 3)) h, eq-eqb n (3 * (n / 3)) k)

pub no_six : (d n : ℕ) → (d ≡ 6 * (n / 3) → ⊥) → rows_fit d n ≡ false
unfolding rows_fit
no_six d n h = and_first (eqb d (6 * (n / 3))) (eqb n (3 * (n / 3))) (ne_eqb d (6 * (n / 3)) h)

pub no-three : (d n : ℕ) → (n ≡ 3 * (n / 3) → ⊥) → rows_fit d n ≡ false
unfolding rows_fit
no-three d n h = and_second (eqb d (6 * (n / 3))) (eqb n (3 * (n / 3))) (ne_eqb n (3 * (n / 3)) h)

-- the lengths fit exactly when there is a count of rows with six doubles and three numbers each
pub rows_fit_lem : (d n : ℕ) → (rows_fit d n ≡ true) ↔ ((rows : ℕ) × ((d ≡ 6 * rows) × (n ≡ 3 * rows)))
unfolding rows_fit
rows_fit_lem d n = (there, back)
  where
    there : eqb d (6 * (n / 3)) && eqb n (3 * (n / 3)) ≡ true → (rows : ℕ) × ((d ≡ 6 * rows) × (n ≡ 3 * rows))
    there e =
        let six = and_left (eqb d (6 * (n / 3))) (eqb n (3 * (n / 3))) e in
        let three-each = and_right (eqb d (6 * (n / 3))) (eqb n (3 * (n / 3))) e in
        (n / 3, (eqb-true d (6 * (n / 3)) six, eqb-true n (3 * (n / 3)) three-each))

    back : (rows : ℕ) × ((d ≡ 6 * rows) × (n ≡ 3 * rows)) → eqb d (6 * (n / 3)) && eqb n (3 * (n / 3)) ≡ true
    back h = fits d n (by-six h.0 h.1.0 h.1.1) (by_three h.0 h.1.1)
      where
        by-six : (rows : ℕ) → d ≡ 6 * rows → n ≡ 3 * rows → d ≡ 6 * (n / 3)
        by-six rows p q = omega arith

        by_three : (rows : ℕ) → n ≡ 3 * rows → n ≡ 3 * (n / 3)
        by_three rows q = omega arith

-- a refusal writes no number
pub kept : (m : Vec3) (b : List Float) (out : List ℤ) (r : ℕ × ℕ) → r ≡ series_answer m b (length out) → (r.0 ≡ 0 → ⊥) → out ≡ series_numbers m b out
unfolding series_numbers
kept m b out r e h = rw (← e, ne_eqb r.0 0 h)

-- an accepted row's shift is its tide
answer-tide : (m : Vec3) (b : List Float) (i : ℕ) → eqb (row_number b i) 0 ≡ true → (pair_answer (units (length_of m) m) (moon_at b i) (sun_at b i)).value ≡ tide m (moon_at b i) (sun_at b i)
unfolding row_number pair_answer tide
answer-tide m b i e = rw e

module _ (m : Vec3) (b : List Float) (h : marked m ≡ true) where
  abbrev aim : Vec3
  aim = units (length_of m) m

  row-tide : (i : ℕ) → eqb (row_number b i) 0 ≡ true → shift_of aim (take 6 (drop (6 * i) b)) ≡ three (tide m (moon_at b i) (sun_at b i))
  unfolding shift_of
  row-tide i e =
      ap₂ (λ (v w : BodyVector). three (pair_at aim v w).value) (moon-cut b i) (sun-cut b i)
      ∙ ap (λ (s : Answered Vec3). three s.value) (sym (pair-directed aim (moon_at b i) (sun_at b i) (accepted-directed m h)))
      ∙ ap three (answer-tide m b i e)

  -- where no row is refused, the shifts are the tides
  quiet : (i k : ℕ) → (scan b i k).0 ≡ 0 → shifts_of aim (first_chunks 6 k (drop (6 * i) b)) ≡ tides_from m b i k
  unfolding scan first_bad tides_from
  quiet i zero e = refl
  quiet i (suc k) e = go (eqb (row_number b i) 0) refl e (quiet (i + 1) k)
    where
      go : (t : Bool) → eqb (row_number b i) 0 ≡ t → (cond t (first_bad (row_number b) (i + 1) k) (row_number b i, i)).0 ≡ 0 → ((scan b (i + 1) k).0 ≡ 0 → shifts_of aim (first_chunks 6 k (drop (6 * (i + 1)) b)) ≡ tides_from m b (i + 1) k) → shift_of aim (take 6 (drop (6 * i) b)) ++ shifts_of aim (first_chunks 6 k (drop 6 (drop (6 * i) b))) ≡ three (tide m (moon_at b i) (sun_at b i)) ++ tides_from m b (i + 1) k
      go true p q r = ap₂ (λ (s t : List ℤ). s ++ t) (row-tide i p) (ap (λ (xs : List Float). shifts_of aim (first_chunks 6 k xs)) (past-row i b) ∙ r q)
      go false p q r = absurd (eqb-false (row_number b i) 0 p q)

-- the rows as they are cut, where the doubles and the numbers fit
module _ (m : Vec3) (b : List Float) (out : List ℤ) (rows : List (List Float)) (cut-is : rows ≡ first_chunks 6 (length b / 6) b) where
  counted-rows : length rows ≡ length b / 6
  counted-rows = ap length cut-is ∙ chunk-count 6 (length b / 6) b

  pub left-over : marked m ≡ true → (length b % 6 ≡ 0 → ⊥) → (16, 0) ≡ series_answer m b (length out)
  left-over h l = series-uneven m b (length out) h (no_six (length b) (length out) (λ e. l (omega (arith, e))))

  pub other-length : marked m ≡ true → (length out ≡ 3 * length rows → ⊥) → (16, 0) ≡ series_answer m b (length out)
  other-length h l = series-uneven m b (length out) h (other (eqb (length b) (6 * (length out / 3))) refl)
    where
      other : (t : Bool) → eqb (length b) (6 * (length out / 3)) ≡ t → rows_fit (length b) (length out) ≡ false
      other true e = no-three (length b) (length out) (λ f. l (omega (arith, f, counted-rows, eqb-true (length b) (6 * (length out / 3)) e)))
      other false e = no_six (length b) (length out) (eqb-false (length b) (6 * (length out / 3)) e)

  module _ (h : marked m ≡ true) (whole : length b % 6 ≡ 0) (l : length out ≡ 3 * length rows) where
    each : length out / 3 ≡ length b / 6
    each = omega (arith, counted-rows)

    scan-is : scan_of rows ≡ scan b 0 (length out / 3)
    scan-is = ap scan_of cut-is ∙ scan-cut (length b / 6) b ∙ ap (scan b 0) (sym each)

    pub scanned : scan_of rows ≡ series_answer m b (length out)
    scanned =
        scan-is
        ∙ series-scanned m b (length out) h (fits (length b) (length out) (omega (arith, counted-rows)) (omega (arith, counted-rows)))

    pub written : (scan_of rows).0 ≡ 0 → shifts_of (units (length_of m) m) rows ≡ series_numbers m b out
    unfolding series_numbers
    written z =
        ap (shifts_of (units (length_of m) m)) (cut-is ∙ ap (λ (k : ℕ). first_chunks 6 k b) (sym each))
        ∙ quiet m b h 0 (length out / 3) (ap (λ (r : ℕ × ℕ). r.0) (sym scan-is) ∙ z)
        ∙ rw (← scanned, z)
