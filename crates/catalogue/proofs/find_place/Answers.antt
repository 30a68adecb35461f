-- The key, the catalogue's length, then one pass over the records, which stops at the first with the key's site.
use Rattle.std.proofs.Common.{rules, ◌≡◌, sym, ap, ◌∙◌, List, [], ℕ, ◌+◌, ◌-◌, ◌*◌, ◌/◌, ◌%◌, ◌<◌, ◌≤◌, length, get_or, take, drop, Bool, true, false, Ok, Err}
use Rattle.std.specs.Prelude.{eqb}
use native.Mathlib.Omega.{arith}
use lib.Pointwise.{pointwise}
use Rattle.std.specs.Simd.{first_chunks}
use Rattle.algebra.proofs.ChunkLaws.{chunk-at, chunk-count}
use Rattle.refusal.specs.declared.Refusal.TheVariants as Is
use Rattle.refusal.specs.Answered as A
use Rattle.head.specs.Head.{site_shape}
use Rattle.head.proofs.HeadLaws.{site-nine}
use Rattle.codec.specs.Codec.{card_length}
use Rattle.catalogue.specs.Lookup as L
use Rattle.catalogue.specs.Lookup.{has_site, first_from, first_place}
use Rattle.catalogue.proofs.LookupLaws.{first-none, first-here, first-later, found-2, found-14, found-15, found-0, begins}
use Rattle.catalogue.proofs.find_place.Goals as goal

module _ (s key : List ℕ) (rs : List (List ℕ)) (k : site_shape key ≡ true) (w : length s % card_length ≡ 0) (q : rs ≡ first_chunks card_length (length s / card_length) s) where
  count : length rs ≡ length s / card_length
  count = ap length q ∙ chunk-count card_length (length s / card_length) s

  whole : first_from s key 0 (length rs) ≡ first_place s key
  unfolding first_place
  whole = ap (first_from s key 0) count

  module _ (i : ℕ) (h : i < length rs) (b : Bool) (e : b ≡ pointwise eqb key (take (length key) (get_or rs i []))) where
    site-is : b ≡ has_site s key (card_length * i)
    site-is =
        let l : i < length s / card_length = omega (arith, count, h) in
        let r : get_or rs i [] ≡ take card_length (drop (card_length * i) s) = ap (λ (t : List (List ℕ)). get_or t i []) q ∙ chunk-at card_length (length s / card_length) i s l in
        e ∙ begins s key (get_or rs i []) (card_length * i) (site-nine key k) (omega (arith, l)) r

    module _ (v : first_from s key (card_length * i) (length rs - i) ≡ first_from s key 0 (length rs)) where
      here : b ≡ true → A.answered (length s) (Ok (i * card_length)) ≡ L.found s key
      here t =
          let f = first-here s key (card_length * i) (length rs - i) (length rs - (i + 1)) (omega arith) (sym site-is ∙ t) in
          let p : i * card_length ≡ card_length * i = omega arith in
          ap (λ (n : ℕ). A.answered (length s) (Ok n)) p
          ∙ found-0 s key (card_length * i) k w (sym whole ∙ sym v ∙ f) (omega (arith, count, h, w))

      later : b ≡ false → first_from s key (card_length * (i + 1)) (length rs - (i + 1)) ≡ first_from s key 0 (length rs)
      later t =
          let f = first-later s key (card_length * i) (length rs - i) (length rs - (i + 1)) (omega arith) (sym site-is ∙ t) in
          let p : card_length * (i + 1) ≡ card_length * i + card_length = omega arith in
          ap (λ (n : ℕ). first_from s key n (length rs - (i + 1))) p ∙ sym f ∙ v

  none : (i : ℕ) → length rs ≤ i → i ≤ length rs → first_from s key (card_length * i) (length rs - i) ≡ first_from s key 0 (length rs) → A.answered (length s) (Err Is.NoSuchSite) ≡ L.found s key
  none i g h v =
      let f = first-none s key (card_length * i) (length rs - i) (omega arith) in
      let e : first_place s key ≡ card_length * i = sym whole ∙ sym v ∙ f in
      found-15 s key k w (omega (arith, e, count, g, h, w))

pub returns-then-not-is_site : goal.returns-then-not-is_site
returns-then-not-is_site c = found-2 c.args.catalogue.now c.args.key.now (sym c.if-not-is_site.ensures)

pub returns-in_err-record-items : goal.returns-in_err-record-items
returns-in_err-record-items c =
    let k : site_shape c.args.key.now ≡ true = search rules in
    let r : c.from_residual.result ≡ Err Is.CatalogueLength = search rules in
    let n : length c.args.catalogue.now % card_length ≡ 0 → ⊥ = search rules in
    ap (A.answered (length c.args.catalogue.now)) r ∙ found-14 c.args.catalogue.now c.args.key.now k n

pub loop-n-init : goal.loop-n-init
loop-n-init c = ap (λ (n : ℕ). first_from c.args.catalogue.now c.args.key.now 0 n) (omega arith)

pub returns-then-starts_with : goal.returns-then-starts_with
returns-then-starts_with c =
    let s = c.args.catalogue.now in
    let k : site_shape c.args.key.now ≡ true = search rules in
    let w : length s % card_length ≡ 0 = search rules in
    let q : c.in_ok-record-items.record-items.now ≡ first_chunks card_length (length s / card_length) s = search rules in
    here s c.args.key.now c.in_ok-record-items.record-items.now k w q c.loop-n.n c.loop-n-test.true c.starts_with.result c.starts_with.ensures.value c.loop-n.invariant c.if-starts_with.true

pub loop-n-preserved : goal.loop-n-preserved
loop-n-preserved c =
    let s = c.args.catalogue.now in
    let k : site_shape c.args.key.now ≡ true = search rules in
    let w : length s % card_length ≡ 0 = search rules in
    let q : c.in_ok-record-items.record-items.now ≡ first_chunks card_length (length s / card_length) s = search rules in
    later s c.args.key.now c.in_ok-record-items.record-items.now k w q c.loop-n.n c.loop-n-test.true c.starts_with.result c.starts_with.ensures.value c.loop-n.invariant c.if-starts_with.false

pub returns : goal.returns
returns c =
    let s = c.args.catalogue.now in
    let k : site_shape c.args.key.now ≡ true = search rules in
    let w : length s % card_length ≡ 0 = search rules in
    let q : c.in_ok-record-items.record-items.now ≡ first_chunks card_length (length s / card_length) s = search rules in
    none s c.args.key.now c.in_ok-record-items.record-items.now k w q c.loop-n.n c.loop-n-test.false c.loop-n.auto.n-end c.loop-n.invariant
