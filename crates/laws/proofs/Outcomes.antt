-- Each function that the outside can call has one outcome: what it answers, and what lent storage holds afterwards.
use mathlib.Core.Path.{◌≡◌, sym, ◌∙◌}
use mathlib.Core.List.{List}
use Prim.Native.Nat.{ℕ}
use Rattle.laws.specs.OneOutcome.{OneOutcome, OneShown}
use Rattle.numbers.specs.Whole.{whole_of}
use Rattle.numbers.proofs.WholeLaws.{means-shown}
use lib.ListN.{length}
use Rattle.refusal.proofs.AnsweredLaws as Told
use Rattle.refusal.proofs.AnsweredLaws.{same-number, same-counted}
use Rattle.mark.specs.Mark.{nowhere}
use Rattle.frames.specs.Frame.{no_terms}
use Rattle.field.specs.MetresOut.{no_metres}
use Rattle.card.proofs.CheckLaws.{read-same}
use Rattle.catalogue.proofs.ReaderLaws.{taken-same}
use Rattle.refusal.proofs as refusal
use Rattle.numbers.proofs as numbers
use Rattle.octets.proofs as octets
use Rattle.text.proofs as text
use Rattle.mark.proofs as mark
use Rattle.layout.proofs as layout
use Rattle.frames.proofs as frames
use Rattle.tides.proofs as tides
use Rattle.series.proofs as series
use Rattle.head.proofs as head
use Rattle.card.proofs as card
use Rattle.codec.proofs as codec
use Rattle.records.proofs as records
use Rattle.field.proofs as field
use Rattle.catalogue.proofs as catalogue
use Rattle.listing.proofs as listing
use Rattle.netvjesha.proofs as netvjesha

-- both equal what the promise says
same : {A : Type 0} {x y z : A} → x ≡ z → y ≡ z → x ≡ y
same p q = p ∙ sym q

-- ---- an answer, and nothing lent to write to

pub refusal-number-one : OneOutcome 0 refusal.Refusal.number.Kinds.ps refusal.Refusal.number.Kinds.r refusal.Refusal.number.Reads.Learnt
refusal-number-one κs a z z' w w' p q i = (same p q i, w)

pub frame-code-one : OneOutcome 0 frames.known.Frame.code.Kinds.ps frames.known.Frame.code.Kinds.r frames.known.Frame.code.Reads.Learnt
frame-code-one κs a z z' w w' p q i = (same p q i, w)

pub metres-zeros-one : OneOutcome 0 field.Metres.zeros.Kinds.ps field.Metres.zeros.Kinds.r field.Metres.zeros.Reads.Learnt
metres-zeros-one κs a z z' w w' p q i = (same p q i, w)

pub vec3-or-zeros-one : OneOutcome 0 mark.Vec3.or_zeros.Kinds.ps mark.Vec3.or_zeros.Kinds.r mark.Vec3.or_zeros.Reads.Learnt
vec3-or-zeros-one κs a z z' w w' p q i = (same p q i, w)

pub terms-or-zeros-one : OneOutcome 0 frames.Terms.or_zeros.Kinds.ps frames.Terms.or_zeros.Kinds.r frames.Terms.or_zeros.Reads.Learnt
terms-or-zeros-one κs a z z' w w' p q i = (same p q i, w)

pub metres-or-zeros-one : OneOutcome 0 field.Metres.or_zeros.Kinds.ps field.Metres.or_zeros.Kinds.r field.Metres.or_zeros.Reads.Learnt
metres-or-zeros-one κs a z z' w w' p q i = (same p q i, w)

pub magnitude-one : OneOutcome 0 numbers.magnitude.Kinds.ps numbers.magnitude.Kinds.r numbers.magnitude.Reads.Learnt
magnitude-one κs a z z' w w' p q i = (same p q i, w)

pub near-one : OneOutcome 0 numbers.near.Kinds.ps numbers.near.Kinds.r numbers.near.Reads.Learnt
near-one κs a z z' w w' p q i = (same p q i, w)

pub root-one : OneOutcome 0 numbers.root.Kinds.ps numbers.root.Kinds.r numbers.root.Reads.Learnt
root-one κs a z z' w w' p q i = (same p q i, w)

pub whole-one : OneOutcome 0 numbers.whole.Kinds.ps numbers.whole.Kinds.r numbers.whole.Reads.Learnt
whole-one κs a z z' w w' p q i = (same (means-shown z (whole_of a.0) p) (means-shown z' (whole_of a.0) q) i, w)

pub unsigned-at-one : OneOutcome 1 octets.unsigned_at.Kinds.ps octets.unsigned_at.Kinds.r octets.unsigned_at.Reads.Learnt
unsigned-at-one κs a z z' w w' p q i = (same p q i, w)

pub signed-at-one : OneOutcome 1 octets.signed_at.Kinds.ps octets.signed_at.Kinds.r octets.signed_at.Reads.Learnt
signed-at-one κs a z z' w w' p q i = (same p q i, w)

pub double-at-one : OneOutcome 1 octets.double_at.Kinds.ps octets.double_at.Kinds.r octets.double_at.Reads.Learnt
double-at-one κs a z z' w w' p q i = (same p q i, w)

pub width_one : OneOutcome 0 octets.width.Kinds.ps octets.width.Kinds.r octets.width.Reads.Learnt
width_one κs a z z' w w' p q i = (same p q i, w)

pub check-mark-one : OneOutcome 0 mark.check_mark.Kinds.ps mark.check_mark.Kinds.r mark.check_mark.Reads.Learnt
check-mark-one κs a z z' w w' p q i = (same-number z z' (same p q) i, w)

pub length-of-one : OneOutcome 0 mark.length_of.Kinds.ps mark.length_of.Kinds.r mark.length_of.Reads.Learnt
length-of-one κs a z z' w w' p q i = (Told.same 0 z z' (same p q) i, w)

pub squares-within-one : OneOutcome 0 mark.squares_within.Kinds.ps mark.squares_within.Kinds.r mark.squares_within.Reads.Learnt
squares-within-one κs a z z' w w' p q i = (same p q i, w)

pub sized-one : OneOutcome 0 mark.sized.Kinds.ps mark.sized.Kinds.r mark.sized.Reads.Learnt
sized-one κs a z z' w w' p q i = (same p q i, w)

pub permanent-one : OneOutcome 0 tides.permanent.Kinds.ps tides.permanent.Kinds.r tides.permanent.Reads.Learnt
permanent-one κs a z z' w w' p q i = (Told.same nowhere z z' (same p q) i, w)

pub frame-terms-one : OneOutcome 0 frames.frame_terms.Kinds.ps frames.frame_terms.Kinds.r frames.frame_terms.Reads.Learnt
frame-terms-one κs a z z' w w' p q i = (Told.same no_terms z z' (same p q) i, w)

pub solid-tide-one : OneOutcome 0 tides.solid_tide.Kinds.ps tides.solid_tide.Kinds.r tides.solid_tide.Reads.Learnt
solid-tide-one κs a z z' w w' p q i = (Told.same nowhere z z' (same p q) i, w)

pub check-bodies-one : OneOutcome 0 tides.check_bodies.Kinds.ps tides.check_bodies.Kinds.r tides.check_bodies.Reads.Learnt
check-bodies-one κs a z z' w w' p q i = (same-number z z' (same p q) i, w)

pub direction-of-one : OneOutcome 0 tides.direction_of.Kinds.ps tides.direction_of.Kinds.r tides.direction_of.Reads.Learnt
direction-of-one κs a z z' w w' p q i = (Told.same nowhere z z' (same p q) i, w)

pub pair-at-one : OneOutcome 0 tides.pair_at.Kinds.ps tides.pair_at.Kinds.r tides.pair_at.Reads.Learnt
pair-at-one κs a z z' w w' p q i = (Told.same nowhere z z' (same p q) i, w)

pub read_one : OneOutcome 1 codec.read.Kinds.ps codec.read.Kinds.r codec.read.Reads.Learnt
read_one κs a z z' w w' p q i = (read-same z z' (same p q) i, w)

pub site-of-one : OneOutcome 1 layout.site_of.Kinds.ps layout.site_of.Kinds.r layout.site_of.Reads.Learnt
site-of-one κs a z z' w w' p q i = (same p q i, w)

pub vector-at-one : OneOutcome 1 layout.vector_at.Kinds.ps layout.vector_at.Kinds.r layout.vector_at.Reads.Learnt
vector-at-one κs a z z' w w' p q i = (same p q i, w)

pub codec-check-one : OneOutcome 1 codec.check.Kinds.ps codec.check.Kinds.r codec.check.Reads.Learnt
codec-check-one κs a z z' w w' p q i = (same-number z z' (same p q) i, w)

pub opened_one : OneOutcome 1 codec.opened.Kinds.ps codec.opened.Kinds.r codec.opened.Reads.Learnt
opened_one κs a z z' w w' p q i = (read-same z z' (same p q) i, w)

pub expand-one : OneOutcome 1 field.expand.Kinds.ps field.expand.Kinds.r field.expand.Reads.Learnt
expand-one κs a z z' w w' p q i = (read-same z z' (same p q) i, w)

pub check-one : OneOutcome 0 card.Card.check.Kinds.ps card.Card.check.Kinds.r card.Card.check.Reads.Learnt
check-one κs a z z' w w' p q i = (same-number z z' (same p q) i, w)

pub check-with-one : OneOutcome 0 card.Card.check_with.Kinds.ps card.Card.check_with.Kinds.r card.Card.check_with.Reads.Learnt
check-with-one κs a z z' w w' p q i = (same-number z z' (same p q) i, w)

pub from-mark-one : OneOutcome 0 card.Card.from_mark.Kinds.ps card.Card.from_mark.Kinds.r card.Card.from_mark.Reads.Learnt
from-mark-one κs a z z' w w' p q i = (Told.same nowhere z z' (same p q) i, w)

pub metres-out-one : OneOutcome 0 field.metres_out.Kinds.ps field.metres_out.Kinds.r field.metres_out.Reads.Learnt
metres-out-one κs a z z' w w' p q i = (Told.same no_metres z z' (same p q) i, w)

pub move-by-one : OneOutcome 0 card.Card.move_by.Kinds.ps card.Card.move_by.Kinds.r card.Card.move_by.Reads.Learnt
move-by-one κs a z z' w w' p q i = (same p q i, w)

pub to-frame-one : OneOutcome 0 card.Card.to_frame.Kinds.ps card.Card.to_frame.Kinds.r card.Card.to_frame.Reads.Learnt
to-frame-one κs a z z' w w' p q i = (same p q i, w)

pub mean-on-one : OneOutcome 0 card.Card.mean_on.Kinds.ps card.Card.mean_on.Kinds.r card.Card.mean_on.Reads.Learnt
mean-on-one κs a z z' w w' p q i = (same p q i, w)

pub mean-off-one : OneOutcome 0 card.Card.mean_off.Kinds.ps card.Card.mean_off.Kinds.r card.Card.mean_off.Reads.Learnt
mean-off-one κs a z z' w w' p q i = (same p q i, w)

pub solid-on-one : OneOutcome 0 card.Card.solid_on.Kinds.ps card.Card.solid_on.Kinds.r card.Card.solid_on.Reads.Learnt
solid-on-one κs a z z' w w' p q i = (same p q i, w)

pub solid-off-one : OneOutcome 0 card.Card.solid_off.Kinds.ps card.Card.solid_off.Kinds.r card.Card.solid_off.Reads.Learnt
solid-off-one κs a z z' w w' p q i = (same p q i, w)

pub check-head-one : OneOutcome 0 head.check_head.Kinds.ps head.check_head.Kinds.r head.check_head.Reads.Learnt
check-head-one κs a z z' w w' p q i = (same-number z z' (same p q) i, w)

pub refused-one : OneOutcome 0 card.refused.Kinds.ps card.refused.Kinds.r card.refused.Reads.Learnt
refused-one κs a z z' w w' p q i = (same p q i, w)

pub epoch-fits-one : OneOutcome 0 head.epoch_fits.Kinds.ps head.epoch_fits.Kinds.r head.epoch_fits.Reads.Learnt
epoch-fits-one κs a z z' w w' p q i = (same p q i, w)

pub state-of-one : OneOutcome 0 head.state.state_of.Kinds.ps head.state.state_of.Kinds.r head.state.state_of.Reads.Learnt
state-of-one κs a z z' w w' p q i = (same p q i, w)

pub with-state-one : OneOutcome 0 head.state.with_state.Kinds.ps head.state.with_state.Kinds.r head.state.with_state.Reads.Learnt
with-state-one κs a z z' w w' p q i = (same p q i, w)

pub is-site-one : OneOutcome 1 head.is_site.Kinds.ps head.is_site.Kinds.r head.is_site.Reads.Learnt
is-site-one κs a z z' w w' p q i = (same p q i, w)

pub place-or-end-one : OneOutcome 2 catalogue.place_or_end.Kinds.ps catalogue.place_or_end.Kinds.r catalogue.place_or_end.Reads.Learnt
place-or-end-one κs a z z' w w' p q i = (same p q i, w)

pub find-place-one : OneOutcome 2 catalogue.find_place.Kinds.ps catalogue.find_place.Kinds.r catalogue.find_place.Reads.Learnt
find-place-one κs a z z' w w' p q i = (Told.same (length a.0.now) z z' (same p q) i, w)

pub take-at-one : OneOutcome 1 catalogue.take_at.Kinds.ps catalogue.take_at.Kinds.r catalogue.take_at.Reads.Learnt
take-at-one κs a z z' w w' p q i = (taken-same z z' (same p q) i, w)

pub catalogue-check-one : OneOutcome 1 catalogue.check.Kinds.ps catalogue.check.Kinds.r catalogue.check.Reads.Learnt
catalogue-check-one κs a z z' w w' p q i = (same-counted z z' (same p q) i, w)

pub nv-check-one : OneOutcome 1 netvjesha.nv_check.Kinds.ps netvjesha.nv_check.Kinds.r netvjesha.nv_check.Reads.Learnt
nv-check-one κs a z z' w w' p q i = (same p q i, w)

pub nv-check-catalogue-one : OneOutcome 1 netvjesha.nv_check_catalogue.Kinds.ps netvjesha.nv_check_catalogue.Kinds.r netvjesha.nv_check_catalogue.Reads.Learnt
nv-check-catalogue-one κs a z z' w w' p q i = (same p q i, w)

pub nv-find-one : OneOutcome 2 netvjesha.nv_find.Kinds.ps netvjesha.nv_find.Kinds.r netvjesha.nv_find.Reads.Learnt
nv-find-one κs a z z' w w' p q i = (same p q i, w)

pub nv-find-number-one : OneOutcome 2 netvjesha.nv_find_number.Kinds.ps netvjesha.nv_find_number.Kinds.r netvjesha.nv_find_number.Reads.Learnt
nv-find-number-one κs a z z' w w' p q i = (same p q i, w)

-- ---- lent storage

pub put-signed-one : OneOutcome 1 octets.put_signed.Kinds.ps octets.put_signed.Kinds.r octets.put_signed.Reads.Learnt
put-signed-one κs a z z' w w' p q i = (z, (same p q i, w.1))

pub put-bytes-one : OneOutcome 2 octets.put_bytes.Kinds.ps octets.put_bytes.Kinds.r octets.put_bytes.Reads.Learnt
put-bytes-one κs a z z' w w' p q i = (z, (same p q i, w.1))

pub put-byte-one : OneOutcome 1 octets.put_byte.Kinds.ps octets.put_byte.Kinds.r octets.put_byte.Reads.Learnt
put-byte-one κs a z z' w w' p q i = (z, (same p q i, w.1))

pub text-put-natural-one : OneOutcome 1 text.put_natural.Kinds.ps text.put_natural.Kinds.r text.put_natural.Reads.Learnt
text-put-natural-one κs a z z' w w' p q i = (same p.0 q.0 i, (same p.1 q.1 i, w.1))

pub text-put-integer-one : OneOutcome 1 text.put_integer.Kinds.ps text.put_integer.Kinds.r text.put_integer.Reads.Learnt
text-put-integer-one κs a z z' w w' p q i = (same p.0 q.0 i, (same p.1 q.1 i, w.1))

pub text-put-next-one : OneOutcome 1 text.put_next.Kinds.ps text.put_next.Kinds.r text.put_next.Reads.Learnt
text-put-next-one κs a z z' w w' p q i = (same p.0 q.0 i, (same p.1 q.1 i, w.1))

pub text-put-bytes-one : OneOutcome 2 text.put_bytes.Kinds.ps text.put_bytes.Kinds.r text.put_bytes.Reads.Learnt
text-put-bytes-one κs a z z' w w' p q i = (same p.0 q.0 i, (same p.1 q.1 i, w.1))

pub text-put-hex-one : OneOutcome 2 text.put_hex.Kinds.ps text.put_hex.Kinds.r text.put_hex.Reads.Learnt
text-put-hex-one κs a z z' w w' p q i = (same p.0 q.0 i, (same p.1 q.1 i, w.1))

pub put-vector-one : OneOutcome 1 layout.put_vector.Kinds.ps layout.put_vector.Kinds.r layout.put_vector.Reads.Learnt
put-vector-one κs a z z' w w' p q i = (z, (same p q i, w.1))

pub put-head-one : OneOutcome 1 layout.put_head.Kinds.ps layout.put_head.Kinds.r layout.put_head.Reads.Learnt
put-head-one κs a z z' w w' p q i = (z, (same p q i, w.1))

pub series-one : OneOutcome 2 series.series.Kinds.ps series.series.Kinds.r series.series.Reads.Learnt
series-one κs a z z' w w' p q i = (same-counted z z' (same p.0 q.0) i, (w.0, (w.1.0, (same p.1 q.1 i, w.1.1.1))))

pub write-one : OneOutcome 1 codec.write.Kinds.ps codec.write.Kinds.r codec.write.Reads.Learnt
write-one κs a z z' w w' p q i = (same-number z z' (same p.0 q.0) i, (w.0, (same p.1 q.1 i, w.1.1)))

pub put_one : OneOutcome 1 codec.put.Kinds.ps codec.put.Kinds.r codec.put.Reads.Learnt
put_one κs a z z' w w' p q i = (same p.0 q.0 i, (w.0, (same p.1 q.1 i, w.1.1)))

pub bytes-move-by-one : OneOutcome 2 records.move_by.Kinds.ps records.move_by.Kinds.r records.move_by.Reads.Learnt
bytes-move-by-one κs a z z' w w' p q i = (same p.0 q.0 i, (w.0, (w.1.0, (same p.1 q.1 i, w.1.1.1))))

pub bytes-to-frame-one : OneOutcome 2 records.to_frame.Kinds.ps records.to_frame.Kinds.r records.to_frame.Reads.Learnt
bytes-to-frame-one κs a z z' w w' p q i = (same p.0 q.0 i, (w.0, (w.1.0, (same p.1 q.1 i, w.1.1.1))))

pub bytes-mean-on-one : OneOutcome 2 records.mean_on.Kinds.ps records.mean_on.Kinds.r records.mean_on.Reads.Learnt
bytes-mean-on-one κs a z z' w w' p q i = (same p.0 q.0 i, (w.0, (same p.1 q.1 i, w.1.1)))

pub bytes-mean-off-one : OneOutcome 2 records.mean_off.Kinds.ps records.mean_off.Kinds.r records.mean_off.Reads.Learnt
bytes-mean-off-one κs a z z' w w' p q i = (same p.0 q.0 i, (w.0, (same p.1 q.1 i, w.1.1)))

pub bytes-solid-on-one : OneOutcome 2 records.solid_on.Kinds.ps records.solid_on.Kinds.r records.solid_on.Reads.Learnt
bytes-solid-on-one κs a z z' w w' p q i = (same p.0 q.0 i, (w.0, (w.1.0, (w.1.1.0, (same p.1 q.1 i, w.1.1.1.1)))))

pub bytes-solid-off-one : OneOutcome 2 records.solid_off.Kinds.ps records.solid_off.Kinds.r records.solid_off.Reads.Learnt
bytes-solid-off-one κs a z z' w w' p q i = (same p.0 q.0 i, (w.0, (same p.1 q.1 i, w.1.1)))

pub call-bytes-one : OneOutcome 2 records.call_bytes.Kinds.ps records.call_bytes.Kinds.r records.call_bytes.Reads.Learnt
call-bytes-one κs a z z' w w' p q i = (same p.0 q.0 i, (w.0, (w.1.0, (same p.1 q.1 i, w.1.1.1))))

pub export-one : OneOutcome 1 field.export.Kinds.ps field.export.Kinds.r field.export.Reads.Learnt
export-one κs a z z' w w' p q i = (same-number z z' (same p.0 q.0) i, (w.0, (same p.1 q.1 i, w.1.1)))

pub line-one : OneOutcome 2 listing.line.Kinds.ps listing.line.Kinds.r listing.line.Reads.Learnt
line-one κs a z z' w w' p q i = (same p.0 q.0 i, (w.0, (same p.1 q.1 i, w.1.1)))

pub nv-move-one : OneOutcome 2 netvjesha.nv_move.Kinds.ps netvjesha.nv_move.Kinds.r netvjesha.nv_move.Reads.Learnt
nv-move-one κs a z z' w w' p q i = (same p.0 q.0 i, (w.0, (w.1.0, (same p.1 q.1 i, w.1.1.1))))

pub nv-frame-one : OneOutcome 2 netvjesha.nv_frame.Kinds.ps netvjesha.nv_frame.Kinds.r netvjesha.nv_frame.Reads.Learnt
nv-frame-one κs a z z' w w' p q i = (same p.0 q.0 i, (w.0, (w.1.0, (same p.1 q.1 i, w.1.1.1))))

pub nv-mean-on-one : OneOutcome 2 netvjesha.nv_mean_on.Kinds.ps netvjesha.nv_mean_on.Kinds.r netvjesha.nv_mean_on.Reads.Learnt
nv-mean-on-one κs a z z' w w' p q i = (same p.0 q.0 i, (w.0, (same p.1 q.1 i, w.1.1)))

pub nv-mean-off-one : OneOutcome 2 netvjesha.nv_mean_off.Kinds.ps netvjesha.nv_mean_off.Kinds.r netvjesha.nv_mean_off.Reads.Learnt
nv-mean-off-one κs a z z' w w' p q i = (same p.0 q.0 i, (w.0, (same p.1 q.1 i, w.1.1)))

pub nv-solid-off-one : OneOutcome 2 netvjesha.nv_solid_off.Kinds.ps netvjesha.nv_solid_off.Kinds.r netvjesha.nv_solid_off.Reads.Learnt
nv-solid-off-one κs a z z' w w' p q i = (same p.0 q.0 i, (w.0, (same p.1 q.1 i, w.1.1)))

pub nv-solid-on-one : OneOutcome 2 netvjesha.nv_solid_on.Kinds.ps netvjesha.nv_solid_on.Kinds.r netvjesha.nv_solid_on.Reads.Learnt
nv-solid-on-one κs a z z' w w' p q i = (same p.0 q.0 i, (w.0, (w.1.0, (w.1.1.0, (w.1.1.1.0, (w.1.1.1.1.0, (w.1.1.1.1.1.0, (w.1.1.1.1.1.1.0, (w.1.1.1.1.1.1.1.0, (w.1.1.1.1.1.1.1.1.0, (same p.1 q.1 i, w.1.1.1.1.1.1.1.1.1.1)))))))))))

pub nv-export-one : OneOutcome 2 netvjesha.nv_export.Kinds.ps netvjesha.nv_export.Kinds.r netvjesha.nv_export.Reads.Learnt
nv-export-one κs a z z' w w' p q i = (same p.0 q.0 i, (w.0, (same p.1 q.1 i, w.1.1)))

pub nv-expand-one : OneOutcome 2 netvjesha.nv_expand.Kinds.ps netvjesha.nv_expand.Kinds.r netvjesha.nv_expand.Reads.Learnt
nv-expand-one κs a z z' w w' p q i = (same p.0 q.0 i, (w.0, (same p.1 q.1 i, w.1.1)))

pub nv-metres-one : OneOutcome 2 netvjesha.nv_metres.Kinds.ps netvjesha.nv_metres.Kinds.r netvjesha.nv_metres.Reads.Learnt
nv-metres-one κs a z z' w w' p q i = (same p.0 q.0 i, (w.0, (same p.1 q.1 i, w.1.1)))

pub nv-permanent-one : OneOutcome 1 netvjesha.nv_permanent.Kinds.ps netvjesha.nv_permanent.Kinds.r netvjesha.nv_permanent.Reads.Learnt
nv-permanent-one κs a z z' w w' p q i = (same p.0 q.0 i, (w.0, (w.1.0, (w.1.1.0, (same p.1 q.1 i, w.1.1.1.1)))))

pub nv-series-one : OneOutcome 2 netvjesha.nv_series.Kinds.ps netvjesha.nv_series.Kinds.r netvjesha.nv_series.Reads.Learnt
nv-series-one κs a z z' w w' p q i = (same p.0 q.0 i, (w.0, (w.1.0, (w.1.1.0, (w.1.1.1.0, (same p.1 q.1 i, w.1.1.1.1.1))))))

pub find-one : OneShown 2 catalogue.find.Kinds.ps catalogue.find.Kinds.r catalogue.find.Reads.Learnt (λ κs. (ℕ × ℕ) × List ℕ) (λ κs x. (x.ref_ptr, x.now))
find-one κs a z z' w w' p q i = ((same p.1 q.1 i, same p.0 q.0 i), w)
