-- What the calls below answer is packed whole: every outcome of theirs fits.
use Prim.Native.Nat.{ℕ, ◌^◌, ◌<◌}
use mathlib.Core.Path.{◌≡◌, ap, ◌∙◌}
use mathlib.Core.List.{List}
use native.Mathlib.Omega.{arith}
use borrow.Author.Tests.{ne_eqb}
use Rattle.std.specs.Prelude.{Some}
use Rattle.geometry.specs.Disk.{spot_of}
use Rattle.geometry.proofs.Laws.{spot_at}
use Rattle.refusals.specs.Order.{refuse, Reply}
use Rattle.refusals.specs.Answers.{refusal_number, Outcome, done, refused, Out, out}
use Rattle.refusals.specs.declared.Reason.{Reason}
use Rattle.refusals.proofs.Lowest.{positive}
use Rattle.packing.specs.Packed.{packed, clipped, check_outcome, Within}
use Rattle.packing.proofs.Parts.{within_fits, clipped-is}
use Rattle.drives.specs.Raw.{raw_refusal}
use Rattle.files.specs.Calls.{listing, reading, start_address}
use Rattle.plans.specs.Change.{Change}
use Rattle.plans.specs.Plan.{Changed, changed}
use Rattle.byte_lists.specs.Lists.{change_bytes}
use Rattle.varnucht.specs.Calls.{raw_sector_call, ReturnsCall}
use Rattle.varnucht.proofs.Bounds.{Bytes, listing_within, reading_within, starting_within, changing_within}

-- ---- a number that is packed of an outcome within bounds

pub packed_within : (o : Outcome) (v f : ℕ) → v < 2 ^ 24 → f < 2 ^ 16 → Within o v f → (p : Outcome) → p ≡ o → (n : ℕ) → n ≡ clipped p → n ≡ packed o
packed_within o v f h k w p e n q = q ∙ ap clipped e ∙ clipped-is o (within_fits o v f h k w)

-- a check's verdict
pub packed_check : (p : Reply) → Within (check_outcome p) 0 0 → (q : Reply) → q ≡ p → (n : ℕ) → n ≡ clipped (check_outcome q) → n ≡ packed (check_outcome p)
packed_check p w q e = packed_within (check_outcome p) 0 0 (omega arith) (omega arith) w (check_outcome q) (ap check_outcome e)

pub packed_start : (d n : List ℕ) → Bytes d → (o : Outcome) → o ≡ start_address d n → (k : ℕ) → k ≡ clipped o → k ≡ packed (start_address d n)
packed_start d n bytes = packed_within (start_address d n) 540671 0 (omega arith) (omega arith) (starting_within d n bytes)

-- with the buffer that the call fills
module _ (o : Outcome) (b : List ℕ) (n : ℕ) (q : n ≡ clipped o) where
  pub packed-list : (d buf : List ℕ) → out o b ≡ listing d buf → (n ≡ packed (listing d buf).outcome) × (b ≡ (listing d buf).buffer)
  packed-list d buf e =
      (packed_within (listing d buf).outcome 778 1560 (omega arith) (omega arith) (listing_within d buf) o (ap (λ (x : Out). x.outcome) e) n q, ap (λ (x : Out). x.buffer) e)

  pub packed-read : (d name buf : List ℕ) → out o b ≡ reading d name buf → (n ≡ packed (reading d name buf).outcome) × (b ≡ (reading d name buf).buffer)
  packed-read d name buf e =
      (packed_within (reading d name buf).outcome 795591 0 (omega arith) (omega arith) (reading_within d name buf) o (ap (λ (x : Out). x.outcome) e) n q, ap (λ (x : Out). x.buffer) e)

-- with the image and the list that a change leaves
pub packed-change : (c : Change) (d b : List ℕ) (o : Outcome) (d' b' : List ℕ) → changed o d' b' ≡ change_bytes c d b → (n : ℕ) → n ≡ clipped o → ReturnsCall c d b n d' b'
packed-change c d b o d' b' e n q = (
  packed_within (change_bytes c d b).outcome 1562 0 (omega arith) (omega arith) (changing_within c d b) o (ap (λ (x : Changed). x.outcome) e) n q,
  ap (λ (x : Changed). x.image) e,
  ap (λ (x : Changed). x.list) e,
)

-- ---- a raw sector

module _ (one two : List ℕ) (d t s : ℕ) where
  pub sector-refused : (r : Reason) → refusal_number r ≡ raw_refusal one two d t s → (n : ℕ) → n ≡ clipped (refused (refuse (refusal_number r) 0)) → n ≡ packed (raw_sector_call one two d t s)
  unfolding raw_sector_call clipped
  sector-refused r w n e = e ∙ rw (← w, ne_eqb (refusal_number r) 0 (positive r)) (omega arith)

  pub sector-placed : 0 ≡ raw_refusal one two d t s → (p : ℕ) → spot_of t s ≡ Some p → (n : ℕ) → n ≡ clipped (done p 0) → n ≡ packed (raw_sector_call one two d t s)
  unfolding raw_sector_call clipped
  sector-placed w p q n e =
      let h = spot_at t s p q in
      e ∙ rw (← w, ← h.place) (omega (arith, h))
