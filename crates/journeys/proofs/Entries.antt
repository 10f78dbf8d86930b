-- An entry says what its file says: the length, the body and the start. A body lies in the payload, and so does the header.
use Prim.Native.Nat.{ℕ, ◌+◌, ◌*◌, ◌/◌, ◌%◌, ◌≤◌, ◌<◌}
use mathlib.Core.Path.{◌≡◌, refl, sym, ap, ap₂, ◌∙◌}
use mathlib.Core.Bool.{Bool, true, false, cond}
use mathlib.Core.Logic.{⊎_elim}
use native.Mathlib.Omega.{arith}
use lib.ListN.{length, get_or}
use Rattle.buffers.specs.Bytes.{tab, part}
use Rattle.buffers.proofs.Lists.{length-tab, get_or-tab, tab_of, part-long, part_at}
use Rattle.slots.specs.Slot.{kind_of, spectrum, readable, slot_fields, length_of, count_of, first_of, page_of, offset_of}
use Rattle.chains.specs.File.{File}
use Rattle.chains.specs.Chain.{chain_bit}
use Rattle.headers.specs.Header.{first_sector, file_length, body_byte, body}
use Rattle.disk.specs.Accepted.{AcceptedFile}
use Rattle.disk.proofs.Rows.{spectrum-is}
use Rattle.disk.proofs.Accepted.{body-fits}
use Rattle.files.specs.Calls.{address, file_start}
use Rattle.plans.specs.Gathering.{payload_of}
use Rattle.plans.proofs.Moved.{payload-byte}
use Rattle.journeys.specs.Ledger.{long_of, body_of}
use Rattle.journeys.specs.Journey.{entry_of_file}

module _ (n : ℕ) (f : File) (g : AcceptedFile n f) where
  -- kinds 1 to 4 have a first sector
  some-sectors : spectrum (kind_of f.bytes) ≡ true → 1 ≤ count_of f.bytes
  some-sectors e =
      let k = spectrum-is (kind_of f.bytes) e in
      ⊎_elim (λ a. absurd (omega (arith, a.0, k.1))) (λ a. a.1.some-sectors) g.sectors

  -- "the payload's front"
  head : spectrum (kind_of f.bytes) ≡ true → (k : ℕ) → k < 510 → get_or (payload_of f) k 0 ≡ get_or (first_sector f) k 0
  unfolding slot_fields chain_bit
  head e k h = ap (λ (j : ℕ). get_or (payload_of f) j 0) (omega arith) ∙ payload-byte f 0 k (some-sectors e) h

  -- a word of the header, or what another kind has for it
  word-is : (j k other : ℕ) → j < 510 → k < 510
      → cond (spectrum (kind_of f.bytes)) (get_or (first_sector f) j 0 + 256 * get_or (first_sector f) k 0) other
      ≡ cond (spectrum (kind_of f.bytes)) (get_or (payload_of f) j 0 + 256 * get_or (payload_of f) k 0) other
  word-is j k other p q = by (spectrum (kind_of f.bytes)) refl
    where
      by : (t : Bool) → spectrum (kind_of f.bytes) ≡ t
          → cond t (get_or (first_sector f) j 0 + 256 * get_or (first_sector f) k 0) other ≡ cond t (get_or (payload_of f) j 0 + 256 * get_or (payload_of f) k 0) other
      by true e = sym (ap₂ (λ (a b : ℕ). a + 256 * b) (head e j p) (head e k q))
      by false e = refl

  pub long-is : file_length f ≡ long_of (entry_of_file f)
  unfolding file_length long_of
  long-is = word-is 1 2 (length_of (slot_fields f.bytes)) (omega arith) (omega arith)

  pub start_is : file_start f ≡ Rattle.journeys.specs.Ledger.entry_start (entry_of_file f)
  unfolding file_start Rattle.journeys.specs.Ledger.entry_start
  start_is = word-is 3 4 (address (page_of f.bytes) (offset_of f.bytes)) (omega arith) (omega arith)

  -- of a kind that can be read the sectors hold the nine bytes and the body
  pub body_is : readable (kind_of f.bytes) ≡ true → body f ≡ body_of (entry_of_file f)
  unfolding body body_byte body_of payload_of slot_fields
  body_is e =
      let h = body-fits n f g e in
      let c : length (tab (510 * count_of f.bytes) pay) ≡ 510 * count_of f.bytes = length-tab (510 * count_of f.bytes) pay in
      sym (tab_of (file_length f) (body_byte f) (part 9 (file_length f) (tab (510 * count_of f.bytes) pay))
      (part-long 9 (file_length f) (tab (510 * count_of f.bytes) pay) (omega arith))
      (λ k m. part_at 9 (file_length f) (tab (510 * count_of f.bytes) pay) k m ∙ get_or-tab (510 * count_of f.bytes) pay (9 + k) (omega arith)))
      ∙ ap (λ (m : ℕ). part 9 m (payload_of f)) long-is
    where
      pay : ℕ → ℕ
      pay k = get_or (f.sectors (chain_bit f.sectors (first_of f.bytes) (k / 510))) (k % 510) 0
