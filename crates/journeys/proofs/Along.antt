-- The entry of a file whose sectors lie along known bits.
use Prim.Native.Nat.{ℕ, ◌+◌, ◌*◌, ◌/◌, ◌%◌, ◌≤◌, ◌<◌}
use mathlib.Core.Path.{◌≡◌, refl, sym, ap, ap₂, ◌∙◌}
use mathlib.Core.Bool.{Bool}
use mathlib.Core.List.{List}
use native.Mathlib.Omega.{arith}
use lib.ListN.{length, get_or}
use Rattle.buffers.specs.Bytes.{tab}
use Rattle.buffers.proofs.Lists.{tab_cong, tab_of}
use Rattle.slots.specs.Slot.{first_of}
use Rattle.chains.specs.Chain.{chain_bit}
use Rattle.plans.specs.Saving.{chain_sectors}
use Rattle.plans.specs.Gathering.{payload_of}
use Rattle.plans.proofs.Free.{Run}
use Rattle.plans.proofs.NewFile.{chained_byte}
use Rattle.plans.proofs.AcceptedFile.{LinkedAlong, SlotNamesBits, first_bit, linked_along, chained_along}
use Rattle.journeys.specs.Ledger.{LedgerEntry}
use Rattle.journeys.specs.Journey.{entry_of_file}

-- slot, payload and chain
abbrev pub laid_out : List ℕ → List ℕ → (ℕ → ℕ) → LedgerEntry
laid_out s bs byte = record { slot = s; payload = tab (510 * length bs) byte; chain = bs }

module _ (p : ℕ → Bool) (s bs : List ℕ) (r : Run p 0 bs) (some : 1 ≤ length bs) (m : SlotNamesBits s bs) (sec : ℕ → List ℕ) (a : LinkedAlong sec bs) where
  at : (k : ℕ) → k < length bs → chain_bit sec (first_of s) k ≡ get_or bs k 0
  at k h = ap (λ (b : ℕ). chain_bit sec b k) (first_bit p s bs r some m) ∙ linked_along p s bs r some m sec a k h

  pub entry_along : entry_of_file (record { bytes = s; sectors = sec }) ≡ laid_out s bs (λ k. get_or (sec (get_or bs (k / 510) 0)) (k % 510) 0)
  unfolding payload_of
  entry_along =
      ap₂ {C = LedgerEntry} (λ (x c : List ℕ). record { slot = s; payload = x; chain = c })
      (ap (λ (n : ℕ). tab (510 * n) (λ k. get_or (sec (chain_bit sec (first_of s) (k / 510))) (k % 510) 0)) m.count
      ∙ tab_cong (510 * length bs) (λ k. get_or (sec (chain_bit sec (first_of s) (k / 510))) (k % 510) 0) (λ k. get_or (sec (get_or bs (k / 510) 0)) (k % 510) 0)
      (λ k h. ap (λ (b : ℕ). get_or (sec b) (k % 510) 0) (at (k / 510) (omega arith))))
      (ap (λ (n : ℕ). tab n (chain_bit sec (first_of s))) m.count ∙ sym (tab_of (length bs) (chain_bit sec (first_of s)) bs refl (λ k h. sym (at k h))))

-- sectors that hold a stream
pub entry_chained : (p : ℕ → Bool) (s bs : List ℕ) → Run p 0 bs → 1 ≤ length bs → SlotNamesBits s bs → (st : List ℕ)
    → entry_of_file (record { bytes = s; sectors = chain_sectors st 0 bs }) ≡ laid_out s bs (λ k. get_or st k 0)
entry_chained p s bs r some m st =
    entry_along p s bs r some m (chain_sectors st 0 bs) (chained_along st p bs r)
    ∙ ap (λ (x : List ℕ). record { slot = s; payload = x; chain = bs })
    (tab_cong (510 * length bs) (λ k. get_or (chain_sectors st 0 bs (get_or bs (k / 510) 0)) (k % 510) 0) (λ k. get_or st k 0)
    (λ k h.
    let e : 510 * (k / 510) + k % 510 ≡ k = omega arith in
    chained_byte st p bs r (k / 510) (k % 510) (omega arith) (omega arith) ∙ ap (λ (j : ℕ). get_or st j 0) e))
