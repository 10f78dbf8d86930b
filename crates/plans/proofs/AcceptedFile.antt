-- A slot that names a rising run of bits, over sectors that are linked along them, is an accepted file: for a save, a gather and a recording's close alike.
use Prim.Native.Nat.{ℕ, zero, suc, ◌+◌, ◌*◌, ◌/◌, ◌%◌, ◌≤◌, ◌<◌}
use mathlib.Core.Path.{◌≡◌, refl, sym, ap, ap₂, ◌∙◌}
use mathlib.Core.Bool.{Bool, true, false}
use mathlib.Core.List.{List}
use mathlib.Core.Logic.{inr}
use native.Mathlib.Omega.{arith}
use borrow.Author.Tests.{ne_eqb}
use lib.ListN.{length, get_or, drop_of_length-le}
use lib.Seq.{drop-cons}
use Rattle.buffers.specs.Bytes.{tab}
use Rattle.buffers.proofs.Lists.{tab_cong}
use Rattle.geometry.specs.Disk.{bit_of}
use Rattle.geometry.proofs.Laws.{address_data, address-bit}
use Rattle.maps.specs.Bits.{has}
use Rattle.slots.specs.Slot.{is_nameless, kind_of, count_of, first_of, map_of, slot_fields, length_of}
use Rattle.slots.specs.Tracks.{data_count, data_bit}
use Rattle.slots.proofs.Least.{sectors-least}
use Rattle.chains.specs.Chain.{linked_bit, chain_bit}
use Rattle.headers.specs.Header.{header_length, body_byte, file_length, body}
use Rattle.chains.specs.Whole.{LinksTo, LastLink, WholeChain}
use Rattle.disk.specs.Accepted.{Known, Carried, Spectrum, Agrees, AcceptedFile}
use Rattle.plans.specs.Change.{SaveRequest}
use Rattle.plans.specs.Saving.{next_track, next_sector, map_with, stream, chain_sectors, new_slot}
use Rattle.plans.proofs.Free.{Run, run_listed, run_at, run-rises}
use Rattle.plans.proofs.Kept.{usable-is}
use Rattle.plans.proofs.NewFile.{has-map_with, bits-map_with, listed_at, next-first, block_track, block_sector, chained_at, chained_byte, name-byte, new_file, slot-low, count-is, map_is, kind-is, track-is, sector-is, pages-is, remainder_is, length-is, Ready, filled}

-- sectors linked along these bits, the last to 0, 0
pub record LinkedAlong (sec : ℕ → List ℕ) (bs : List ℕ) : Type 0 where
  pub links : (k : ℕ) → suc k < length bs → LinksTo (sec (get_or bs k 0)) (get_or bs (suc k) 0)
  pub last : (k : ℕ) → suc k ≡ length bs → LastLink (sec (get_or bs k 0))

-- a slot that names these bits: count, first address, map
pub record SlotNamesBits (s bs : List ℕ) : Type 0 where
  pub count : count_of s ≡ length bs
  pub track : get_or s 13 0 ≡ next_track bs
  pub sector : get_or s 14 0 ≡ next_sector bs
  pub map : map_of s ≡ map_with bs

-- what else the rules ask of a slot, with n directory tracks beyond four, and of its first sector h
pub record SlotFits (n : ℕ) (s h : List ℕ) : Type 0 where
  pub kind : Known (kind_of s)
  pub other : kind_of s ≡ 21 → ⊥
  pub few : count_of s ≤ data_count n
  pub long : Carried (kind_of s) → 9 + length_of (slot_fields s) ≤ 510 * count_of s
  pub header : Carried (kind_of s) → Agrees s h
  pub spectrum-long : Spectrum (kind_of s) → 9 + header_length h ≤ 510 * count_of s

module _ (p : ℕ → Bool) (s bs : List ℕ) (r : Run p 0 bs) (some : 1 ≤ length bs) (m : SlotNamesBits s bs) where
  small : get_or bs 0 0 < 1560
  small = (run_at p 0 bs r 0 some).small

  pub first_bit : first_of s ≡ get_or bs 0 0
  first_bit = let e = next-first bs some in ap₂ bit_of (m.track ∙ e.0) (m.sector ∙ e.1) ∙ address-bit (get_or bs 0 0) small

  pub own-bit : (k : ℕ) → k < length bs → has (map_of s) (get_or bs k 0) ≡ true
  own-bit k h = rw m.map (has-map_with p 0 bs r (get_or bs k 0) ∙ listed_at bs k h)

  pub whole_of : (sec : ℕ → List ℕ) → LinkedAlong sec bs → WholeChain (slot_fields s) sec
  unfolding slot_fields
  whole_of sec a = record {
    chain = bs;
    long = sym m.count;
    own = own-bit;
    distinct = λ j k h q e. absurd (omega (arith, run-rises p 0 bs r j k h q));
    starts = sym first_bit;
    links = a.links;
    last = a.last;
  }

  pub accepted_of : (n : ℕ) → ((b : ℕ) → p b ≡ true → data_bit n b ≡ true) → (sec : ℕ → List ℕ) → LinkedAlong sec bs → SlotFits n s (sec (get_or bs 0 0)) → AcceptedFile n (record { bytes = s; sectors = sec })
  unfolding slot_fields
  accepted_of n q sec a f = record {
    kind = f.kind;
    sectors = inr (
      f.other,
      record {
        some-sectors = omega (arith, some, m.count);
        first_data = rw (m.track ∙ (next-first bs some).0, m.sector ∙ (next-first bs some).1) (address_data (get_or bs 0 0) small);
        first-own = rw first_bit (own-bit 0 some);
        chain = whole_of sec a;
      },
    );
    few-sectors = f.few;
    bits = rw m.map (bits-map_with p 0 bs r ∙ sym m.count);
    data_bits = λ b h. q b (run_listed p 0 bs r b (sym (has-map_with p 0 bs r b) ∙ (rw m.map at h))).passes;
    fits = f.long;
    header = rw first_bit f.header;
    spectrum-fits = rw first_bit f.spectrum-long;
  }

  -- ---- its body, along the bits

  pub linked_along : (sec : ℕ → List ℕ) → LinkedAlong sec bs → (k : ℕ) → k < length bs → chain_bit sec (get_or bs 0 0) k ≡ get_or bs k 0
  unfolding chain_bit linked_bit
  linked_along sec a zero h = refl
  linked_along sec a (suc k) h =
      let n = a.links k h in
      ap (λ (b : ℕ). linked_bit (sec b)) (linked_along sec a k (omega arith)) ∙ ap₂ bit_of n.track n.sector
      ∙ address-bit (get_or bs (suc k) 0) (run_at p 0 bs r (suc k) h).small

  pub body_along : (sec : ℕ → List ℕ) → LinkedAlong sec bs → 9 + file_length (record { bytes = s; sectors = sec }) ≤ 510 * length bs
      → body (record { bytes = s; sectors = sec }) ≡ tab (file_length (record { bytes = s; sectors = sec })) (λ k. get_or (sec (get_or bs ((9 + k) / 510) 0)) ((9 + k) % 510) 0)
  unfolding body body_byte slot_fields
  body_along sec a h =
      tab_cong (file_length (record { bytes = s; sectors = sec })) (body_byte (record { bytes = s; sectors = sec })) (λ k. get_or (sec (get_or bs ((9 + k) / 510) 0)) ((9 + k) % 510) 0)
      (λ k q.
      let m : (9 + k) / 510 < length bs = omega arith in
      ap (λ (b : ℕ). get_or (sec b) ((9 + k) % 510) 0) (ap (λ (b : ℕ). chain_bit sec b ((9 + k) / 510)) first_bit ∙ linked_along sec a ((9 + k) / 510) m))

-- the sectors of a stream on rising bits are linked along them
pub chained_along : (st : List ℕ) (p : ℕ → Bool) (bs : List ℕ) → Run p 0 bs → LinkedAlong (chain_sectors st 0 bs) bs
chained_along st p bs r = record {
  links = λ k h.
      rw (chained_at st p 0 0 bs r k (omega arith), drop-cons bs (suc k) 0 h) (record { track = block_track st _ _ _; sector = block_sector st _ _ _ });
  last = λ k h.
      rw (chained_at st p 0 0 bs r k (omega arith), drop_of_length-le bs {i = suc k} (omega arith))
      (record { track = block_track st _ _ _; sector = block_sector st _ _ _ });
}

-- ---- the slot and the sectors of a save

module _ (label : ℕ → ℕ) (i : ℕ) (w : SaveRequest) (bs : List ℕ) where
  -- the slot that a save writes names its bits
  pub slot-names : SlotNamesBits (new_slot label i w bs) bs
  slot-names = record { count = count-is label i w bs; track = track-is label i w bs; sector = sector-is label i w bs; map = map_is label i w bs }

  -- and fits every first sector that begins with the header of the body
  pub slot-fits : (n : ℕ) (p : ℕ → Bool) → Ready n p w bs → (h : List ℕ) → ((k : ℕ) → k < 9 → get_or h k 0 ≡ get_or (stream w) k 0) → SlotFits n (new_slot label i w bs) h
  unfolding stream
  slot-fits n p r h e = record {
    kind = inr (omega (arith, r.kind, kind), omega (arith, r.kind, kind));
    other = λ z. omega (arith, r.kind, kind);
    few = omega (arith, count-is label i w bs, r.few);
    long = λ c. omega (arith, length-is label i w bs, count-is label i w bs, r.long, sectors-least (length w.body));
    header = λ c. record {
      kind = e 0 (omega arith) ∙ sym kind;
      remainder = rw (e 1 (omega arith), e 2 (omega arith), remainder_is label i w bs) (omega arith);
      pages = e 7 (omega arith) ∙ sym (pages-is label i w bs);
    };
    spectrum-long = λ (c : Spectrum (kind_of (new_slot label i w bs))). absurd (omega (arith, c.1, r.kind, kind));
  }
    where
      kind : kind_of (new_slot label i w bs) ≡ w.kind
      kind = kind-is label i w bs (omega (arith, r.kind))

module _ (label : ℕ → ℕ) (i n : ℕ) (p : ℕ → Bool) (w : SaveRequest) (bs : List ℕ) (r : Ready n p w bs) where
  -- its slot has a name
  pub new_named : is_nameless (new_slot label i w bs) ≡ false
  new_named =
      ne_eqb (get_or (new_slot label i w bs) 1 0) 0
      (λ q. (usable-is w.name r.name).0 (sym (slot-low label i w bs 1 (omega arith) ∙ name-byte w bs 1 (omega arith) (omega arith)) ∙ q))

  pub new-accepted : AcceptedFile n (new_file label i w bs)
  new-accepted =
      let f = filled label i n p w bs r in
      accepted_of p (new_slot label i w bs) bs r.run f (slot-names label i w bs) n r.inside (chain_sectors (stream w) 0 bs) (chained_along (stream w) p bs r.run)
      (slot-fits label i w bs n p r (chain_sectors (stream w) 0 bs (get_or bs 0 0))
      (λ k h. chained_byte (stream w) p bs r.run 0 k f (omega arith) ∙ ap (λ (j : ℕ). get_or (stream w) j 0) (omega arith)))
