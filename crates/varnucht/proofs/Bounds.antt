-- Every outcome of a call keeps to bounds: refusals of the table, slots of the directory, and the greatest value that the call can give.
use Prim.Native.Nat.{ℕ, ◌+◌, ◌/◌, ◌≤◌, ◌<◌}
use mathlib.Core.Path.{◌≡◌, refl, sym, ap, ◌∙◌, subst}
use mathlib.Core.Bool.{Bool, true, false, cond, not, ◌&&◌}
use mathlib.Core.List.{List, []}
use mathlib.Core.Logic.{⊎_elim}
use mathlib.Core.Option.{Option, none, some}
use native.Mathlib.Omega.{arith}
use borrow.Author.Tests.{leb-true, eqb-true, not-false}
use lib.Dec.{eqb, leb, ltb}
use lib.ListN.{length, get_or}
use Rattle.buffers.proofs.Lists.{part_at}
use Rattle.buffers.proofs.Tests.{and_both}
use Rattle.geometry.specs.Disk.{is_sector, sector_place, bit_place}
use Rattle.geometry.proofs.Laws.{sector-inside}
use Rattle.maps.specs.Bits.{has}
use Rattle.refusals.specs.Order.{Refusal, refuse, Reply, ◌else◌, row}
use Rattle.refusals.specs.Answers.{last_number, Outcome, done, refused, unless, Out, filled}
use Rattle.refusals.proofs.First.{else_none}
use Rattle.slots.specs.Slot.{kind_of, carried, spectrum, readable, map_of, slot_fields, page_of, offset_of}
use Rattle.slots.proofs.KindLaws.{carried_not, read_either}
use Rattle.names.specs.Name.{askable}
use Rattle.chains.specs.File.{sector_at, sectors_of, file_of}
use Rattle.headers.specs.Header.{file_length, body}
use Rattle.drives.specs.Raw.{is_image, is_drive, raw_refusal}
use Rattle.drives.proofs.Laws.{accepted}
use Rattle.directory.specs.Places.{slots}
use Rattle.directory.specs.Directory.{tracks_of, directory, slot_or, live_among}
use Rattle.surveys.specs.Survey.{free}
use Rattle.directory.specs.Find.{find}
use Rattle.disk.specs.View.{view, view_slots}
use Rattle.disk.specs.Check.{check_view, check_disk, check_release}
use Rattle.files.specs.Calls.{entries, listing, SlotLookup, found_slot, refused_lookup, lookup_by, lookup, address, file_start, start_at, start_address, read_at, reading}
use Rattle.files.proofs.Listing.{listing-is}
use Rattle.files.proofs.Named.{lookup_named, named_slot}
use Rattle.files.proofs.Reading.{read-refused, read_found}
use Rattle.files.proofs.Starting.{start_refused, start_found}
use Rattle.readers.proofs.Joined.{length-few}
use Rattle.plans.specs.Change.{Change}
use Rattle.plans.specs.Plan.{Result, refused_result, new_disk, run_change}
use Rattle.plans.proofs.SafeSteps.{row-none}
use Rattle.packing.specs.Packed.{packed, Within, Unpacked}
use Rattle.packing.proofs.Parts.{within_fits, unpacked}
use Rattle.byte_lists.specs.Lists.{change_bytes, change_bytes_by}
use Rattle.byte_lists.proofs.Table.{Small, small_else, small_row, small_by, check_small}
use Rattle.byte_lists.proofs.Bounds.{free-few, most, most-few, ResultBounded, bounded_run}
use Rattle.varnucht.specs.Calls.{check_call, check_release_call, raw_sector_call}
use Rattle.directory.proofs.Live.{among_few}

-- ---- outcomes

pub within_refused : (r : Refusal) (v f : ℕ) → Small (some r) → Within (refused r) v f
within_refused r v f a = record { refusal = a.0; slot = a.1; value = omega arith; free = omega arith }

pub within_unless : (q : Reply) (x y v f : ℕ) → Small q → (q ≡ none → (x ≤ v) × (y ≤ f)) → Within (unless q (done x y)) v f
within_unless none x y v f a h = record { refusal = omega arith; slot = omega arith; value = (h refl).0; free = (h refl).1 }
within_unless (some r) x y v f a h = within_refused r v f a

pub filled-outcome : (q : Reply) (o : Outcome) (x buf : List ℕ) → (filled q o x buf).outcome ≡ unless q o
filled-outcome none o x buf = refl
filled-outcome (some r) o x buf = refl

-- ---- the two checks

pub checking_within : (d : List ℕ) → Within (check_call d) 0 0
unfolding check_disk
checking_within d = within_unless (check_disk d) 0 0 0 0 (check_small (view d)) (λ e. (omega arith, omega arith))

pub releasing_within : (d : List ℕ) → Within (check_release_call d) 0 0
unfolding check_release
releasing_within d = within_unless (check_release d) 0 0 0 0 (small_by true (view d)) (λ e. (omega arith, omega arith))

-- ---- the listing: 778 slots, 1,560 sectors

pub listing_within : (d buf : List ℕ) → Within (listing d buf).outcome 778 1560
unfolding check_disk
listing_within d buf =
    let x = entries (directory d) slots in
    let live = live_among (directory d) slots in
    let short = ltb (length buf) (length x) in
    let q = check_disk d else row 20 0 short in
    let e = ap (λ (o : Out). o.outcome) (listing-is d buf) ∙ filled-outcome q (done live (free (tracks_of d) (directory d))) x buf in
    subst (λ (o : Outcome). Within o 778 1560) (sym e)
    (within_unless q live (free (tracks_of d) (directory d)) 778 1560
    (small_else (check_disk d) (row 20 0 short) (check_small (view d)) (small_row 20 0 short (omega arith) (omega arith)))
    (λ e. (among_few (directory d) slots, free-few (tracks_of d) (directory d))))

-- ---- a file by its name

-- page 31, offset 49,151
address-few : (s : List ℕ) → (leb 32768 (offset_of s) && leb (offset_of s) 49151) ≡ true → address (page_of s) (offset_of s) ≤ 540671
unfolding address
address-few s e = let h : offset_of s ≤ 49151 = leb-true _ _ (and_both (leb 32768 (offset_of s)) _ e).1 in omega arith

-- every number in a list of bytes is below 256
abbrev pub Bytes : List ℕ → Type 0
Bytes d = (k : ℕ) → get_or d k 0 < 256

-- so is every byte of a file's sector: the image has it, or it is 0
sector-byte : (d s : List ℕ) → Bytes d → (b j : ℕ) → j < 512 → get_or (sectors_of d s b) j 0 < 256
unfolding sectors_of
sector-byte d s h b j l = by (has (map_of s) b)
  where
    by : (t : Bool) → get_or (cond t (sector_at d b) []) j 0 < 256
    by true = rw (part_at (bit_place b) 512 d j l) (h (bit_place b + j))
    by false = omega arith

module _ (d n : List ℕ) where
  lookup-small : (r : Refusal) → refused_lookup r ≡ lookup (view d) n → Small (some r)
  unfolding lookup
  lookup-small r e =
      by (check_view (view d) else row 12 0 (not (askable n)))
      (small_else (check_view (view d)) (row 12 0 (not (askable n))) (check_small (view d)) (small_row 12 0 (not (askable n)) (omega arith) (omega arith))) (find (view_slots (view d)) n) e
    where
      by : (q : Reply) → Small q → (o : Option ℕ) → refused_lookup r ≡ lookup_by q o → Small (some r)
      by (some x) a o w = let z : x ≡ r = cc in subst (λ (r : Refusal). Small (some r)) z a
      by none a none w = let z : refuse 15 0 ≡ r = cc in subst (λ (r : Refusal). Small (some r)) z (omega arith, omega arith)
      by none a (some i) w = let z : ◌≡◌ {A = ℕ} 0 1 = cc in absurd (omega arith)

  slot-few : (i : ℕ) → found_slot i ≡ lookup (view d) n → i + 1 ≤ 778
  slot-few i e = omega (arith, (named_slot d n i (lookup_named d n i e)).below)

  pub reading_within : (buf : List ℕ) → Within (reading d n buf).outcome 795591 0
  unfolding read_at file_of
  reading_within buf = by (lookup (view d) n) refl
    where
      found : (i : ℕ) → found_slot i ≡ lookup (view d) n → Within (read_at (i + 1) (file_of d (slot_or d i)) buf).outcome 795591 0
      found i e =
          let f = file_of d (slot_or d i) in
          let len = file_length f in
          let kind = readable (kind_of f.bytes) in
          let short = ltb (length buf) len in
          let q = row 13 (i + 1) (not kind) else row 20 0 short in
          subst (λ (o : Outcome). Within o 795591 0) (sym (filled-outcome q (done len 0) (body f) buf))
          (within_unless q len 0 795591 0
          (small_else (row 13 (i + 1) (not kind)) (row 20 0 short) (small_row 13 (i + 1) (not kind) (omega arith) (slot-few i e))
          (small_row 20 0 short (omega arith) (omega arith)))
          (λ z. (length-few d n i (lookup_named d n i e) (not-false kind (row-none 13 (i + 1) (not kind) (else_none (row 13 (i + 1) (not kind)) (row 20 0 short) z).0)), omega arith)))

      by : (x : SlotLookup) → x ≡ lookup (view d) n → Within (reading d n buf).outcome 795591 0
      by (refused_lookup r) e = subst (λ (o : Out). Within o.outcome 795591 0) (read-refused d n buf r e) (within_refused r 795591 0 (lookup-small r e))
      by (found_slot i) e = subst (λ (o : Out). Within o.outcome 795591 0) (read_found d n buf i e) (found i e)

  -- a start in a header is at most 65,535, and an address in its range at most that of page 31 and offset 49,151
  start_few : Bytes d → (s : List ℕ) → readable (kind_of s) ≡ true → (not (spectrum (kind_of s)) && not (leb 32768 (offset_of s) && leb (offset_of s) 49151)) ≡ false
      → file_start (file_of d s) ≤ 540671
  unfolding file_start file_of
  start_few bytes s r q =
      ⊎_elim
      (λ (e : carried (kind_of s) ≡ true).
      let z = carried_not (kind_of s) e in
      rw z (address-few s (not-false _ (sym (ap (λ (t : Bool). not t && not (leb 32768 (offset_of s) && leb (offset_of s) 49151)) z) ∙ q))))
      (λ (e : spectrum (kind_of s) ≡ true).
      rw e (omega (arith, sector-byte d s bytes (slot_fields s).first 3 (omega arith), sector-byte d s bytes (slot_fields s).first 4 (omega arith))))
      (read_either (kind_of s) r)

  pub starting_within : Bytes d → Within (start_address d n) 540671 0
  unfolding start_at file_of
  starting_within bytes = by (lookup (view d) n) refl
    where
      found : (i : ℕ) → found_slot i ≡ lookup (view d) n → Within (start_at (i + 1) (file_of d (slot_or d i))) 540671 0
      found i e =
          let s = slot_or d i in
          let kind = readable (kind_of s) in
          let p = row 13 (i + 1) (not kind) in
          let outside = not (spectrum (kind_of s)) && not (leb 32768 (offset_of s) && leb (offset_of s) 49151) in
          let q = row 14 (i + 1) outside in
          within_unless (p else q) (file_start (file_of d s)) 0 540671 0
          (small_else p q (small_row 13 (i + 1) (not kind) (omega arith) (slot-few i e)) (small_row 14 (i + 1) outside (omega arith) (slot-few i e)))
          (λ z. let w = else_none p q z in (start_few bytes s (not-false kind (row-none 13 (i + 1) (not kind) w.0)) (row-none 14 (i + 1) outside w.1), omega arith))

      by : (x : SlotLookup) → x ≡ lookup (view d) n → Within (start_address d n) 540671 0
      by (refused_lookup r) e = subst (λ (o : Outcome). Within o 540671 0) (start_refused d n r e) (within_refused r 540671 0 (lookup-small r e))
      by (found_slot i) e = subst (λ (o : Outcome). Within o 540671 0) (start_found d n i e) (found i e)

-- ---- a raw sector: the last begins 512 bytes before the image's end

module _ (one two : List ℕ) (d t s : ℕ) where
  raw_few : raw_refusal one two d t s ≤ last_number
  unfolding raw_refusal
  raw_few = by (is_image one && is_image two) (is_drive d && is_sector t s)
    where
      by : (a b : Bool) → cond (not a) 1 (cond (not b) 21 0) ≤ last_number
      by false b = omega arith
      by true false = omega arith
      by true true = omega arith

  pub sector_within : Within (raw_sector_call one two d t s) 818688 0
  unfolding raw_sector_call
  sector_within = by (eqb (raw_refusal one two d t s) 0) refl
    where
      by : (b : Bool) → eqb (raw_refusal one two d t s) 0 ≡ b → Within (cond b (done (sector_place t s) 0) (refused (refuse (raw_refusal one two d t s) 0))) 818688 0
      by true q =
          let h = sector-inside t s (accepted one two d t s (eqb-true _ 0 q)).sector in
          record { refusal = omega arith; slot = omega arith; value = omega arith; free = omega arith }
      by false q = within_refused (refuse (raw_refusal one two d t s) 0) 818688 0 (raw_few, omega arith)

-- ---- a change: 1,560 data sectors and one of the directory

module _ (c : Change) (d b : List ℕ) where
  pub changing_within : Within (change_bytes c d b).outcome 1562 0
  unfolding change_bytes
  changing_within = by (run_change c d (length b / 2)) (bounded_run c d (length b / 2))
    where
      by : (x : Result) → ResultBounded (most c) x → Within (change_bytes_by x d b).outcome 1562 0
      by (refused_result r) m = within_refused r 1562 0 m
      by (new_disk new ss) m = record { refusal = omega arith; slot = omega arith; value = omega (arith, most-few c); free = omega arith }

-- ---- so every answer can be read in its parts

pub checking_reported : (d : List ℕ) → Unpacked (check_call d) (packed (check_call d))
checking_reported d = unpacked _ (within_fits _ _ _ (omega arith) (omega arith) (checking_within d))

pub releasing_reported : (d : List ℕ) → Unpacked (check_release_call d) (packed (check_release_call d))
releasing_reported d = unpacked _ (within_fits _ _ _ (omega arith) (omega arith) (releasing_within d))

pub listing_reported : (d buf : List ℕ) → Unpacked (listing d buf).outcome (packed (listing d buf).outcome)
listing_reported d buf = unpacked _ (within_fits _ _ _ (omega arith) (omega arith) (listing_within d buf))

pub reading_reported : (d n buf : List ℕ) → Unpacked (reading d n buf).outcome (packed (reading d n buf).outcome)
reading_reported d n buf = unpacked _ (within_fits _ _ _ (omega arith) (omega arith) (reading_within d n buf))

pub starting_reported : (d n : List ℕ) → Bytes d → Unpacked (start_address d n) (packed (start_address d n))
starting_reported d n bytes = unpacked _ (within_fits _ _ _ (omega arith) (omega arith) (starting_within d n bytes))

pub sector_reported : (one two : List ℕ) (d t s : ℕ) → Unpacked (raw_sector_call one two d t s) (packed (raw_sector_call one two d t s))
sector_reported one two d t s = unpacked _ (within_fits _ _ _ (omega arith) (omega arith) (sector_within one two d t s))

pub changing_reported : (c : Change) (d b : List ℕ) → Unpacked (change_bytes c d b).outcome (packed (change_bytes c d b).outcome)
changing_reported c d b = unpacked _ (within_fits _ _ _ (omega arith) (omega arith) (changing_within c d b))
