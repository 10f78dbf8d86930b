-- The ends of a recording's chain: what the record keeps of them is what a save of its body writes there.
use Prim.Native.Nat.{ℕ, suc, ◌+◌, ◌-◌, ◌*◌, ◌≤◌, ◌<◌}
use mathlib.Core.Path.{◌≡◌, refl, sym, ap, ap₂, ◌∙◌}
use mathlib.Core.Bool.{Bool, true, false, cond}
use mathlib.Core.List.{List, [], ◌∷◌, ◌++◌, append-nil}
use mathlib.Core.Logic.{⊎_elim}
use native.Mathlib.Nat.{not-suc-le-zero}
use native.Mathlib.Omega.{arith}
use borrow.Author.Tests.{lt-ltb, le-ltb, le-leb}
use lib.Dec.{ltb}
use lib.ListN.{length, get_or, set, get_or-append}
use Rattle.buffers.specs.Bytes.{part, put}
use Rattle.buffers.proofs.Lists.{below_or_not, past_end, length-tab, get_or-tab, tab_past, length_part, part_at, put_one, put_next}
use Rattle.geometry.specs.Disk.{bit_number, bit_place, place_or_end}
use Rattle.geometry.proofs.Laws.{place_or_end_lem}
use Rattle.slots.specs.Slot.{sectors_for}
use Rattle.slots.proofs.Least.{sectors-least}
use Rattle.steps.specs.Steps.{put_all, apply, numbers}
use Rattle.plans.specs.Change.{SaveRequest}
use Rattle.plans.specs.Allowed.{sectors_taken}
use Rattle.plans.specs.Saving.{stream, sector_bytes, next_track, next_sector}
use Rattle.plans.proofs.Blocks.{blocks}
use Rattle.sector_writes.specs.declared.Link.{Link}
use Rattle.sector_writes.specs.Sector.{header_fields_of, FieldsFit, header, link_to_bit, link_to_next}
use Rattle.sector_writes.proofs.Links.{stream-is, to_some}
use Rattle.sector_writes.proofs.Runs.{get_or_right}
use Rattle.recordings.specs.declared.Record.{Record}
use Rattle.recordings.specs.Record.{last_from, kept_byte, recording_of}
use Rattle.recordings.specs.Recording.{close_data}
use Rattle.recordings.proofs.Uninterrupted.{block_shift, stream-body}
use Rattle.recordings.proofs.Close.{one_sector, two_sectors}
use Rattle.record_close.specs.Close.{request_of, end_sectors, end_numbers}

-- ---- the bytes that the record keeps

module _ (k : Record) where
  pub body-long : length (request_of k).body ≡ k.long
  unfolding recording_of
  body-long = length-tab k.long (kept_byte k)

  -- the first sector's body bytes
  first_byte : (j : ℕ) → j < 501 → get_or (part 0 k.long k.first) j 0 ≡ get_or (request_of k).body j 0
  unfolding recording_of kept_byte
  first_byte j h =
      ⊎_elim
      (λ (l : j < k.long).
      let z : 0 + j ≡ j = omega arith in
      part_at 0 k.long k.first j l ∙ ap (λ (n : ℕ). get_or k.first n 0) z ∙ sym (get_or-tab k.long (kept_byte k) j l ∙ rw (lt-ltb j 501 h)))
      (λ (l : k.long ≤ j). past_end (part 0 k.long k.first) j (omega (arith, length_part 0 k.long k.first)) ∙ sym (tab_past k.long (kept_byte k) j l))
      (below_or_not j k.long)

  -- the last one's, which begin at body byte a
  last_byte : (a : ℕ) → a ≡ last_from k.long → 501 ≤ a → a ≤ k.long → (j : ℕ) → get_or (part 0 (k.long - a) k.last) j 0 ≡ get_or (request_of k).body (a + j) 0
  unfolding recording_of kept_byte
  last_byte a e h m j =
      ⊎_elim
      (λ (l : j < k.long - a).
      let z : a + j - last_from k.long ≡ 0 + j = omega arith in
      part_at 0 (k.long - a) k.last j l
      ∙ sym (get_or-tab k.long (kept_byte k) (a + j) (omega arith) ∙ rw (le-ltb (a + j) 501 (omega arith), le-leb (last_from k.long) (a + j) (omega arith), z)))
      (λ (l : k.long - a ≤ j). past_end (part 0 (k.long - a) k.last) j (omega (arith, length_part 0 (k.long - a) k.last)) ∙ sym (tab_past k.long (kept_byte k) (a + j) (omega arith)))
      (below_or_not j (k.long - a))

  -- ---- the sectors

  head_long : length (header (header_fields_of (request_of k)) k.long) ≡ 9
  unfolding header
  head_long = refl

  first-stream : FieldsFit (header_fields_of (request_of k)) (length (request_of k).body) → (j : ℕ) → j < 510
      → get_or (header (header_fields_of (request_of k)) k.long ++ part 0 k.long k.first) j 0 ≡ get_or (stream (request_of k)) j 0
  first-stream p j h =
      let hd : List ℕ = header (header_fields_of (request_of k)) k.long in
      let x : List ℕ = part 0 k.long k.first in
      let st : hd ++ (request_of k).body ≡ stream (request_of k) = ap (λ (n : ℕ). header (header_fields_of (request_of k)) n ++ (request_of k).body) (sym body-long) ∙ stream-is (request_of k) p in
      ⊎_elim (λ (l : j < 9). get_or-append hd x 0 j (omega (arith, head_long)) ∙ sym (get_or-append hd (request_of k).body 0 j (omega (arith, head_long))))
      (λ (l : 9 ≤ j).
      get_or_right hd x j (j - 9) (omega (arith, head_long)) ∙ first_byte (j - 9) (omega arith) ∙ sym (get_or_right hd (request_of k).body j (j - 9) (omega (arith, head_long))))
      (below_or_not j 9)
      ∙ ap (λ (y : List ℕ). get_or y j 0) st

  pub first-sector : FieldsFit (header_fields_of (request_of k)) (length (request_of k).body) → (d : List ℕ) (b : ℕ) (link : Link) {head x d' : List ℕ} {s : _} → s ≡ header_fields_of (request_of k) → head ≡ header s k.long
      → x ≡ part 0 k.long k.first → d' ≡ put d (place_or_end b) (sector_bytes (head ++ x) 0 link.track link.sector)
      → d' ≡ put d (place_or_end b) (sector_bytes (stream (request_of k)) 0 link.track link.sector)
  first-sector p d b link {head} {x} {d'} {s} es eh ex q =
      q
      ∙ ap (put d (place_or_end b))
      (ap₂ (λ (h y : List ℕ). sector_bytes (h ++ y) 0 link.track link.sector) (eh ∙ ap (λ s. header s k.long) es) ex
      ∙ block_shift (header (header_fields_of (request_of k)) k.long ++ part 0 k.long k.first) (stream (request_of k)) 0 0 link.track link.sector
      (λ j h. let z : 0 + j ≡ j = omega arith in rw z (first-stream p j h)))

  -- how its last sector begins, of n
  module _ (n : ℕ) (e : n ≡ sectors_taken (request_of k)) (h : 1 < n) where
    many-long : n ≡ sectors_for k.long
    many-long = e ∙ ap sectors_for body-long

    pub last_from_lem : (510 * (n - 1) - 9 ≡ last_from k.long) × (510 * (n - 1) - 9 ≤ k.long) × (n ≤ 1 + k.long)
    last_from_lem = (ap (λ (m : ℕ). 510 * (m - 1) - 9) many-long, omega (arith, many-long, sectors-least k.long), omega (arith, many-long, sectors-least k.long))

    pub last-sector : (d : List ℕ) (b : ℕ) {x d' : List ℕ} → x ≡ part 0 (k.long - (510 * (n - 1) - 9)) k.last → d' ≡ put d (place_or_end b) (sector_bytes (x ++ []) 0 0 0)
        → d' ≡ put d (place_or_end b) (sector_bytes (stream (request_of k)) (510 * (n - 1)) 0 0)
    last-sector d b {x} {d'} ex q =
        let a : ℕ = 510 * (n - 1) - 9 in
        q
        ∙ ap (put d (place_or_end b))
        (ap (λ (y : List ℕ). sector_bytes y 0 0 0) (append-nil x ∙ ex)
        ∙ block_shift (part 0 (k.long - a) k.last) (stream (request_of k)) 0 (510 * (n - 1)) 0 0
        (λ j l.
        let z : 0 + j ≡ j = omega arith in
        let y : 510 * (n - 1) + j - 9 ≡ a + j = omega arith in
        rw z (last_byte a last_from_lem.0 (omega arith) last_from_lem.1 j) ∙ sym (stream-body (request_of k) (510 * (n - 1) + j) (omega arith) ∙ ap (λ (i : ℕ). get_or (request_of k).body i 0) y)))

-- ---- the chain's ends

-- one sector alone
pub ends_one : (w : SaveRequest) (d bs : List ℕ) → length bs < 2 → 1 ≤ length bs → get_or bs 0 0 < 1560 → {x : ℕ} → x ≡ get_or bs 0 0 → {d' : List ℕ}
    → d' ≡ put d (place_or_end x) (sector_bytes (stream w) 0 0 0) → d' ≡ apply d (close_data w bs)
unfolding apply put_all blocks
ends_one w d [] l h s e q = absurd (not-suc-le-zero h)
ends_one w d (b ∷ []) l h s e q =
    q ∙ ap (λ (a : ℕ). put d a (sector_bytes (stream w) 0 0 0)) (ap place_or_end e ∙ place_or_end_lem b s) ∙ sym (ap (apply d) (one_sector w b))
ends_one w d (b ∷ c ∷ cs) l h s e q = absurd (omega arith)

-- the last, and then the first
pub ends_two : (w : SaveRequest) (d bs : List ℕ) → 2 ≤ length bs → ((k : ℕ) → k < length bs → get_or bs k 0 < 1560) → {z y x : ℕ} {link : Link} {d' d'' : List ℕ}
    → z ≡ get_or bs (length bs - 1) 0 → d' ≡ put d (place_or_end z) (sector_bytes (stream w) (510 * (length bs - 1)) 0 0) → y ≡ get_or bs 1 0 → link ≡ link_to_bit y
    → x ≡ get_or bs 0 0 → d'' ≡ put d' (place_or_end x) (sector_bytes (stream w) 0 link.track link.sector) → d'' ≡ apply d (close_data w bs)
unfolding apply put_all blocks link_to_next
ends_two w d [] h s ez p ey e ex q = absurd (omega arith)
ends_two w d (b ∷ []) h s ez p ey e ex q = absurd (omega arith)
ends_two w d (b ∷ c ∷ cs) h s {x = x} {link = link} {d' = d'} ez p ey e ex q =
    let bs : List ℕ = b ∷ c ∷ cs in
    let n : length (b ∷ c ∷ cs) - 1 ≡ suc (length cs) = omega arith in
    let t : ℕ = get_or (c ∷ cs) (length cs) 0 in
    let l : link ≡ link_to_next (c ∷ cs) = to_some bs 1 (omega arith) (s 1 (omega arith)) link (e ∙ ap link_to_bit ey) in
    let m : d' ≡ put d (bit_place t) (sector_bytes (stream w) (510 * suc (length cs)) 0 0) =
    p ∙ ap (λ (z : ℕ). put d (place_or_end z) (sector_bytes (stream w) (510 * (length bs - 1)) 0 0)) ez
    ∙ ap (λ (k : ℕ). put d (place_or_end (get_or bs k 0)) (sector_bytes (stream w) (510 * k) 0 0)) n
    ∙ ap (λ (a : ℕ). put d a (sector_bytes (stream w) (510 * suc (length cs)) 0 0)) (place_or_end_lem t (s (suc (length cs)) (omega arith))) in
    q ∙ ap₂ (λ (y : List ℕ) (k : Link). put y (place_or_end x) (sector_bytes (stream w) 0 k.track k.sector)) m l
    ∙ ap (λ (a : ℕ). put (put d (bit_place t) (sector_bytes (stream w) (510 * suc (length cs)) 0 0)) a (sector_bytes (stream w) 0 (next_track (c ∷ cs)) (next_sector (c ∷ cs)))) (ap place_or_end ex ∙ place_or_end_lem b (s 0 (omega arith)))
    ∙ sym (ap (apply d) (two_sectors w b c cs))

-- ---- their numbers

pub ends-numbers : (w : SaveRequest) (bs : List ℕ) → 1 ≤ length bs → numbers (close_data w bs) ≡ end_numbers bs
unfolding numbers blocks end_numbers
ends-numbers w [] h = absurd (not-suc-le-zero h)
ends-numbers w (b ∷ []) h = ap numbers (one_sector w b)
ends-numbers w (b ∷ c ∷ cs) h =
    let n : length (b ∷ c ∷ cs) - 1 ≡ suc (length cs) = omega arith in
    ap numbers (two_sectors w b c cs) ∙ sym (rw (lt-ltb 1 (length (b ∷ c ∷ cs)) (omega arith), n))

pub ends-long : (bs : List ℕ) → length (end_numbers bs) ≡ end_sectors (length bs)
unfolding end_sectors end_numbers
ends-long bs = by (ltb 1 (length bs))
  where
    by : (t : Bool) → length (cond t (bit_number (get_or bs (length bs - 1) 0) ∷ bit_number (get_or bs 0 0) ∷ []) (bit_number (get_or bs 0 0) ∷ [])) ≡ cond t 2 1
    by true = refl
    by false = refl

-- a list with room for them
pub room_one : (n m : ℕ) → end_sectors n ≤ m → 0 < m
unfolding end_sectors
room_one n m h = by (ltb 1 n) h
  where
    by : (t : Bool) → cond t 2 1 ≤ m → 0 < m
    by true h = omega arith
    by false h = omega arith

pub room-both : (n m : ℕ) → 2 ≤ n → end_sectors n ≤ m → 1 < m
unfolding end_sectors
room-both n m h l = let e : end_sectors n ≡ 2 = rw (lt-ltb 1 n (omega arith)) in omega arith

-- as the code puts them
pub put_one_end : (l bs : List ℕ) → length bs < 2 → (x : ℕ) → x ≡ bit_number (get_or bs 0 0) → set l 0 x ≡ put l 0 (end_numbers bs)
unfolding end_numbers
put_one_end l bs h x e = put_one l 0 x ∙ ap (put l 0) (ap (λ (x : ℕ). x ∷ []) e ∙ sym (rw (le-ltb 1 (length bs) (omega arith))))

pub put_both_ends : (l bs : List ℕ) → 2 ≤ length bs → (x y : ℕ) → x ≡ bit_number (get_or bs (length bs - 1) 0) → y ≡ bit_number (get_or bs 0 0)
    → set (set l 0 x) 1 y ≡ put l 0 (end_numbers bs)
unfolding end_numbers
put_both_ends l bs h x y e q =
    put_next l (x ∷ []) 1 y refl (set l 0 x) (put_one l 0 x) ∙ ap (put l 0) (ap₂ (λ (x y : ℕ). x ∷ y ∷ []) e q ∙ sym (rw (lt-ltb 1 (length bs) (omega arith))))
