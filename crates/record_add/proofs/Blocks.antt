-- The sectors that a piece completes, as the code writes them: the bytes that wait, then the piece.
use Prim.Native.Nat.{ℕ, zero, suc, ◌+◌, ◌-◌, ◌*◌, ◌≤◌, ◌<◌}
use mathlib.Core.Path.{◌≡◌, refl, sym, ap, ap₂, ◌∙◌, subst}
use mathlib.Core.List.{List, [], ◌++◌}
use mathlib.Core.Logic.{⊎_elim}
use native.Mathlib.Omega.{arith}
use borrow.Author.Tests.{le-ltb, le-leb}
use lib.ListN.{length, get_or, take, drop, length-append, length-take, length-drop, length-replicate, get_or-append}
use lib.Seq.{get_or-append-add, get_or-take, get_or-drop}
use Rattle.buffers.specs.Bytes.{tab, part, put}
use Rattle.buffers.proofs.Lists.{below_or_not, length-tab, get_or-tab, length-put, length_part, part_at, put_is}
use Rattle.slots.specs.Slot.{sectors_for}
use Rattle.slots.proofs.Least.{sectors-least, sectors-few}
use Rattle.disk.specs.View.{View}
use Rattle.steps.specs.Steps.{Step}
use Rattle.plans.specs.Saving.{stream}
use Rattle.plans.specs.Plan.{data_steps}
use Rattle.plans.specs.Allowed.{sectors_taken}
use Rattle.changes.specs.ChangeCalls.{Applied}
use Rattle.allocation.specs.Taken.{lowest_clear_bits, next_clear}
use Rattle.allocation.proofs.Next.{clear_bits}
use Rattle.recordings.specs.declared.Record.{Record}
use Rattle.recordings.specs.Recording.{with_piece, chain_of, inner_sectors, piece_steps}
use Rattle.recordings.specs.Record.{last_from, kept_byte, recording_of, zeros}
use Rattle.recordings.proofs.Uninterrupted.{agree, stream-body}
use Rattle.recordings.proofs.Kept.{front_at}
use Rattle.record_add.specs.Adding.{clear_from, steps_along, SectorsAlong, waiting_bytes, Completes}
use Rattle.record_add.proofs.Clear.{from_place, place_clear}

-- ---- how many sectors

pub was_many : (k : Record) → sectors_taken (recording_of k).request ≡ sectors_for k.long
unfolding recording_of
was_many k = ap sectors_for (length-tab k.long (kept_byte k))

pub now-many : (k : Record) (x : List ℕ) → sectors_taken (with_piece (recording_of k) x).request ≡ sectors_for (k.long + length x)
unfolding recording_of
now-many k x = ap sectors_for (length-append (tab k.long (kept_byte k)) x ∙ ap (λ (l : ℕ). l + length x) (length-tab k.long (kept_byte k)))

-- ---- the bytes that wait

-- behind the first list
past_join : (a x : List ℕ) (n : ℕ) → length a ≤ n → get_or (a ++ x) n 0 ≡ get_or x (n - length a) 0
past_join a x n h = let e : n ≡ length a + (n - length a) = omega arith in ap (λ (n : ℕ). get_or (a ++ x) n 0) e ∙ get_or-append-add a x (n - length a) 0

-- the last sector's bytes are as many as its payload
held_whole : (l : List ℕ) → length l ≡ 510 → l ≡ put (zeros 510) 0 l
held_whole l e =
    put_is (zeros 510) 0 l l (e ∙ sym (length-replicate {A = ℕ} 510 0)) (λ i h k. let z : 0 + i ≡ i = omega arith in rw z refl) (λ k h. absurd (omega arith))
    (λ k h m. absurd (omega (arith, length-replicate {A = ℕ} 510 0)))

module _ (k : Record) (x : List ℕ) where
  abbrev body : List ℕ
  body = tab k.long (kept_byte k)

  body-long : length body ≡ k.long
  body-long = length-tab k.long (kept_byte k)

  -- the stream behind the first sector's bytes
  stream_at : (n : ℕ) → 9 ≤ n → get_or (stream (with_piece (recording_of k) x).request) n 0 ≡ get_or (body ++ x) (n - 9) 0
  unfolding recording_of
  stream_at n h = stream-body (with_piece (recording_of k) x).request n h

  -- one sector: nothing waits for the second
  pub one_waits : k.long ≤ 501 → (j : ℕ) → get_or (stream (with_piece (recording_of k) x).request) (510 + j) 0 ≡ get_or ([] ++ x) (501 - k.long + j) 0
  one_waits h j =
      stream_at (510 + j) (omega arith) ∙ past_join body x (510 + j - 9) (omega (arith, body-long))
      ∙ ap (λ (n : ℕ). get_or x n 0) (omega (arith, body-long))

  -- more: the last one's bytes wait
  module _ (h : 2 ≤ sectors_for k.long) where
    pub waits_long : length (waiting_bytes k.long k.last) ≡ k.long - last_from k.long
    waits_long =
        let l = sectors-least k.long in
        length_part 0 (k.long - last_from k.long) (put (zeros 510) 0 k.last)
        ∙ omega (arith, length-put (zeros 510) 0 k.last, length-replicate {A = ℕ} 510 0)

    pub more_waits : (j : ℕ) → get_or (stream (with_piece (recording_of k) x).request) (510 * (sectors_for k.long - 1) + j) 0 ≡ get_or (waiting_bytes k.long k.last ++ x) (0 + j) 0
    unfolding kept_byte
    more_waits j =
        let l = sectors-least k.long in
        let n : 510 * (sectors_for k.long - 1) + j - 9 ≡ last_from k.long + j = omega arith in
        stream_at (510 * (sectors_for k.long - 1) + j) (omega arith) ∙ ap (λ (n : ℕ). get_or (body ++ x) n 0) n
        ∙ ⊎_elim inside behind (below_or_not (last_from k.long + j) k.long)
      where
        inside : last_from k.long + j < k.long → get_or (body ++ x) (last_from k.long + j) 0 ≡ get_or (waiting_bytes k.long k.last ++ x) (0 + j) 0
        inside m =
            let l = sectors-least k.long in
            let i : last_from k.long + j - last_from k.long ≡ j = omega arith in
            let z : 0 + j ≡ j = omega arith in
            get_or-append body x 0 (last_from k.long + j) (omega (arith, body-long)) ∙ get_or-tab k.long (kept_byte k) (last_from k.long + j) m
            ∙ rw (le-ltb (last_from k.long + j) 501 (omega arith), le-leb (last_from k.long) (last_from k.long + j) (omega arith), i, z)
            (sym
            (get_or-append (waiting_bytes k.long k.last) x 0 j (omega (arith, waits_long))
            ∙ part_at 0 (k.long - last_from k.long) (put (zeros 510) 0 k.last) j (omega arith)
            ∙ ap (λ (n : ℕ). get_or (put (zeros 510) 0 k.last) n 0) z ∙ front_at 510 k.last j (omega arith)))

        behind : k.long ≤ last_from k.long + j → get_or (body ++ x) (last_from k.long + j) 0 ≡ get_or (waiting_bytes k.long k.last ++ x) (0 + j) 0
        behind m =
            let l = sectors-least k.long in
            past_join body x (last_from k.long + j) (omega (arith, body-long))
            ∙ ap (λ (n : ℕ). get_or x n 0) (omega (arith, body-long, waits_long))
            ∙ sym (past_join (waiting_bytes k.long k.last) x (0 + j) (omega (arith, waits_long)))

-- ---- the steps

-- m: the map along whose clear bits the recording goes; b: the bit of the next sector to be written
module _ (k : Record) (x m : List ℕ) (n n' b : ℕ) (en : n ≡ sectors_for k.long) (en' : n' ≡ sectors_for (k.long + length x))
    (chain : chain_of (with_piece (recording_of k) x) ≡ lowest_clear_bits m n') (there : n' ≤ length (clear_bits m)) (eb : b ≡ get_or (clear_bits m) (1 + inner_sectors n) 1560) where
  -- its clear bits are those of the chain from there on
  rest-is : drop (1 + inner_sectors n) (clear_bits m) ≡ clear_from m b
  rest-is = from_place m (1 + inner_sectors n) 0 (omega arith) ∙ ap (clear_from m) (sym eb)

  pub rest-long : length (clear_from m b) ≡ length (clear_bits m) - (1 + inner_sectors n)
  rest-long = sym (ap length rest-is) ∙ length-drop (1 + inner_sectors n) (clear_bits m)

  -- the bytes from there on are those of st from place f on
  pub steps_are : (st : List ℕ) (f : ℕ) → ((j : ℕ) → get_or (stream (with_piece (recording_of k) x).request) (510 * (1 + inner_sectors n) + j) 0 ≡ get_or st (f + j) 0)
      → piece_steps (recording_of k) x ≡ steps_along st f (inner_sectors n' - inner_sectors n) m b
  unfolding lowest_clear_bits
  steps_are st f same =
      ap₂ (λ (a c : ℕ). take (inner_sectors c - inner_sectors a) (data_steps (stream (with_piece (recording_of k) x).request) (510 * (1 + inner_sectors a)) (drop (1 + inner_sectors a) (chain_of (with_piece (recording_of k) x))))) (was_many k ∙ sym en) (now-many k x ∙ sym en')
      ∙ ap (λ (bs : List ℕ). take (inner_sectors n' - inner_sectors n) (data_steps (stream (with_piece (recording_of k) x).request) (510 * (1 + inner_sectors n)) (drop (1 + inner_sectors n) bs))) chain
      ∙ by (inner_sectors n' - inner_sectors n) refl
    where
      by : (c : ℕ) → inner_sectors n' - inner_sectors n ≡ c
          → take c (data_steps (stream (with_piece (recording_of k) x).request) (510 * (1 + inner_sectors n)) (drop (1 + inner_sectors n) (lowest_clear_bits m n'))) ≡ steps_along st f c m b
      by zero e = refl
      by (suc c) e =
          agree (stream (with_piece (recording_of k) x).request) st (suc c) (510 * (1 + inner_sectors n)) f (drop (1 + inner_sectors n) (lowest_clear_bits m n')) (clear_from m b)
          (omega (arith, length-drop (1 + inner_sectors n) (lowest_clear_bits m n'), length-take n' (clear_bits m))) (omega (arith, rest-long))
          (λ i h.
          get_or-drop (1 + inner_sectors n) (lowest_clear_bits m n') i 0 ∙ get_or-take n' (clear_bits m) (1 + inner_sectors n + i) 0 (omega arith)
          ∙ sym (get_or-drop (1 + inner_sectors n) (clear_bits m) i 0) ∙ ap (λ (bs : List ℕ). get_or bs i 0) rest-is)
          (λ j h. same j)

-- ---- as the code writes them

module _ (m : List ℕ) (b count : ℕ) (k : Record) (x list : List ℕ) (w : Completes m b count k x list) where
  abbrev n : ℕ
  n = sectors_for k.long

  abbrev n' : ℕ
  n' = sectors_for (k.long + length x)

  pub goes_along : (f : ℕ) → f ≤ 510 → SectorsAlong m b count f list
  goes_along f h =
      let c = rest-long k x m n n' b refl refl w.chain w.there w.next in
      record {
        first = ap (next_clear m) w.next ∙ place_clear m (1 + inner_sectors n) ∙ sym w.next;
        few = omega (arith, w.many, sectors-few (k.long + length x) 1560 (omega (arith, w.fits)));
        enough = omega (arith, w.many, c, w.there);
        near = h;
        room = w.room;
      }

  module _ (d d' list' : List ℕ) where
    made_as : (st : List ℕ) (f : ℕ) → ((j : ℕ) → get_or (stream (with_piece (recording_of k) x).request) (510 * (1 + inner_sectors n) + j) 0 ≡ get_or st (f + j) 0)
        → Applied (steps_along st f count m b) d list d' list' count → Applied (piece_steps (recording_of k) x) d list d' list' count
    made_as st f same =
        subst (λ (sts : List (Step View)). Applied sts d list d' list' count)
        (ap (λ (c : ℕ). steps_along st f c m b) w.many ∙ sym (steps_are k x m n n' b refl refl w.chain w.there w.next st f same))

    pub made_one : k.long ≤ 501 → (e : List ℕ) → e ≡ part 0 0 x → Applied (steps_along (e ++ x) (501 - k.long) count m b) d list d' list' count
        → Applied (piece_steps (recording_of k) x) d list d' list' count
    unfolding part sectors_for
    made_one h e q =
        let z : 510 * (1 + inner_sectors n) ≡ 510 = omega arith in
        made_as (e ++ x) (501 - k.long) (λ j. rw (z, q) (one_waits k x h j))

    pub made_more : 501 < k.long → (f : ℕ) → f ≡ last_from k.long → length k.last ≡ 510 → (e : List ℕ) → e ≡ part 0 (k.long - f) k.last
        → Applied (steps_along (e ++ x) 0 count m b) d list d' list' count → Applied (piece_steps (recording_of k) x) d list d' list' count
    made_more l f ef eh e ee =
        let two : 2 ≤ n = omega (arith, sectors-least k.long) in
        let z : 510 * (1 + inner_sectors n) ≡ 510 * (n - 1) = omega arith in
        let q : e ≡ waiting_bytes k.long k.last = ee ∙ ap₂ (λ (f : ℕ) (h : List ℕ). part 0 (k.long - f) h) ef (held_whole k.last eh) in
        made_as (e ++ x) 0 (λ j. rw (z, q) (more_waits k x two j))
