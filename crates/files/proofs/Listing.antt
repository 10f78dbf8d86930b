-- Laws of the listing: entries and live slots, one slot more, and how long the entries are.
use Prim.Native.Nat.{ℕ, zero, suc, ◌+◌, ◌-◌, ◌*◌, ◌/◌, ◌%◌, ◌≤◌, ◌<◌}
use mathlib.Core.Path.{◌≡◌, refl, sym, ap, ◌∙◌}
use mathlib.Core.Bool.{true, false, cond}
use mathlib.Core.List.{List, [], ◌∷◌, ◌++◌, append-nil}
use mathlib.Core.Option.{Option, none, some}
use native.Mathlib.Numerals.{add-one}
use native.Mathlib.Omega.{arith}
use borrow.Author.Tests.{lt-ltb, le-ltb}
use lib.Dec.{ltb}
use lib.ListN.{length, length-append}
use Rattle.buffers.specs.Bytes.{put, count}
use Rattle.buffers.proofs.Lists.{length-put, put-none, put-append, part-long}
use Rattle.geometry.specs.Disk.{image_size}
use Rattle.directory.specs.Places.{slots, slot_at}
use Rattle.directory.specs.Directory.{fold_option, Directory, tracks_of, slots_read, directory, live_among}
use Rattle.directory.proofs.Live.{directory-some, among_rest, among_read}
use Rattle.directory.proofs.Places.{slot_within}
use Rattle.surveys.specs.Survey.{free, free_of, used_map}
use Rattle.surveys.specs.declared.UsedMap.{UsedMap}
use Rattle.surveys.specs.declared.Survey.{Survey}
use Rattle.refusals.specs.Order.{Refusal, refuse, ◌else◌, row}
use Rattle.refusals.specs.Answers.{Outcome, out, filled, done, refused, refusal_of}
use Rattle.refusals.specs.declared.Refused.{Refused}
use Rattle.std.specs.Prelude.{Ok, Err}
use Rattle.disk.specs.Check.{check_disk, Examined}
use Rattle.disk.proofs.View.{view-slots, view_extra}
use Rattle.disk.proofs.Examined.{accepted-size}
use Rattle.files.specs.Calls.{listing_entry, entries, list_view, listing}
use Rattle.files.specs.Steps.{CheckedDisk}
use native.Mathlib.Nat.{add-zero, add-suc}

module _ (v : Directory) (i : ℕ) where
  pub entries_dead : v i ≡ none → entries v (i + 1) ≡ entries v i
  unfolding entries
  entries_dead e = rw (add-one i, e) (append-nil (entries v i))

  pub entries-live : (s : List ℕ) → v i ≡ some s → entries v (i + 1) ≡ entries v i ++ listing_entry (i + 1) s
  unfolding entries
  entries-live s e = rw (add-one i, e)

pub entries_none : (v : Directory) → entries v 0 ≡ []
unfolding entries
entries_none v = refl

-- past the last live slot there is no entry
entries-rest : (v : Directory) (i m : ℕ) → ((j : ℕ) → i ≤ j → j < i + m → v j ≡ none) → entries v (i + m) ≡ entries v i
unfolding entries
entries-rest v i zero h = rw add-zero
entries-rest v i (suc m) h = rw (add-suc i m, h (i + m) (omega arith) (omega arith), append-nil) (entries-rest v i m (λ j l k. h j l (omega arith)))

-- a slot of a whole directory is 256 bytes
slot-long : (d : List ℕ) (i : ℕ) (s : List ℕ) → directory d i ≡ some s → image_size ≤ length d → length s ≡ 256
slot-long d i s q h =
    let w = directory-some d i s q in
    ap length w.1 ∙ part-long (slot_at i) 256 d (omega (arith, slot_within i w.0))

-- every entry of a whole directory is 258 bytes
pub entries-long : (d : List ℕ) → image_size ≤ length d → (k : ℕ) → k ≤ slots → length (entries (directory d) k) ≡ 258 * live_among (directory d) k
unfolding entries live_among count
entries-long d h zero l = refl
entries-long d h (suc k) l =
    length-append (entries (directory d) k) (fold_option [] (listing_entry (suc k)) (directory d k))
    ∙ by (directory d k) refl (entries-long d h k (omega arith))
  where
    by : (o : Option (List ℕ)) → directory d k ≡ o → length (entries (directory d) k) ≡ 258 * live_among (directory d) k
        → length (entries (directory d) k) + length (fold_option [] (listing_entry (suc k)) o) ≡ 258 * (live_among (directory d) k + cond (fold_option false (λ s. true) o) 1 0)
    by none q e = omega arith
    by (some s) q e =
        omega (arith, slot-long d k s q h)

-- the two bytes of a number, and then the slot's
pub put-number : (d e f : List ℕ) (a n : ℕ) {h : List ℕ} (s : List ℕ) → n < 65536 → h ≡ n % 256 ∷ n / 256 % 256 ∷ [] → e ≡ put d a h → f ≡ put e (a + 2) s → f ≡ put d a (listing_entry n s)
put-number d e f a n s k z p q =
    let b : n / 256 % 256 ≡ n / 256 = omega arith in
    q ∙ ap (λ (l : List ℕ). put l (a + 2) s) (p ∙ ap (put d a) (z ∙ ap (λ (m : ℕ). n % 256 ∷ m ∷ []) b)) ∙ put-append d a (n % 256 ∷ n / 256 ∷ []) s

-- after i slots: the place of the next entry, and the buffer with those before it
pub record ListLoop (d buf : List ℕ) (i at : ℕ) (now : List ℕ) : Type 0 where
  pub place : at ≡ length (entries (directory d) i)
  pub bytes : now ≡ put buf 0 (entries (directory d) i)

module _ (d buf : List ℕ) where
  pub listed_none : ListLoop d buf 0 0 buf
  unfolding entries
  listed_none = record { place = refl; bytes = put-none buf 0 [] }

  module _ (i at : ℕ) (now : List ℕ) (w : ListLoop d buf i at now) where
    pub listed_more : (s : List ℕ) → directory d i ≡ some s → i < slots → image_size ≤ length d → (next : List ℕ) → next ≡ put now at (listing_entry (i + 1) s) → ListLoop d buf (i + 1) (at + 258) next
    listed_more s e h l next p =
        let z : at ≡ 0 + length (entries (directory d) i) = omega (arith, w.place) in
        record {
          place = omega (arith, w.place, ap length (entries-live (directory d) i s e), length-append (entries (directory d) i) (listing_entry (i + 1) s), slot-long d i s e l);
          bytes = p ∙ rw (w.bytes, z, entries-live (directory d) i s e) (put-append buf 0 (entries (directory d) i) (listing_entry (i + 1) s));
        }

    pub listed_same : directory d i ≡ none → ListLoop d buf (i + 1) at now
    listed_same e = record {
      place = w.place ∙ ap length (sym (entries_dead (directory d) i e));
      bytes = w.bytes ∙ ap (put buf 0) (sym (entries_dead (directory d) i e));
    }

    pub listed_long : length now ≡ length buf
    listed_long = ap length w.bytes ∙ length-put buf 0 (entries (directory d) i)

    pub listed_end : i ≤ slots → image_size ≤ length d → (end : ℕ) → end ≡ 258 * live_among (directory d) slots → end ≤ at → now ≡ put buf 0 (entries (directory d) slots)
    listed_end h l end e k =
        let f : live_among (directory d) slots ≤ live_among (directory d) i = omega (arith, w.place, entries-long d l i h) in
        let z : i + (slots - i) ≡ slots = omega arith in
        w.bytes
        ∙ ap (put buf 0) (sym (ap (entries (directory d)) (sym z) ∙ entries-rest (directory d) i (slots - i) (λ j x y. among_rest (directory d) i slots h f j x (omega arith))))

    -- before the end the next slot is read
    pub listed_next : i ≤ slots → image_size ≤ length d → (end : ℕ) → end ≡ 258 * live_among (directory d) slots → at < end → i < slots_read d
    listed_next h l end e k = among_read d i h (omega (arith, w.place, entries-long d l i h))

-- ---- the whole call

-- the reply and the bytes of a listing, over the disk's directory
pub listing-is : (d buf : List ℕ)
    → listing d buf
    ≡ filled (check_disk d else row 20 0 (ltb (length buf) (length (entries (directory d) slots)))) (done (live_among (directory d) slots) (free (tracks_of d) (directory d)))
    (entries (directory d) slots) buf
unfolding list_view check_disk
listing-is d buf = rw (view-slots d, view_extra d)

listing-refused : (d buf : List ℕ) (r : Refusal) → check_disk d ≡ some r → out (refused r) buf ≡ listing d buf
listing-refused d buf r e = sym (listing-is d buf ∙ rw e)

module _ (d buf : List ℕ) (u : UsedMap) (w : CheckedDisk d u) where
  whole : image_size ≤ length d
  whole = omega (arith, accepted-size d w.accepted)

  entries_fit : length (entries (directory d) slots) ≡ 258 * live_among (directory d) slots
  entries_fit = entries-long d whole slots (omega arith)

  pub listing-short : (n : ℕ) → n ≡ live_among (directory d) slots → length buf < 258 * n → (o : Outcome) → o ≡ refused (refuse 20 0) → out o buf ≡ listing d buf
  listing-short n e h o p =
      let l : length buf < length (entries (directory d) slots) = omega (arith, entries_fit) in
      rw p (sym (listing-is d buf ∙ rw (w.accepted, lt-ltb (length buf) (length (entries (directory d) slots)) l)))

  pub listing-fits : (n : ℕ) → n ≡ live_among (directory d) slots → 258 * n ≤ length buf → (f : ℕ) → f ≡ free_of u → (x : List ℕ) → x ≡ put buf 0 (entries (directory d) slots)
      → out (done n f) x ≡ listing d buf
  unfolding free
  listing-fits n e h f p x q =
      let l : length (entries (directory d) slots) ≤ length buf = omega (arith, entries_fit) in
      let g : f ≡ free_of (used_map (tracks_of d) (directory d)) = p ∙ ap free_of w.used in
      rw (e, g, q) (sym (listing-is d buf ∙ rw (w.accepted, le-ltb (length buf) (length (entries (directory d) slots)) l)))

-- what a refused check says of the listing, and an accepted one
pub listing_err : (d buf : List ℕ) (r : Refused) → Examined d (Err r) → out (refused (refusal_of r)) buf ≡ listing d buf
listing_err d buf r w = listing-refused d buf (refusal_of r) (sym w.reply)

pub checked_disk : (d : List ℕ) (s : Survey) → Examined d (Ok s) → CheckedDisk d s.used
checked_disk d s w = record { accepted = sym w.reply; used = w.used }
