-- Recordings that agree in their particulars, their length, and the bytes of the first sector and of the last do the same.
use Prim.Native.Nat.{ℕ, zero, suc, ◌+◌, ◌-◌, ◌*◌, ◌≤◌, ◌<◌}
use mathlib.Core.Path.{◌≡◌, refl, sym, ap, ap₂, ◌∙◌}
use mathlib.Core.Bool.{Bool, true, false, cond, not, ◌&&◌, ◌||◌}
use mathlib.Core.List.{List, [], ◌∷◌, ◌++◌}
use mathlib.Core.Logic.{⊎_elim}
use mathlib.Core.Option.{Option, none, some}
use native.Mathlib.Omega.{arith}
use borrow.Author.Tests.{ltb-true, ltb-false}
use lib.Dec.{eqb, leb, ltb}
use lib.ListN.{length, get_or, take, drop, length-append, get_or-append}
use lib.Seq.{get_or-append-add, get_or-take}
use Rattle.buffers.proofs.Lists.{below_or_not, tab_cong}
use Rattle.refusals.specs.Order.{Reply, ◌else◌, row, scan}
use Rattle.maps.specs.Bits.{has}
use Rattle.slots.specs.Slot.{name_of, carried, sectors_for}
use Rattle.slots.specs.Tracks.{is_label, data_bit}
use Rattle.names.specs.Name.{same_bytes, same_name, padded}
use Rattle.chains.specs.File.{sectors_of}
use Rattle.directory.specs.Places.{slots}
use Rattle.directory.specs.Directory.{fold_option, Directory}
use Rattle.directory.specs.Find.{find}
use Rattle.surveys.specs.Survey.{free}
use Rattle.disk.specs.View.{View, view, view_slots, view_tracks}
use Rattle.disk.specs.Check.{check_disk}
use Rattle.steps.specs.Steps.{Step, apply}
use Rattle.plans.specs.Change.{SaveRequest, between, usable}
use Rattle.plans.specs.Saving.{satisfying, lowest_slot, stream, next_track, next_sector, slot_byte, new_slot}
use Rattle.plans.specs.Plan.{data_steps, old_name, slot_steps, Plan, planned_steps, plan_unless, taken_at, name_taken, save_reply}
use Rattle.plans.specs.Allowed.{sectors_taken}
use Rattle.plans.proofs.Frame.{disk-accepted}
use Rattle.plans.proofs.Free.{taken_long}
use Rattle.plans.proofs.SafeSteps.{save_tested}
use Rattle.recordings.specs.Recording.{Recording, with_body, with_piece, chain_of, inner_sectors, used_of, lacks_link, disk_moved, piece_steps, piece_reply, piece_plan, close_data, close_steps, close_slot, close_reply, close_plan}
use Rattle.recordings.proofs.Piece.{NotMoved, still, chain_taken}
use Rattle.recordings.proofs.Uninterrupted.{block_alike, stream-body}

pub record SameRequest (v w : SaveRequest) : Type 0 where
  pub kind : v.kind ≡ w.kind
  pub page : v.page ≡ w.page
  pub offset : v.offset ≡ w.offset
  pub name : padded v.name ≡ padded w.name
  pub usable : usable v.name ≡ usable w.name
  pub exec : (k : ℕ) → k < 3 → get_or v.exec k 0 ≡ get_or w.exec k 0
  pub info : (k : ℕ) → k < 11 → get_or v.info k 0 ≡ get_or w.info k 0
  pub long : length v.body ≡ length w.body
  pub first : (k : ℕ) → k < 501 → get_or v.body k 0 ≡ get_or w.body k 0
  pub last : (k : ℕ) → 510 * (sectors_for (length w.body) - 1) ≤ 9 + k → get_or v.body k 0 ≡ get_or w.body k 0

-- ---- one piece more

join_alike : (v w x : List ℕ) → length v ≡ length w → (k : ℕ) → (k < length w → get_or v k 0 ≡ get_or w k 0) → get_or (v ++ x) k 0 ≡ get_or (w ++ x) k 0
join_alike v w x e k h =
    ⊎_elim (λ (m : k < length w). get_or-append v x 0 k (omega arith) ∙ h m ∙ sym (get_or-append w x 0 k m))
    (λ (m : length w ≤ k).
    let a : k ≡ length v + (k - length v) = omega arith in
    let b : k ≡ length w + (k - length w) = omega arith in
    ap (λ (n : ℕ). get_or (v ++ x) n 0) a ∙ get_or-append-add v x (k - length v) 0 ∙ ap (λ (n : ℕ). get_or x (k - n) 0) e
    ∙ sym (ap (λ (n : ℕ). get_or (w ++ x) n 0) b ∙ get_or-append-add w x (k - length w) 0))
    (below_or_not k (length w))

pub alike_more : (v w : SaveRequest) → SameRequest v w → (x : List ℕ) → SameRequest (with_body v (v.body ++ x)) (with_body w (w.body ++ x))
unfolding sectors_for
alike_more v w a x = record {
  kind = a.kind;
  page = a.page;
  offset = a.offset;
  name = a.name;
  usable = a.usable;
  exec = a.exec;
  info = a.info;
  long = length-append v.body x ∙ ap (λ (n : ℕ). n + length x) a.long ∙ sym (length-append w.body x);
  first = λ k h. join_alike v.body w.body x a.long k (λ m. a.first k h);
  last = λ k h. join_alike v.body w.body x a.long k (λ m. a.last k (omega (arith, length-append w.body x)));
}

-- ---- what they write

pub data_alike : (st sw : List ℕ) (f : ℕ) (bs : List ℕ) → ((k : ℕ) → f ≤ k → get_or st k 0 ≡ get_or sw k 0) → data_steps st f bs ≡ data_steps sw f bs
unfolding data_steps
data_alike st sw f [] h = refl
data_alike st sw f (b ∷ bs) h =
    rw (block_alike st sw f (next_track bs) (next_sector bs) (λ k p q. h k p), data_alike st sw (f + 510) bs (λ k p. h k (omega arith)))

module _ (v w : SaveRequest) (a : SameRequest v w) where
  -- the nine header bytes
  header_alike : (k : ℕ) → k < 9 → get_or (stream v) k 0 ≡ get_or (stream w) k 0
  unfolding stream
  header_alike k h = sym (get_or-take 9 (stream v) k 0 h) ∙ ap (λ (x : List ℕ). get_or x k 0) nine ∙ get_or-take 9 (stream w) k 0 h
    where
      nine : take 9 (stream v) ≡ take 9 (stream w)
      nine = rw (a.kind, a.offset, a.page, a.long)

  -- the stream, where the bodies agree
  stream_alike : (k : ℕ) → (9 ≤ k → get_or v.body (k - 9) 0 ≡ get_or w.body (k - 9) 0) → get_or (stream v) k 0 ≡ get_or (stream w) k 0
  stream_alike k h =
      ⊎_elim (λ (m : k < 9). header_alike k m) (λ (m : 9 ≤ k). stream-body v k m ∙ h m ∙ sym (stream-body w k m)) (below_or_not k 9)

  -- in the first sector, and from the last on
  stream-first : (k : ℕ) → k < 510 → get_or (stream v) k 0 ≡ get_or (stream w) k 0
  stream-first k h = stream_alike k (λ m. a.first (k - 9) (omega arith))

  stream-last : (k : ℕ) → 510 * (sectors_for (length w.body) - 1) ≤ k → get_or (stream v) k 0 ≡ get_or (stream w) k 0
  stream-last k h = stream_alike k (λ m. a.last (k - 9) (omega arith))

  -- the slot
  byte_alike : (bs : List ℕ) (k : ℕ) → slot_byte v bs k ≡ slot_byte w bs k
  unfolding slot_byte
  byte_alike bs k = by (ltb k 232) refl (ltb k 245) refl
    where
      by : (t : Bool) → ltb k 232 ≡ t → (u : Bool) → ltb k 245 ≡ u → slot_byte v bs k ≡ slot_byte w bs k
      by true p true q =
          let m = ltb-true k 232 p in
          rw (a.kind, a.name, a.long, a.page, a.offset, a.info (k - 221) (omega arith), a.exec (k - 242) (omega arith))
      by true p false q = let m = ltb-true k 232 p in let n = ltb-false k 245 q in absurd (omega arith)
      by false p true q =
          let m = ltb-true k 245 q in
          rw (a.kind, a.name, a.long, a.page, a.offset, p, a.exec (k - 242) (omega arith))
      by false p false q = rw (a.kind, a.name, a.long, a.page, a.offset, p, q)

  pub slot_alike : (label : ℕ → ℕ) (i : ℕ) (bs : List ℕ) → new_slot label i v bs ≡ new_slot label i w bs
  unfolding new_slot
  slot_alike label i bs =
      tab_cong 256 (λ k. cond (eqb i 0 && is_label k) (label k) (slot_byte v bs k)) (λ k. cond (eqb i 0 && is_label k) (label k) (slot_byte w bs k))
      (λ k h. ap (cond (eqb i 0 && is_label k) (label k)) (byte_alike bs k))

  -- the last sector and the first
  pub close_data_alike : (bs : List ℕ) → length bs ≡ sectors_taken w → close_data v bs ≡ close_data w bs
  unfolding data_steps
  close_data_alike bs e =
      ap₂ ◌++◌ (data_alike (stream v) (stream w) (510 * (length bs - 1)) (drop (length bs - 1) bs) (λ k h. stream-last k (omega arith)))
      (ones bs (length bs - 1))
    where
      ones : (bs : List ℕ) (n : ℕ) → take 1 (take n (data_steps (stream v) 0 bs)) ≡ take 1 (take n (data_steps (stream w) 0 bs))
      ones [] n = refl
      ones (b ∷ bs) zero = refl
      ones (b ∷ bs) (suc n) = rw (block_alike (stream v) (stream w) 0 (next_track bs) (next_sector bs) (λ k p q. stream-first k (omega arith))) refl

  find-same : (d : Directory) → find d v.name ≡ find d w.name
  unfolding find
  find-same d = ap (λ (n : List ℕ). scan slots (λ i. fold_option none (λ s. cond (same_name (name_of s) n) (some i) none) (d i))) a.name

  -- what a save refuses
  pub reply_alike : (n : ℕ) (d : Directory) → save_reply n d v ≡ save_reply n d w
  unfolding save_reply
  reply_alike n d =
      rw (a.usable, a.kind, a.page, a.offset, a.long)
      (ap
      (λ (o : Option ℕ).
      row 12 0 (not (usable w.name)) else row 13 0 (not (carried w.kind))
      else row 14 0 (not (leb w.page 31 && between 32768 w.offset 49151)) else taken_at o
      else row 18 0 (fold_option true (λ i. false) (lowest_slot n d)) else row 19 0 (ltb (free n d) (sectors_for (length w.body))))
      (find-same d))

-- ---- the calls

module _ (v w : SaveRequest) (a : SameRequest v w) (used : List ℕ) (tracks : ℕ) where
  abbrev r : Recording
  r = record { request = v; used = used; tracks = tracks }

  abbrev q : Recording
  q = record { request = w; used = used; tracks = tracks }

  pub chain_alike : chain_of r ≡ chain_of q
  unfolding chain_of
  chain_alike = ap (λ (n : ℕ). take (sectors_for n) (satisfying 1560 0 (λ b. data_bit tracks b && not (has used b)))) a.long

  pub moved_alike : (d : List ℕ) → disk_moved d r ≡ disk_moved d q
  unfolding disk_moved
  moved_alike d = ap (λ (bs : List ℕ). not (same_bytes (used_of (view d)) used && eqb (view_tracks (view d)) tracks) || lacks_link d bs) chain_alike

  steps_alike : (old : Bool) (d : List ℕ) → length (chain_of q) ≡ sectors_taken w → (i : ℕ) → close_steps old d i v (chain_of r) ≡ close_steps old d i w (chain_of q)
  steps_alike old d e i =
      ap (close_steps old d i v) chain_alike
      ∙ ap₂ (λ (x : List (Step View)) (s : List ℕ). x ++ slot_steps old (view d) i s (sectors_of (apply d x) s))
      (close_data_alike v w a (chain_of q) e) (slot_alike v w a (view d).label i (chain_of q))

  pub close_alike : (d : List ℕ) → check_disk d ≡ none → close_plan d r ≡ close_plan d q
  unfolding close_plan
  close_alike d ok =
      ap₂ (λ (t : Bool) (s : Reply). plan_unless (row 30 0 t else s) (planned_steps (close_steps old d i v (chain_of r)))) (moved_alike d) (reply_alike v w a n (view_slots (view d)))
      ∙ by (disk_moved d q) refl
    where
      n : ℕ
      n = view_tracks (view d)

      i : ℕ
      i = close_slot d

      old : Bool
      old = old_name d i

      at : NotMoved d q → (s : Reply) → save_reply n (view_slots (view d)) w ≡ s → plan_unless s (planned_steps (close_steps old d i v (chain_of r))) ≡ plan_unless s (planned_steps (close_steps old d i w (chain_of q)))
      at t (some x) e = refl
      at t none e =
          let k = save_tested n (view_slots (view d)) w e in
          let m : length (chain_of q) ≡ sectors_taken w = ap length (chain_taken d q t.used t.tracks) ∙ taken_long (view d) (disk-accepted d ok) w k.room in
          ap planned_steps (steps_alike old d m i)

      by : (t : Bool) → disk_moved d q ≡ t
          → plan_unless (row 30 0 t else save_reply n (view_slots (view d)) w) (planned_steps (close_steps old d i v (chain_of r)))
          ≡ plan_unless (row 30 0 t else save_reply n (view_slots (view d)) w) (planned_steps (close_steps old d i w (chain_of q)))
      by true m = refl
      by false m = at (still d q m) (save_reply n (view_slots (view d)) w) refl

module _ (v w : SaveRequest) (a : SameRequest v w) (used : List ℕ) (tracks : ℕ) (x : List ℕ) where
  abbrev r' : Recording
  r' = record { request = v; used = used; tracks = tracks }

  abbrev q' : Recording
  q' = record { request = w; used = used; tracks = tracks }

  next : SameRequest (with_piece r' x).request (with_piece q' x).request
  next = alike_more v w a x

  many_alike : sectors_taken (with_piece r' x).request ≡ sectors_taken (with_piece q' x).request
  many_alike = ap sectors_for next.long

  piece_steps_alike : piece_steps r' x ≡ piece_steps q' x
  piece_steps_alike =
      (λ t.
      take (inner_sectors (many_alike t) - inner_sectors (ap sectors_for a.long t))
      (data_steps (stream (with_piece r' x).request) (510 * (1 + inner_sectors (ap sectors_for a.long t)))
      (drop (1 + inner_sectors (ap sectors_for a.long t)) (chain_alike (with_piece r' x).request (with_piece q' x).request next used tracks t))))
      ∙ ap (take (inner_sectors (sectors_taken (with_piece q' x).request) - inner_sectors (sectors_taken w)))
      (data_alike (stream (with_piece r' x).request) (stream (with_piece q' x).request) (510 * (1 + inner_sectors (sectors_taken w))) (drop (1 + inner_sectors (sectors_taken w)) (chain_of (with_piece q' x)))
      (λ k h. stream_alike (with_piece r' x).request (with_piece q' x).request next k
      (λ m. join_alike v.body w.body x a.long (k - 9) (λ n. a.last (k - 9) (omega arith)))))

  pub piece_alike : (d : List ℕ) → piece_plan d r' x ≡ piece_plan d q' x
  unfolding piece_plan
  piece_alike d =
      ap₂ (λ (t : Bool) (n : ℕ). plan_unless (row 30 0 t else row 19 0 (ltb (free (view_tracks (view d)) (view_slots (view d))) n)) (planned_steps (piece_steps r' x))) (moved_alike v w a used tracks d) many_alike
      ∙ ap (λ (y : List (Step View)). plan_unless (piece_reply d q' x) (planned_steps y)) piece_steps_alike
