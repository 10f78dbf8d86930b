-- The calls do with the record what they do with the recording that it stands for, and what they leave stands for it again.
use Prim.Native.Nat.{ℕ, zero, suc, ◌+◌, ◌-◌, ◌*◌, ◌≤◌, ◌<◌}
use mathlib.Core.Path.{◌≡◌, refl, sym, ap, ap₂, ◌∙◌, subst}
use mathlib.Core.Bool.{Bool, true, false, cond, not, ◌&&◌}
use mathlib.Core.List.{List, [], ◌∷◌, ◌++◌, append-nil}
use mathlib.Core.Logic.{⊎_elim}
use mathlib.Core.Option.{none, some}
use native.Mathlib.Omega.{arith}
use borrow.Author.Tests.{eqb-true, eqb-false, lt-ltb, le-ltb, le-leb, leb-true}
use lib.Dec.{eqb, leb, ltb}
use lib.ListN.{length, get_or, drop, replicate, length-append, length-drop, length-replicate, get_or-append}
use lib.Seq.{get_or-append-add, get_or-drop}
use Rattle.buffers.specs.Bytes.{put, tab}
use Rattle.buffers.proofs.Lists.{below_or_not, past_end, length-tab, get_or-tab, tab_past, length-put, put_in, put-before, put-after}
use Rattle.buffers.proofs.Tests.{and_both}
use Rattle.refusals.specs.Order.{Reply}
use Rattle.slots.specs.Slot.{sectors_for}
use Rattle.slots.proofs.Least.{sectors-least}
use Rattle.names.specs.Name.{askable, padded}
use Rattle.disk.specs.View.{view, view_slots, view_tracks}
use Rattle.disk.specs.Check.{check_disk}
use Rattle.plans.specs.Change.{SaveRequest, between, all_between, usable}
use Rattle.plans.specs.Plan.{Plan, plan_result, checked_result, new_disk}
use Rattle.plans.proofs.Kept.{usable-is}
use Rattle.plans.proofs.SafeSteps.{save_tested}
use Rattle.recordings.specs.Recording.{Recording, with_body, with_piece, fresh_recording, opened_recording, open_recording, piece_plan, add_piece, close_plan, close_recording, Recorded, by_opening, by_piece}
use Rattle.recordings.specs.Record.{last_from, kept_byte, recording_of, zeros, fresh_record, last_with, record_with, RecordOf}
use Rattle.recordings.specs.declared.Record.{Record}
use Rattle.recordings.proofs.Whole.{open_of}
use Rattle.recordings.proofs.SameRequest.{SameRequest, piece_alike, close_alike}

-- ---- names

-- a name that is filled already
padded-twice : (n : List ℕ) → length (padded n) ≡ 10 → padded (padded n) ≡ padded n
unfolding padded
padded-twice n e = ap (λ (k : ℕ). padded n ++ replicate (10 - k) 32) e ∙ append-nil (padded n)

all_join : (lo hi : ℕ) (xs ys : List ℕ) → all_between lo xs hi ≡ true → all_between lo ys hi ≡ true → all_between lo (xs ++ ys) hi ≡ true
all_join lo hi [] ys a b = b
all_join lo hi (x ∷ xs) ys a b = let c = and_both (between lo x hi) (all_between lo xs hi) a in rw c.0 (all_join lo hi xs ys c.1 b)

all_spaces : (k : ℕ) → all_between 32 (replicate k 32) 126 ≡ true
all_spaces zero = refl
all_spaces (suc k) = all_spaces k

usable-padded : (n : List ℕ) → usable n ≡ true → usable (padded n) ≡ true
unfolding usable askable padded
usable-padded n u =
    let a = and_both (askable n) (all_between 32 n 126 && not (eqb (get_or n 0 0) 32)) u in
    let b = and_both (all_between 32 n 126) (not (eqb (get_or n 0 0) 32)) a.1 in
    let c = and_both (leb 1 (length n) && leb (length n) 10) (not (eqb (get_or n 0 0) 0)) a.0 in
    let s : 1 ≤ length n = leb-true 1 (length n) (and_both (leb 1 (length n)) (leb (length n) 10) c.0).0 in
    let l : length (padded n) ≡ 10 = (usable-is n u).1 in
    rw (l, front n s, c.1, all_join 32 126 n (replicate (10 - length n) 32) b.0 (all_spaces (10 - length n)), b.1)
  where
    front : (n : List ℕ) → 1 ≤ length n → get_or (padded n) 0 0 ≡ get_or n 0 0
    front n s = get_or-append n (replicate (10 - length n) 32) 0 0 s

-- bytes put to the front
put_front : (z x : List ℕ) (i : ℕ) → i < length x → i < length z → get_or (put z 0 x) i 0 ≡ get_or x i 0
put_front z x i h m = let e : i ≡ 0 + i = omega arith in ap (λ (n : ℕ). get_or (put z 0 x) n 0) e ∙ put_in z 0 x i h (omega arith)

-- bytes put to the front of zeros
zero-at : (n j : ℕ) → get_or (zeros n) j 0 ≡ 0
zero-at zero j = refl
zero-at (suc n) zero = refl
zero-at (suc n) (suc j) = zero-at n j

pub front_at : (n : ℕ) (x : List ℕ) (j : ℕ) → j < n → get_or (put (zeros n) 0 x) j 0 ≡ get_or x j 0
front_at n x j h =
    ⊎_elim (λ (m : j < length x). put_front (zeros n) x j m (omega (arith, length-replicate {A = ℕ} n 0)))
    (λ (m : length x ≤ j). put-after (zeros n) 0 x j (omega arith) ∙ zero-at n j ∙ sym (past_end x j m)) (below_or_not j (length x))

-- ---- the recording of a record

module _ (k : Record) (r : Recording) (h : RecordOf k r) where
  abbrev body : List ℕ
  body = r.request.body

  body-byte : (j : ℕ) → (j < length body → kept_byte k j ≡ get_or body j 0) → get_or (recording_of k).request.body j 0 ≡ get_or body j 0
  unfolding recording_of
  body-byte j e =
      ⊎_elim (λ (m : j < length body). get_or-tab k.long (kept_byte k) j (omega (arith, h.long)) ∙ e m)
      (λ (m : length body ≤ j). tab_past k.long (kept_byte k) j (omega (arith, h.long)) ∙ sym (past_end body j m))
      (below_or_not j (length body))

  first_byte : (j : ℕ) → j < 501 → j < length body → kept_byte k j ≡ get_or body j 0
  unfolding kept_byte
  first_byte j l m = rw (lt-ltb j 501 l) (h.first j l m)

  last_byte : (j : ℕ) → 501 ≤ j → last_from (length body) ≤ j → j < length body → kept_byte k j ≡ get_or body j 0
  unfolding kept_byte
  last_byte j l a m = rw (le-ltb j 501 l, h.long, le-leb (last_from (length body)) j a) (h.last j a m)

  pub stands_alike : SameRequest (recording_of k).request r.request
  unfolding recording_of
  stands_alike = record {
    kind = h.kind;
    page = h.page;
    offset = h.offset;
    name = ap padded h.name ∙ padded-twice r.request.name (usable-is r.request.name h.usable).1;
    usable = ap usable h.name ∙ usable-padded r.request.name h.usable ∙ sym h.usable;
    exec = h.exec;
    info = h.info;
    long = length-tab k.long (kept_byte k) ∙ h.long;
    first = λ j l. body-byte j (λ m. first_byte j l m);
    last = λ j l. body-byte j
        (λ m.
        ⊎_elim (λ (n : j < 501). first_byte j n m) (λ (n : 501 ≤ j). last_byte j n (omega arith) m)
        (below_or_not j 501));
  }

  same_as : recording_of k ≡ record { request = (recording_of k).request; used = r.used; tracks = r.tracks }
  unfolding recording_of
  same_as = ap₂ {C = Recording} (λ (u : List ℕ) (t : ℕ). record { request = (recording_of k).request; used = u; tracks = t }) h.used h.tracks

  -- a piece and a close
  pub held_adds : (x d : List ℕ) (room : ℕ) → add_piece (recording_of k) x d room ≡ add_piece r x d room
  unfolding add_piece
  held_adds x d room =
      ap (λ (p : Plan). checked_result (check_disk d) (plan_result d room p))
      (ap (λ (q : Recording). piece_plan d q x) same_as ∙ piece_alike (recording_of k).request r.request stands_alike r.used r.tracks x d)

  pub held_closes : (d : List ℕ) (room : ℕ) → close_recording (recording_of k) d room ≡ close_recording r d room
  unfolding close_recording
  held_closes d room = by (check_disk d) refl
    where
      by : (o : Reply) → check_disk d ≡ o → checked_result o (plan_result d room (close_plan d (recording_of k))) ≡ checked_result o (plan_result d room (close_plan d r))
      by (some n) e = refl
      by none e = ap (plan_result d room) (ap (close_plan d) same_as ∙ close_alike (recording_of k).request r.request stands_alike r.used r.tracks d e)

  -- ---- with a piece more

  module _ (x : List ℕ) where
    abbrev joined : List ℕ
    joined = r.request.body ++ x

    joined-long : length joined ≡ length body + length x
    joined-long = length-append body x

    -- byte j of them: the body's, or the piece's
    old-byte : (j : ℕ) → j < length body → get_or joined j 0 ≡ get_or body j 0
    old-byte j l = get_or-append body x 0 j l

    new-byte : (j : ℕ) → length body ≤ j → get_or joined j 0 ≡ get_or x (j - length body) 0
    new-byte j l = let e : j ≡ length body + (j - length body) = omega arith in ap (λ (n : ℕ). get_or joined n 0) e ∙ get_or-append-add body x (j - length body) 0

    grown_first : (j : ℕ) → j < 501 → j < length joined → get_or (put k.first k.long x) j 0 ≡ get_or joined j 0
    grown_first j l m =
        ⊎_elim (λ (n : j < length body). put-before k.first k.long x j (omega (arith, h.long)) ∙ h.first j l n ∙ sym (old-byte j n))
        (λ (n : length body ≤ j).
        let e : j ≡ k.long + (j - length body) = omega (arith, h.long) in
        ap (λ (i : ℕ). get_or (put k.first k.long x) i 0) e
        ∙ put_in k.first k.long x (j - length body) (omega (arith, joined-long)) (omega (arith, h.long, h.room.0)) ∙ sym (new-byte j n))
        (below_or_not j (length body))

    abbrev from : ℕ
    from = last_from (length body)

    abbrev to : ℕ
    to = last_from (length joined)

    short : from ≤ length body
    unfolding sectors_for
    short = omega arith

    past : (sectors_for (length body + length x) ≡ sectors_for (length body) → ⊥) → length body ≤ to
    unfolding sectors_for
    past d = omega (arith, joined-long)

    -- the last sector, which begins at body byte a, goes on
    goes_on : (a : ℕ) → a ≤ length body → ((j : ℕ) → a ≤ j → j < length body → get_or k.last (j - a) 0 ≡ get_or body j 0)
        → (j : ℕ) → a ≤ j → j < length joined → j - a < 510 → get_or (put k.last (length body - a) x) (j - a) 0 ≡ get_or joined j 0
    goes_on a c o j l m s =
        ⊎_elim (λ (n : j < length body). put-before k.last (length body - a) x (j - a) (omega arith) ∙ o j l n ∙ sym (old-byte j n))
        (λ (n : length body ≤ j).
        let q : j - a ≡ length body - a + (j - length body) = omega arith in
        ap (λ (i : ℕ). get_or (put k.last (length body - a) x) i 0) q
        ∙ put_in k.last (length body - a) x (j - length body) (omega (arith, joined-long)) (omega (arith, h.room.1)) ∙ sym (new-byte j n))
        (below_or_not j (length body))

    -- or a new one begins
    begins : (a : ℕ) → length body ≤ a → (j : ℕ) → a ≤ j → j < length joined → j - a < 510
        → get_or (put (zeros 510) 0 (drop (a - length body) x)) (j - a) 0 ≡ get_or joined j 0
    begins a e j l m s =
        let q : a - length body + (j - a) ≡ j - length body = omega arith in
        let t : length (zeros 510) ≡ 510 = length-replicate {A = ℕ} 510 0 in
        put_front (zeros 510) (drop (a - length body) x) (j - a) (omega (arith, length-drop (a - length body) x, joined-long)) (omega arith)
        ∙ get_or-drop (a - length body) x (j - a) 0 ∙ ap (λ (i : ℕ). get_or x i 0) q ∙ sym (new-byte j (omega arith))

    grown_last : (j : ℕ) → to ≤ j → j < length joined → get_or (last_with k x) (j - to) 0 ≡ get_or joined j 0
    unfolding last_with
    grown_last j l m = rw h.long (by (eqb (sectors_for (length body + length x)) (sectors_for (length body))) refl)
      where
        near : j - to < 510
        near = omega (arith, sectors-least (length joined))

        same_to : last_from (length body + length x) ≡ to
        same_to = ap last_from (sym joined-long)

        by : (t : Bool) → eqb (sectors_for (length body + length x)) (sectors_for (length body)) ≡ t
            → get_or (cond t (put k.last (length body - from) x) (put (zeros 510) 0 (drop (last_from (length body + length x) - length body) x))) (j - to) 0 ≡ get_or joined j 0
        by true q =
            let e : to ≡ from = ap (λ (n : ℕ). 510 * (n - 1) - 9) (ap sectors_for joined-long ∙ eqb-true (sectors_for (length body + length x)) (sectors_for (length body)) q) in
            ap (λ (f : ℕ). get_or (put k.last (length body - from) x) (j - f) 0) e ∙ goes_on from short h.last j (omega arith) m (subst (λ (f : ℕ). j - f < 510) e near)
        by false q =
            ap (λ (f : ℕ). get_or (put (zeros 510) 0 (drop (f - length body) x)) (j - to) 0) same_to
            ∙ begins to (past (eqb-false (sectors_for (length body + length x)) (sectors_for (length body)) q)) j l m near

    last-room : length (last_with k x) ≡ 510
    unfolding last_with
    last-room = by (eqb (sectors_for (k.long + length x)) (sectors_for k.long))
      where
        by : (t : Bool) → length (cond t (put k.last (k.long - last_from k.long) x) (put (zeros 510) 0 (drop (last_from (k.long + length x) - k.long) x))) ≡ 510
        by true = length-put k.last (k.long - last_from k.long) x ∙ h.room.1
        by false = length-put (zeros 510) 0 (drop (last_from (k.long + length x) - k.long) x) ∙ length-replicate {A = ℕ} 510 0

    pub held_more : RecordOf (record_with k x) (with_piece r x)
    unfolding record_with
    held_more = record {
      kind = h.kind;
      name = h.name;
      usable = h.usable;
      page = h.page;
      offset = h.offset;
      exec = h.exec;
      info = h.info;
      used = h.used;
      tracks = h.tracks;
      long = ap (λ (n : ℕ). n + length x) h.long ∙ sym joined-long;
      room = (length-put k.first k.long x ∙ h.room.0, last-room);
      first = grown_first;
      last = grown_last;
    }

-- ---- every recording of our calls

pub opened_held : (w : SaveRequest) (d : List ℕ) → usable w.name ≡ true → RecordOf (fresh_record w (view d)) (fresh_recording w (view d))
unfolding fresh_record
opened_held w d u = record {
  kind = refl;
  name = refl;
  usable = u;
  page = refl;
  offset = refl;
  exec = λ j h. front_at 3 w.exec j h;
  info = λ j h. front_at 11 w.info j h;
  used = refl;
  tracks = refl;
  long = refl;
  room = (length-replicate {A = ℕ} 501 0, length-replicate {A = ℕ} 510 0);
  first = λ j h m. absurd (omega arith);
  last = λ j h m. absurd (omega arith);
}

-- a record for each: what the calls hold after them
pub kept : (r : Recording) → Recorded r → (k : Record) × RecordOf k r
kept _ (by_opening w d r e) =
    let o = open_of w d r e in
    let s = save_tested (view_tracks (view d)) (view_slots (view d)) (with_body w []) o.1 in
    (fresh_record w (view d), subst (RecordOf (fresh_record w (view d))) o.2 (opened_held w d s.usable-name))
kept _ (by_piece r x d room new ss p e) = let t = kept r p in (record_with t.0 x, held_more t.0 r t.1 x)
