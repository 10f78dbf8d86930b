-- An accepted close: demand 3, what is seen then, and what the recording then reads.
use Prim.Native.Nat.{ℕ, ◌+◌, ◌/◌, ◌%◌, ◌≤◌, ◌<◌}
use mathlib.Core.Path.{◌≡◌, refl, sym, ap, ap₂, ◌∙◌, subst, subst₂}
use mathlib.Core.Bool.{Bool, true, false}
use mathlib.Core.List.{List, [], ◌∷◌, ◌++◌, append_assoc}
use mathlib.Core.Option.{none, some, some-ne-none, some-injective}
use native.Mathlib.Omega.{arith}
use lib.ListN.{length, get_or}
use Rattle.buffers.specs.Bytes.{put, tab}
use Rattle.buffers.proofs.Lists.{tab_cong}
use Rattle.buffers.proofs.Tests.{and_both}
use Rattle.refusals.specs.Order.{◌else◌, row}
use Rattle.refusals.specs.Answers.{out, done}
use Rattle.refusals.proofs.First.{else_none}
use Rattle.slots.specs.Slot.{name_of, kind_of, carried, spectrum, sectors_for}
use Rattle.slots.proofs.KindLaws.{carried-read, carried_not}
use Rattle.slots.proofs.Least.{sectors-least}
use Rattle.names.specs.Name.{askable, padded}
use Rattle.names.proofs.Names.{same_eq}
use Rattle.chains.specs.File.{sectors_of, file_of}
use Rattle.chains.proofs.Laws.{sectors-own}
use Rattle.headers.specs.Header.{file_length, body}
use Rattle.headers.proofs.Laws.{length-slot as slot-length}
use Rattle.directory.specs.Find.{find}
use Rattle.disk.specs.View.{View, view, view_slots, view_tracks}
use Rattle.disk.specs.Check.{check_disk, check_release}
use Rattle.disk.specs.Release.{NoWaste}
use Rattle.disk.proofs.Release.{release_exactly}
use Rattle.disk.specs.Accepted.{AcceptedDisk}
use Rattle.disk.proofs.Rows.{is_carried}
use Rattle.files.specs.Calls.{reading}
use Rattle.steps.specs.Sectors.{Once, cut}
use Rattle.steps.specs.Steps.{Step, apply, numbers, commits, last_view, StepsHold}
use Rattle.steps.proofs.Steps.{numbers-append, length-numbers, commits-append, cut-sees}
use Rattle.plans.specs.Change.{SaveRequest, usable}
use Rattle.plans.specs.Saving.{free_bit, lowest_slot, taken_slot, new_slot}
use Rattle.plans.specs.Plan.{with_slot, file_if_live, old_name, end_steps, end_step, planned_steps, save_reply, new_disk}
use Rattle.plans.specs.Allowed.{NamedSlot}
use Rattle.plans.specs.Safe.{Safe}
use Rattle.plans.proofs.Frame.{disk-accepted, upd_same, holds}
use Rattle.plans.proofs.Kept.{usable-is}
use Rattle.plans.proofs.Free.{FreeSlot, free-slot, free-small}
use Rattle.plans.proofs.NewFile.{Ready, filled, taken_ready, name-is, kind-is, length-is}
use Rattle.plans.proofs.Ended.{dir_numbers_lem, end_commits}
use Rattle.plans.proofs.AcceptedFile.{LinkedAlong, body_along, own-bit, slot-names}
use Rattle.plans.proofs.Crash.{SafeSteps, crash_of}
use Rattle.plans.proofs.SafeSteps.{SaveTested, save_tested, safe_of, or_none, row-none}
use Rattle.plans.proofs.ReadBack.{read_here}
use Rattle.plans.proofs.Exactly.{named_find}
use Rattle.plans.proofs.Stays.{entered-stays, entered-entries}
use Rattle.plans.proofs.Unread.{EntersFile, enters_unread, enters_ends}
use Rattle.plans.proofs.Released.{entered_lean, released_of}
use Rattle.recordings.specs.Recording.{Recording, chain_of, disk_moved, close_data, close_steps, close_slot, close_reply, close_plan, close_recording, add_piece}
use Rattle.recordings.specs.Closed.{byte_on, ClosedAs}
use Rattle.recordings.proofs.Piece.{NotMoved, still, chain_taken, go_same, made_of, piece-unseen}
use Rattle.recordings.proofs.Close.{filled_by, filled_quiet, closed_file, along, close_goes, close_slots, close_next, close_apart, close_view}

-- ---- what an accepted close has passed

pub record CloseTested (d : List ℕ) (r : Recording) (sts : List (Step View)) : Type 0 where
  pub stays : NotMoved d r
  pub tested : SaveTested (view_tracks (view d)) (view_slots (view d)) r.request
  pub ready : Ready (view_tracks (view d)) (free_bit (view_tracks (view d)) (view_slots (view d))) r.request (chain_of r)
  pub steps : close_steps (old_name d (close_slot d)) d (close_slot d) r.request (chain_of r) ≡ sts

pub passed : (d : List ℕ) (r : Recording) (sts : List (Step View)) → AcceptedDisk (view d) → close_plan d r ≡ planned_steps sts → CloseTested d r sts
unfolding close_plan
passed d r sts w e =
    let i : ℕ = close_slot d in
    let a = or_none (close_reply d r) (planned_steps (close_steps (old_name d i) d i r.request (chain_of r))) sts e in
    let b = else_none (row 30 0 (disk_moved d r)) (save_reply (view_tracks (view d)) (view_slots (view d)) r.request) a.0 in
    let t = still d r (row-none 30 0 (disk_moved d r) b.0) in
    let s = save_tested (view_tracks (view d)) (view_slots (view d)) r.request b.1 in
    record {
      stays = t;
      tested = s;
      ready = rw (chain_taken d r t.used t.tracks) (taken_ready (view d) w r.request s.usable-name s.carried-kind s.room);
      steps = go_same (close_steps (old_name d i) d i r.request (chain_of r)) sts a.1;
    }

-- ---- demand 3, and what is seen

module _ (d : List ℕ) (ok : check_disk d ≡ none) (r : Recording) (sts : List (Step View)) (p : CloseTested d r sts) where
  abbrev w : SaveRequest
  w = r.request

  abbrev bs : List ℕ
  bs = chain_of r

  abbrev i : ℕ
  i = close_slot d

  abbrev n : ℕ
  n = view_tracks (view d)

  abbrev free : ℕ → Bool
  free = free_bit (view_tracks (view d)) (view_slots (view d))

  abbrev slot : List ℕ
  slot = new_slot (view d).label i w bs

  abbrev old : Bool
  old = old_name d i

  abbrev steps : List (Step View)
  steps = close_steps old d i w bs

  abbrev new : List ℕ
  new = apply d steps

  sound : AcceptedDisk (view d)
  sound = disk-accepted d ok

  at : FreeSlot (view d) i
  at = free-slot (view d) i p.tested.lowest

  goes : StepsHold view AcceptedDisk d steps × Once (numbers steps)
  goes = close_goes d sound i at w bs p.ready p.stays.links p.tested.fresh

  some_bits : 1 ≤ length bs
  some_bits = filled (view d).label i n free w bs p.ready

  close_safe : SafeSteps (λ f. false) d steps
  close_safe =
      let f = file_if_live slot (sectors_of (apply d (close_data w bs)) slot) in
      let last : Step View = end_step old (view d) i 0 slot f in
      let qs : List (Step View) = close_data w bs ++ end_steps old i in
      let same : close_data w bs ++ end_steps old i ++ (last ∷ []) ≡ steps = append_assoc (close_data w bs) (end_steps old i) (last ∷ []) in
      subst (SafeSteps (λ f. false) d) same
      (safe_of (λ f. false) d qs last i f refl
      (commits-append (close_data w bs) (end_steps old i) (filled_quiet d w bs (close_data w bs) (filled_by d sound w bs some_bits p.ready.run)) ∙ end_commits old i)
      (subst (StepsHold view AcceptedDisk d) (sym same) goes.0) (subst (λ (x : List (Step View)). Once (numbers x)) (sym same) goes.1)
      (λ f m. absurd (some-ne-none f (sym m ∙ at.empty))))

  safe : Safe (λ f. false) d new (numbers steps)
  safe = crash_of (λ f. false) d ok steps close_safe

  unseen : (k : ℕ) → k < length (numbers steps) → view (cut d new (numbers steps) k) ≡ view d
  unfolding last_view
  unseen k h =
      (cut-sees view AcceptedDisk steps d k close_safe.goes close_safe.once sound).sees
      ∙ ap (last_view (view d)) (close_safe.quiet k (subst (λ (n : ℕ). k < n) (length-numbers steps) h))

  seen_mid : view new ≡ with_slot (view d) i (some (closed_file d i w bs))
  seen_mid = close_view d sound i at w bs p.ready p.stays.links p.tested.fresh

  here : (view new).files i ≡ some (closed_file d i w bs)
  here = ap (λ (l : View). l.files i) seen_mid ∙ upd_same (view d) i (some (closed_file d i w bs))

  -- the slot's write leaves the sectors
  same-sectors : sectors_of new slot ≡ sectors_of (apply d (close_data w bs)) slot
  same-sectors = (holds new i (closed_file d i w bs) here).sectors

  seen : view new ≡ with_slot (view d) i (some (file_of new slot))
  unfolding file_of
  seen = seen_mid ∙ ap (λ (sec : ℕ → List ℕ). with_slot (view d) i (some (record { bytes = slot; sectors = sec }))) (sym same-sectors)

  -- ---- the recording reads as its sectors do

  kind-here : kind_of slot ≡ w.kind
  kind-here = kind-is (view d).label i w bs (omega (arith, p.ready.kind))

  carried_here : carried (kind_of slot) ≡ true
  carried_here = ap carried kind-here ∙ is_carried w.kind p.ready.kind

  length-here : file_length (closed_file d i w bs) ≡ length w.body
  length-here = slot-length (closed_file d i w bs) (carried_not (kind_of slot) carried_here) ∙ length-is (view d).label i w bs

  body-here : body (closed_file d i w bs) ≡ tab (length w.body) (byte_on new r)
  body-here =
      body_along free slot bs p.ready.run some_bits (slot-names (view d).label i w bs) (sectors_of (apply d (close_data w bs)) slot)
      (along d sound i at w bs p.ready p.stays.links)
      (omega (arith, length-here, p.ready.long, sectors-least (length w.body)))
      ∙ ap (λ (n : ℕ). tab n byte) length-here
      ∙ tab_cong (length w.body) byte (byte_on new r)
      (λ k q.
      let m : (9 + k) / 510 < length bs = omega (arith, p.ready.long, sectors-least (length w.body)) in
      ap (λ (x : List ℕ). get_or x ((9 + k) % 510) 0)
      (ap (λ (f : ℕ → List ℕ). f (get_or bs ((9 + k) / 510) 0)) (sym same-sectors)
      ∙ sectors-own new slot (get_or bs ((9 + k) / 510) 0) (own-bit free slot bs p.ready.run some_bits (slot-names (view d).label i w bs) ((9 + k) / 510) m)))
    where
      byte : ℕ → ℕ
      byte k = get_or (sectors_of (apply d (close_data w bs)) slot (get_or bs ((9 + k) / 510) 0)) ((9 + k) % 510) 0

  new_ok : check_disk new ≡ none
  new_ok = ap check_disk (sym safe.whole) ∙ safe.accepts (length (numbers steps)) (omega arith)

  named_here : NamedSlot new w.name i (closed_file d i w bs)
  named_here = record {
    below = free-small (view d) i at;
    here = here;
    name = same_eq (name_of slot) (padded w.name) (name-is (view d).label i w bs (usable-is w.name p.ready.name).1);
  }

  reads : (buf : List ℕ) → length w.body ≤ length buf → reading new w.name buf ≡ out (done (length w.body) 0) (put buf 0 (tab (length w.body) (byte_on new r)))
  unfolding check_disk usable
  reads buf h =
      read_here (view new) new_ok w.name (and_both (askable w.name) _ p.ready.name).0 i (closed_file d i w bs)
      (named_find new w.name new_ok i (closed_file d i w bs) named_here) here (carried-read (kind_of slot) carried_here) buf (omega (arith, length-here))
      ∙ ap₂ (λ (n : ℕ) (x : List ℕ). out (done n 0) (put buf 0 x)) length-here body-here

  -- ---- what else is seen

  enters : EntersFile d new (numbers steps)
  enters = record {
    slot = i;
    lowest = at;
    file = closed_file d i w bs;
    seen = seen_mid;
    next = close_next d sound i at w bs p.ready p.stays.links;
    others = close_slots d sound i at w bs p.ready p.stays.links;
    first = numbers (close_data w bs);
    sectors = numbers-append (close_data w bs) _ ∙ ap (λ (x : List ℕ). numbers (close_data w bs) ++ x) (dir_numbers_lem old i (view d) 0 slot _);
    apart = close_apart d sound i at w bs p.ready p.stays.links;
    whole = safe.whole;
    label = safe.label;
  }

  -- no waste sector
  released : check_release d ≡ none → (k : ℕ) → k ≤ length (numbers steps) → check_release (cut d new (numbers steps) k) ≡ none
  released c =
      released_of d c new (numbers steps) (λ f. false) safe unseen
      (entered_lean d new i w bs (closed_file d i w bs) ((release_exactly d).0 c).1 p.ready.long refl seen_mid)

  closes : ClosedAs r d new (numbers steps)
  closes = record {
    safe = safe;
    unseen = unseen;
    slot = i;
    lowest = p.tested.lowest;
    seen = seen;
    others = entered-stays d new ok new_ok i at w p.ready.name bs (closed_file d i w bs) refl seen_mid;
    entries = entered-entries d new ok new_ok i at w p.ready.name bs (closed_file d i w bs) refl seen_mid;
    unread = enters_unread d new (numbers steps) enters;
    ends = enters_ends d new (numbers steps) enters;
    reads = reads;
  }

-- M-109, the close: on any accepted disk, whatever the recording and whatever was done since its opening
pub close_closes : (r : Recording) (d : List ℕ) (room : ℕ) (new ss : List ℕ) → close_recording r d room ≡ new_disk new ss → ClosedAs r d new ss
unfolding close_recording
close_closes r d room new ss e =
    let m = made_of d (close_plan d r) room new ss e in
    let p = passed d r m.steps (disk-accepted d m.accepted) m.planned in
    subst₂ (ClosedAs r d) (ap (apply d) p.steps ∙ m.disk) (ap numbers p.steps ∙ m.named) (closes d m.accepted r m.steps p)

-- where the release check accepted the disk, it accepts every cut of a close
pub close_released : (r : Recording) (d : List ℕ) (room : ℕ) (new ss : List ℕ) → check_release d ≡ none → close_recording r d room ≡ new_disk new ss
    → (k : ℕ) → k ≤ length ss → check_release (cut d new ss k) ≡ none
unfolding close_recording
close_released r d room new ss c e =
    let m = made_of d (close_plan d r) room new ss e in
    let p = passed d r m.steps (disk-accepted d m.accepted) m.planned in
    subst₂ (λ (x s : List ℕ). (k : ℕ) → k ≤ length s → check_release (cut d x s k) ≡ none) (ap (apply d) p.steps ∙ m.disk) (ap numbers p.steps ∙ m.named)
    (released d m.accepted r m.steps p c)

-- and of a piece, of which nothing is seen
pub piece_released : (r : Recording) (x d : List ℕ) (room : ℕ) (new ss : List ℕ) → check_release d ≡ none → add_piece r x d room ≡ new_disk new ss
    → (k : ℕ) → k ≤ length ss → check_release (cut d new ss k) ≡ none
piece_released r x d room new ss c e =
    let u = piece-unseen r x d room new ss e in
    released_of d c new ss (λ f. false) u.safe (λ k h. u.unseen k) (subst NoWaste (sym u.after) ((release_exactly d).0 c).1)
