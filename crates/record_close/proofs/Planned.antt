-- The plan of a close on an accepted disk, by the tests that led there, and what the writing is then entered with.
use Prim.Native.Nat.{ℕ, ◌+◌, ◌/◌, ◌≤◌, ◌<◌, min}
use Rattle.std.specs.Prelude.{Option, None, Some}
use mathlib.Core.Path.{◌≡◌, refl, sym, ap, ap₂, ◌∙◌, subst}
use mathlib.Core.Bool.{Bool, true, false}
use mathlib.Core.List.{List}
use mathlib.Core.Option.{none, some}
use native.Mathlib.Omega.{arith}
use borrow.Author.Tests.{lt-ltb}
use lib.ListN.{length}
use Rattle.refusals.specs.Order.{Refusal, refuse, Reply, ◌else◌, row}
use Rattle.refusals.specs.Answers.{Outcome, done, refused}
use Rattle.slots.specs.Slot.{sectors_for}
use Rattle.slots.proofs.Least.{sectors-some}
use Rattle.directory.specs.Directory.{fold_option, Directory, tracks_of, directory}
use Rattle.surveys.specs.Survey.{free_of}
use Rattle.surveys.specs.declared.UsedMap.{UsedMap}
use Rattle.disk.specs.View.{View}
use Rattle.disk.specs.Check.{check_disk}
use Rattle.disk.proofs.View.{view-slots, view_extra}
use Rattle.disk.proofs.Examined.{accepted-size}
use Rattle.files.specs.Calls.{found_slot, refused_lookup}
use Rattle.files.specs.Steps.{CheckedDisk}
use Rattle.steps.specs.Steps.{Step, numbers}
use Rattle.plans.specs.Change.{SaveRequest}
use Rattle.plans.specs.Allowed.{sectors_taken}
use Rattle.plans.specs.Saving.{taken_slot}
use Rattle.plans.specs.Plan.{Plan, refused_plan, planned_steps, plan_unless, save_reply, old_name, dir_sectors, changed}
use Rattle.changes.specs.ChangeCalls.{Applied, plan_call}
use Rattle.changes.proofs.Laws.{settled_no, settled_short, settled_done}
use Rattle.allocation.specs.declared.HeaderFields.{HeaderFields}
use Rattle.allocation.specs.Taken.{slot_for_save, unavailable_map, lowest_clear_bits}
use Rattle.sector_writes.specs.Sector.{header_fields_of}
use Rattle.slot_writes.specs.Filed.{directory_sectors}
use Rattle.saves.specs.Write.{SaveSlot as Free}
use Rattle.saves.proofs.Planned.{reply-refused, taken_at_lem, reply-at, large_few, ec, none_left, long, shut_writable}
use Rattle.recordings.specs.declared.Record.{Record}
use Rattle.recordings.specs.Record.{recording_of}
use Rattle.recordings.specs.Recording.{Recording, chain_of, disk_moved, close_steps, close_plan, close_recording}
use Rattle.recordings.specs.Calls.{close_call}
use Rattle.recording_links.specs.LinkedSectors.{continuation_in}
use Rattle.recording_links.proofs.FollowLaws.{chain-is, lost_moved, on_still}
use Rattle.record_close.specs.Close.{request_of, end_sectors, CloseReady, StillFits, CloseSlotOf}
use Rattle.record_close.proofs.Ends.{body-long}
use Rattle.record_close.proofs.Whole.{close_long}

-- no disk has more sectors than 1,560
sectors_capped_lem : (l x : ℕ) → x ≡ min l 795592 → (n : ℕ) → n ≡ sectors_for l → min ((x + 518) / 510) 1560 ≡ min n 1560
unfolding sectors_for
sectors_capped_lem l x e n q = omega arith

-- ---- a close goes by its plan, once the disk is accepted

module _ (k : Record) (d buf : List ℕ) where
  pub closed_err : (r : Refusal) → check_disk d ≡ some r → changed (refused r) d buf ≡ close_call k d buf
  unfolding close_call close_recording
  closed_err r e = rw e

  closed_planned : check_disk d ≡ none → (p : Plan) → close_plan d (recording_of k) ≡ p → plan_call p d buf ≡ close_call k d buf
  unfolding close_call close_recording plan_call
  closed_planned a p e = rw (a, e)

  -- 30
  pub closed_moved : check_disk d ≡ none → disk_moved d (recording_of k) ≡ true → (x : Outcome) → x ≡ refused (refuse 30 0) → changed x d buf ≡ close_call k d buf
  unfolding close_plan
  closed_moved a m x e = settled_no d buf (refuse 30 0) x e ∙ closed_planned a (refused_plan (refuse 30 0)) (rw m)

-- by the continuation of its sectors, whose number is not reckoned past 1,561
module _ (k : Record) (d : List ℕ) (u : UsedMap) (a : CheckedDisk d u) (x : ℕ) (ex : x ≡ min k.long 795592) (t : Option ℕ) (et : t ≡ continuation_in d u k.used k.tracks ((x + 518) / 510)) where
  counted : min ((x + 518) / 510) 1560 ≡ min (sectors_taken (request_of k)) 1560
  counted = sectors_capped_lem k.long x ex (sectors_taken (request_of k)) (ap sectors_for (body-long k))

  pub closed_lost : t ≡ None → (buf : List ℕ) (o : Outcome) → o ≡ refused (refuse 30 0) → changed o d buf ≡ close_call k d buf
  unfolding recording_of
  closed_lost e buf = closed_moved k d buf a.accepted (lost_moved d u a (recording_of k) ((x + 518) / 510) counted (sym et ∙ e))

  pub stays_on : (b : ℕ) → t ≡ Some b → StillFits d u k
  unfolding recording_of
  stays_on b e =
      let l = on_still d u a (recording_of k) ((x + 518) / 510) counted b (sym et ∙ e) in
      record { disk = a; still = l.still; chain = chain-is d u a (recording_of k) (sectors_taken (request_of k)) refl l.used l.tracks }

-- where the recording is not moved, by what a save refuses
plan-is : (d : List ℕ) (r : Recording) → disk_moved d r ≡ false → (q : Reply) → save_reply (tracks_of d) (directory d) r.request ≡ q
    → close_plan d r ≡ plan_unless q (planned_steps (close_steps (old_name d (taken_slot (tracks_of d) (directory d))) d (taken_slot (tracks_of d) (directory d)) r.request (chain_of r)))
unfolding close_plan
plan-is d r m q e =
    ap₂ (λ (n : ℕ) (v : Directory). plan_unless (row 30 0 (disk_moved d r) else save_reply n v r.request) (planned_steps (close_steps (old_name d (taken_slot n v)) d (taken_slot n v) r.request (chain_of r)))) (view_extra d) (view-slots d)
    ∙ ap₂ (λ (t : Bool) (q : Reply). plan_unless (row 30 0 t else q) (planned_steps (close_steps (old_name d (taken_slot (tracks_of d) (directory d))) d (taken_slot (tracks_of d) (directory d)) r.request (chain_of r)))) m e

-- what refuses the slot, and the slot that it takes
module _ (k : Record) (d : List ℕ) (u : UsedMap) (w : StillFits d u k) (s : HeaderFields) (es : s ≡ header_fields_of (request_of k)) where
  pub closed-refused : (buf : List ℕ) (r : Refusal) → refused_lookup r ≡ slot_for_save d s k.name → changed (refused r) d buf ≡ close_call k d buf
  unfolding recording_of
  closed-refused buf r e =
      let v : SaveRequest = request_of k in
      settled_no d buf r (refused r) refl
      ∙ closed_planned k d buf w.disk.accepted (refused_plan r)
      (plan-is d (recording_of k) w.still (some r)
      (reply-refused d (header_fields_of v) v.name v.exec v.info v.body r (e ∙ ap (λ (s : HeaderFields). slot_for_save d s k.name) es)))

  pub open_at : (i : ℕ) → found_slot i ≡ slot_for_save d s k.name → CloseSlotOf d u i k
  unfolding recording_of
  open_at i e = record { stays = w; place = e ∙ ap (λ (s : HeaderFields). slot_for_save d s k.name) es }

pub open_size : (d : List ℕ) (u : UsedMap) (i : ℕ) (k : Record) → CloseSlotOf d u i k → 256 ≤ length d
open_size d u i k o = omega (arith, accepted-size d o.stays.disk.accepted)

-- ---- at the slot that it takes

module _ (d : List ℕ) (u : UsedMap) (i : ℕ) (k : Record) (buf : List ℕ) (o : CloseSlotOf d u i k) (f : ℕ) (e : f ≡ free_of u) where
  abbrev w : SaveRequest
  w = request_of k

  free : Free d u i (header_fields_of (request_of k)) (request_of k).name
  free = record { disk = o.stays.disk; place = o.place }

  pub closed-few : f < sectors_for k.long → (x : Outcome) → x ≡ refused (refuse 19 0) → changed x d buf ≡ close_call k d buf
  closed-few h x p =
      settled_no d buf (refuse 19 0) x p
      ∙ closed_planned k d buf o.stays.disk.accepted (refused_plan (refuse 19 0))
      (plan-is d (recording_of k) o.stays.still (some (refuse 19 0))
      (reply-at d u i (header_fields_of w) w.name w.exec w.info w.body buf free f e true (lt-ltb f (sectors_taken w) (subst (λ (n : ℕ). f < sectors_for n) (sym (body-long k)) h))))

  pub closed_large : 795591 < k.long → (x : Outcome) → x ≡ refused (refuse 19 0) → changed x d buf ≡ close_call k d buf
  closed_large h =
      closed-few (subst (λ (n : ℕ). f < sectors_for n) (body-long k) (large_few d u i (header_fields_of w) w.name w.exec w.info w.body buf free f e (omega (arith, body-long k))))

  -- c: how many sectors of the directory; z: of the data
  module _ (n : ℕ) (m : n ≡ sectors_for k.long) (h : n ≤ f) (old : Bool) (eo : old ≡ old_name d i) (c : ℕ) (e₂ : c ≡ length (directory_sectors old i)) (z : ℕ) (ez : z ≡ end_sectors n) where
    abbrev steps : List (Step View)
    steps = close_steps old d i (request_of k) (lowest_clear_bits (unavailable_map u) n)

    is-many : n ≡ sectors_taken w
    is-many = m ∙ ap sectors_for (sym (body-long k))

    bits-long : length (lowest_clear_bits (unavailable_map u) n) ≡ n
    bits-long = long d u i (header_fields_of w) w.name w.exec w.info w.body buf free f e n is-many h old eo c e₂

    dirs_long : c ≡ length (dir_sectors old i)
    dirs_long = ec d u i (header_fields_of w) w.name w.exec w.info w.body buf free f e n is-many h old eo c e₂

    plan_go : close_plan d (recording_of k) ≡ planned_steps steps
    plan_go =
        plan-is d (recording_of k) o.stays.still none (none_left d u i (header_fields_of w) w.name w.exec w.info w.body buf free f e n is-many h old eo c e₂)
        ∙ ap₂ (λ (i : ℕ) (bs : List ℕ). planned_steps (close_steps (old_name d i) d i w bs)) (ap (fold_option 0 (λ i. i)) (taken_at_lem d (header_fields_of w) w.name w.exec w.info w.body i o.place).1)
        (o.stays.chain ∙ ap (lowest_clear_bits (unavailable_map u)) (sym is-many))
        ∙ ap (λ (t : Bool). planned_steps (close_steps t d i w (lowest_clear_bits (unavailable_map u) n))) (sym eo)

    named : length (numbers steps) ≡ z + c
    named =
        close_long old d i w (lowest_clear_bits (unavailable_map u) n) (omega (arith, bits-long, m, sectors-some k.long))
        ∙ ap₂ ◌+◌ (ap end_sectors bits-long ∙ sym ez) (sym dirs_long)

    pub closed-short : length buf < z + c → (x : Outcome) → x ≡ refused (refuse 20 0) → changed x d buf ≡ close_call k d buf
    closed-short l x p = settled_short steps d buf (omega (arith, named)) x p ∙ closed_planned k d buf o.stays.disk.accepted (planned_steps steps) plan_go

    -- b is the map of the bits that cannot be taken, as the code has it
    module _ (l : z + c ≤ length buf) (b : List ℕ) (q : b ≡ unavailable_map u) where
      pub closable : CloseReady b n i old k buf
      closable = subst (λ (x : List ℕ). CloseReady x n i old k buf) (sym q)
          (record {
            sectors = is-many;
            file = record { file = shut_writable d u i (header_fields_of w) w.name w.exec w.info w.body buf free f e n is-many h old eo c e₂; enough = bits-long ∙ is-many };
            room = omega (arith, ez, dirs_long);
          })

      pub closed-done : (d' buf' : List ℕ) → Applied (close_steps old d i (request_of k) (lowest_clear_bits b n)) d buf d' buf' (end_sectors n + length (dir_sectors old i))
          → changed (done (z + c) 0) d' buf' ≡ close_call k d buf
      closed-done d' buf' v =
          ap₂ (λ (z c : ℕ). changed (done (z + c) 0) d' buf') ez dirs_long
          ∙ settled_done steps d buf (omega (arith, named)) d' buf' (end_sectors n + length (dir_sectors old i))
          (subst (λ (x : List ℕ). Applied (close_steps old d i (request_of k) (lowest_clear_bits x n)) d buf d' buf' (end_sectors n + length (dir_sectors old i))) q v)
          ∙ closed_planned k d buf o.stays.disk.accepted (planned_steps steps) plan_go
