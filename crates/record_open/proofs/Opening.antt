-- What an opening gives, by the tests that led there.
use Prim.Native.Nat.{ℕ, ◌≤◌, ◌<◌}
use mathlib.Core.Path.{◌≡◌, sym, ap, ap₂, ◌∙◌}
use mathlib.Core.Bool.{Bool, true, false}
use mathlib.Core.List.{List, []}
use mathlib.Core.Option.{none, some}
use native.Mathlib.Omega.{arith}
use borrow.Author.Tests.{lt-ltb, le-ltb}
use lib.Dec.{ltb}
use Rattle.buffers.specs.Bytes.{part, put}
use Rattle.buffers.proofs.Lists.{part-whole}
use Rattle.refusals.specs.Order.{Refusal, refuse, Reply, ◌else◌, row}
use Rattle.slots.specs.Slot.{sectors_for}
use Rattle.names.specs.Name.{padded}
use Rattle.directory.specs.Directory.{Directory, tracks_of, directory}
use Rattle.surveys.specs.Survey.{free_of}
use Rattle.surveys.specs.declared.UsedMap.{UsedMap}
use Rattle.disk.specs.View.{view}
use Rattle.disk.specs.Check.{check_disk}
use Rattle.disk.proofs.View.{view-slots, view_extra}
use Rattle.files.specs.Calls.{refused_lookup}
use Rattle.plans.specs.Change.{SaveRequest}
use Rattle.plans.specs.Plan.{save_reply}
use Rattle.plans.proofs.Kept.{usable-is}
use Rattle.plans.proofs.SafeSteps.{save_tested}
use Rattle.allocation.specs.declared.HeaderFields.{HeaderFields}
use Rattle.allocation.specs.Taken.{slot_for_save}
use Rattle.saves.specs.Write.{save_request_for, SaveSlot}
use Rattle.saves.proofs.Planned.{reply-refused, reply-at}
use Rattle.recordings.specs.declared.Record.{Record}
use Rattle.recordings.specs.Recording.{recording_reply}
use Rattle.recordings.specs.Record.{zeros, fresh_record}
use Rattle.recordings.specs.Calls.{open_recording_reply, record_or, opened_record}
use Rattle.recording_links.proofs.FollowLaws.{used-is, tracks-is}
use Rattle.record_open.specs.Fresh.{fresh_for}

-- ---- the record

abbrev kept : HeaderFields → List ℕ → List ℕ → List ℕ → List ℕ → ℕ → Record
kept s n e i m t = record {
  kind = s.kind;
  name = n;
  page = s.page;
  offset = s.offset;
  exec = e;
  info = i;
  used = m;
  tracks = t;
  long = 0;
  first = zeros 501;
  last = zeros 510;
}

pub fresh_by : (s : HeaderFields) (n e i : List ℕ) (u : UsedMap) (x y z : List ℕ) → x ≡ part 0 10 (padded n) → y ≡ put (zeros 3) 0 e → z ≡ put (zeros 11) 0 i
    → kept s x y z u.bytes u.tracks ≡ fresh_for s n e i u
unfolding fresh_for
fresh_by s n e i u x y z p q r =
    ap (λ (x : List ℕ). kept s x y z u.bytes u.tracks) p ∙ ap₂ (λ (y z : List ℕ). kept s (part 0 10 (padded n)) y z u.bytes u.tracks) q r

-- ---- the answer

opens : (w : SaveRequest) (d : List ℕ) → open_recording_reply w d ≡ none → opened_record w d ≡ fresh_record w (view d)
unfolding opened_record
opens w d e = ap (λ (q : Reply). record_or q (fresh_record w (view d))) e

module _ (d : List ℕ) (s : HeaderFields) (name exec info : List ℕ) where
  abbrev w : SaveRequest
  w = save_request_for s name exec info []

  pub reply_err : (x : Refusal) → check_disk d ≡ some x → open_recording_reply w d ≡ some x
  reply_err x e = ap (λ (q : Reply). q else recording_reply w (view d)) e

  reply-accepted : check_disk d ≡ none → open_recording_reply w d ≡ save_reply (tracks_of d) (directory d) w
  reply-accepted a =
      ap (λ (q : Reply). q else recording_reply w (view d)) a ∙ ap₂ (λ (n : ℕ) (v : Directory). save_reply n v w) (view_extra d) (view-slots d)

  pub reply_no_slot : check_disk d ≡ none → (x : Refusal) → refused_lookup x ≡ slot_for_save d s name → open_recording_reply w d ≡ some x
  reply_no_slot a x e = reply-accepted a ∙ reply-refused d s name exec info [] x e

  module _ (u : UsedMap) (i : ℕ) (o : SaveSlot d u i s name) (f : ℕ) (e : f ≡ free_of u) where
    -- an empty body takes one sector
    reply_by : (t : Bool) → ltb f 1 ≡ t → open_recording_reply w d ≡ row 19 0 t
    unfolding sectors_for
    reply_by t h = reply-accepted o.disk.accepted ∙ reply-at d u i s name exec info [] [] o f e t h

    pub reply-few : f < 1 → open_recording_reply w d ≡ some (refuse 19 0)
    reply-few h = reply_by true (lt-ltb f 1 h)

    pub running : 1 ≤ f → (none ≡ open_recording_reply w d) × (fresh_for s name exec info u ≡ opened_record w d)
    unfolding fresh_for fresh_record
    running h =
        let n = reply_by false (le-ltb f 1 h) in
        let t = save_tested (tracks_of d) (directory d) w (sym (reply-accepted o.disk.accepted) ∙ n) in (
          sym n,
          ap (λ (x : List ℕ). kept s x (put (zeros 3) 0 exec) (put (zeros 11) 0 info) u.bytes u.tracks)
              (part-whole (padded name) 10 (omega (arith, (usable-is name t.usable-name).1)))
              ∙ ap₂ (kept s (padded name) (put (zeros 3) 0 exec) (put (zeros 11) 0 info)) (sym (used-is d u o.disk)) (sym (tracks-is d u o.disk))
              ∙ sym (opens w d n),
        )
