-- The records of our calls can be held by their bytes.
use Prim.Native.Nat.{ℕ, ◌+◌, ◌-◌, ◌/◌, ◌≤◌}
use mathlib.Core.Path.{◌≡◌, refl, ap, ◌∙◌}
use mathlib.Core.Bool.{true, ◌&&◌}
use mathlib.Core.List.{List, [], ◌++◌}
use mathlib.Core.Option.{none}
use native.Mathlib.Omega.{arith}
use borrow.Author.Tests.{leb-true}
use lib.Dec.{leb}
use lib.ListN.{length, length-append, length-replicate}
use Rattle.buffers.proofs.Lists.{length-tab, length-put}
use Rattle.buffers.proofs.Tests.{and_both}
use Rattle.refusals.proofs.First.{else_none}
use Rattle.slots.specs.Slot.{sectors_for}
use Rattle.slots.specs.Tracks.{data_count}
use Rattle.slots.proofs.Tracks.{data_few, tracks-few}
use Rattle.directory.specs.Places.{slots}
use Rattle.surveys.specs.Survey.{used_map, free_of, free}
use Rattle.surveys.proofs.Union.{length_union}
use Rattle.disk.specs.View.{view, view_slots, view_tracks}
use Rattle.disk.specs.Check.{check_disk}
use Rattle.disk.proofs.Rows.{carried-is}
use Rattle.plans.specs.Change.{SaveRequest, between, usable}
use Rattle.plans.specs.Plan.{new_disk}
use Rattle.plans.proofs.Kept.{usable-is}
use Rattle.plans.proofs.SafeSteps.{SaveTested, save_tested}
use Rattle.recordings.specs.Recording.{Recording, with_body, with_piece, recording_reply, piece_plan, add_piece}
use Rattle.recordings.specs.Record.{kept_byte, recording_of, zeros, fresh_record}
use Rattle.recordings.specs.Calls.{open_recording_reply}
use Rattle.recordings.specs.declared.Record.{Record}
use Rattle.recordings.proofs.Piece.{made_of, piece_of}
use Rattle.record_bytes.specs.Layout.{FitsRecord}

-- at opening, what is tested of the particulars
tested : (w : SaveRequest) (d : List ℕ) → open_recording_reply w d ≡ none → SaveTested (view_tracks (view d)) (view_slots (view d)) (with_body w [])
tested w d e = save_tested (view_tracks (view d)) (view_slots (view d)) (with_body w []) (else_none (check_disk d) (recording_reply w (view d)) e).1

pub opened-name : (w : SaveRequest) (d : List ℕ) → open_recording_reply w d ≡ none → usable w.name ≡ true
opened-name w d e = (tested w d e).usable-name

pub fresh-fits : (w : SaveRequest) (d : List ℕ) → open_recording_reply w d ≡ none → FitsRecord (fresh_record w (view d))
unfolding fresh_record view_tracks
fresh-fits w d e =
    let t = tested w d e in
    let k = carried-is w.kind t.carried-kind in
    let r = and_both (leb w.page 31) (between 32768 w.offset 49151) t.range in
    let p : w.page ≤ 31 = leb-true w.page 31 r.0 in
    let q : w.offset ≤ 49151 = leb-true w.offset 49151 (and_both (leb 32768 w.offset) (leb w.offset 49151) r.1).1 in
    record {
      kind = omega (arith, k.1);
      page = omega arith;
      offset = omega arith;
      tracks = omega (arith, tracks-few ((view d).label 255));
      long = omega arith;
      name = (usable-is w.name t.usable-name).1;
      exec = length-put (zeros 3) 0 w.exec ∙ length-replicate {A = ℕ} 3 0;
      info = length-put (zeros 11) 0 w.info ∙ length-replicate {A = ℕ} 11 0;
      used = length_union (view_slots (view d)) slots;
      first = length-replicate {A = ℕ} 501 0;
      last = length-replicate {A = ℕ} 510 0;
    }

-- an accepted piece: no disk has room for more
pub piece-few : (k : Record) (x d : List ℕ) (room : ℕ) (new ss : List ℕ) → add_piece (recording_of k) x d room ≡ new_disk new ss → k.long + length x ≤ 795591
unfolding add_piece recording_of free free_of sectors_for
piece-few k x d room new ss e =
    let m = made_of d (piece_plan d (recording_of k) x) room new ss e in
    let p = piece_of d (recording_of k) x m.steps m.planned in
    let u = used_map (view_tracks (view d)) (view_slots (view d)) in
    let l : length ((recording_of k).request.body ++ x) ≡ k.long + length x = length-append (recording_of k).request.body x ∙ ap (λ (n : ℕ). n + length x) (length-tab k.long (kept_byte k)) in
    let f : (length ((recording_of k).request.body ++ x) + 518) / 510 ≤ data_count u.tracks - u.count = p.fits in
    omega (arith, data_few u.tracks)
