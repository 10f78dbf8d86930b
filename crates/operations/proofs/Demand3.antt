-- Demand 3, the whole claim: every accepted disk, everything that can be asked for with its whole list, every part, every cut.
use Prim.Native.Nat.{ℕ, zero, suc, ◌+◌, ◌≤◌, ◌<◌}
use mathlib.Core.Path.{◌≡◌, refl, sym, ap, ◌∙◌, subst, subst₂}
use mathlib.Core.List.{List, [], ◌∷◌}
use mathlib.Core.Option.{none}
use native.Mathlib.Omega.{arith}
use lib.ListN.{length, get_or, take}
use Rattle.buffers.specs.Bytes.{part, put}
use Rattle.buffers.proofs.Lists.{part-put}
use Rattle.refusals.specs.Answers.{done}
use Rattle.disk.specs.Check.{check_disk}
use Rattle.steps.specs.Sectors.{cut}
use Rattle.steps.proofs.Sectors.{cut-none}
use Rattle.plans.specs.Plan.{Result, refused_result, new_disk, Changed, changed_by, change}
use Rattle.plans.specs.Safe.{Safe}
use Rattle.plans.proofs.Demand3.{crash_change as crash-single, run_room}
use Rattle.plans.proofs.Unread.{unread-stays}
use Rattle.recordings.specs.Recording.{piece_plan, add_piece, close_plan, close_recording}
use Rattle.recordings.proofs.Piece.{made_of, piece-unseen}
use Rattle.recordings.proofs.Closing.{close_closes}
use Rattle.erase_many.specs.EraseMany.{erased_all, sectors_of_all, run_many, erased_by_result, erase_many}
use Rattle.operations.specs.Operations.{Operation, single_change, erase_names, record_piece, record_close, run_operation, changed_of, call_operation, parts, part_at, PartsJoin, EachSafe, EveryCut}
use Rattle.erase_many.specs.EraseManyCut.{CutLeaves}
use Rattle.erase_many.proofs.EraseManyCut.{erase_many_fewer, erase_many-cut, cut-last}
use Rattle.operations.proofs.Crash.{sector-safe}
use Rattle.erase_many.proofs.Refused.{run_grants}

-- a change is one part, and its own theorem says it; of an erase-many each sector is one
pub crash : (a : Operation) (old : List ℕ) (room : ℕ) (new ss : List ℕ) → check_disk old ≡ none → run_operation a old room ≡ new_disk new ss → EachSafe a old new ss
crash (single_change c) old room new ss ok e = λ k h. crash-single c old room new ss ok e
crash (erase_names ns abuf) old room new ss ok e =
    let g = run_grants old ns (length abuf) room new ss e in
    subst₂ (EachSafe (erase_names ns abuf) old) g.1 g.2 (λ k h. sector-safe old ok (erased_all old ns) (erase_many_fewer old ok ns) k h)
crash (record_piece r x) old room new ss ok e = λ k h. (piece-unseen r x old room new ss e).safe
crash (record_close r) old room new ss ok e = λ k h. (close_closes r old room new ss e).safe

-- one part alone
one_joins : (a : Operation) (old new ss : List ℕ) → parts a ss ≡ 1 → ((k : ℕ) → ((part_at a old new ss k).old ≡ old) × ((part_at a old new ss k).new ≡ new)) → PartsJoin a old new ss
one_joins a old new ss e p = record {
  first = λ h. (p 0).0;
  next = λ k h. absurd (omega (arith, e));
  last = λ k h. (p k).1;
  empty = λ h. absurd (omega (arith, e));
}

-- the parts are the change
pub parts_join : (a : Operation) (old : List ℕ) (room : ℕ) (new ss : List ℕ) → check_disk old ≡ none → run_operation a old room ≡ new_disk new ss → PartsJoin a old new ss
parts_join (single_change c) old room new ss ok e = one_joins (single_change c) old new ss refl (λ k. (refl, refl))
parts_join (record_piece r x) old room new ss ok e = one_joins (record_piece r x) old new ss refl (λ k. (refl, refl))
parts_join (record_close r) old room new ss ok e = one_joins (record_close r) old new ss refl (λ k. (refl, refl))
parts_join (erase_names ns abuf) old room new ss ok e =
    let g = run_grants old ns (length abuf) room new ss e in
    let w : cut old new ss (length ss) ≡ new = subst₂ (λ (x s : List ℕ). cut old x s (length s) ≡ x) g.1 g.2 (cut-last old ok (erased_all old ns) (erase_many_fewer old ok ns)) in
    record {
      first = λ h. cut-none old new ss;
      next = λ k h. refl;
      last = λ k h. ap (cut old new ss) h ∙ w;
      empty = λ h. sym w ∙ ap (cut old new ss) h ∙ cut-none old new ss;
    }

-- cut anywhere in its whole list
pub every_cut : (a : Operation) (old : List ℕ) (room : ℕ) (new ss : List ℕ) → check_disk old ≡ none → run_operation a old room ≡ new_disk new ss
    → (k : ℕ) → k ≤ length ss → EveryCut a old new ss k
every_cut (single_change c) old room new ss ok e k h =
    let s = crash-single c old room new ss ok e in
    record { accepted = s.accepts k h; label = s.label k h; unread = λ j q n. (unread-stays c old room new ss ok e).stays k h j q n }
every_cut (record_piece r x) old room new ss ok e k h =
    let u = piece-unseen r x old room new ss e in
    record { accepted = u.safe.accepts k h; label = u.safe.label k h; unread = λ j q n. u.unread.stays k h j q n }
every_cut (record_close r) old room new ss ok e k h =
    let c = close_closes r old room new ss e in
    record { accepted = c.safe.accepts k h; label = c.safe.label k h; unread = λ j q n. c.unread.stays k h j q n }
every_cut (erase_names ns abuf) old room new ss ok e k h =
    let g = run_grants old ns (length abuf) room new ss e in
    let w = subst₂ (λ (x s : List ℕ). CutLeaves old x s k) g.1 g.2 (erase_many-cut old ok ns k) in
    record { accepted = w.accepted; label = w.label; unread = λ j q n. w.unread j ∙ q }

-- ---- in the words of the contracts

-- what is accepted has an accepted disk, and a list with room for the sectors named
pub ran_room : (a : Operation) (d : List ℕ) (room : ℕ) (new ss : List ℕ) → run_operation a d room ≡ new_disk new ss → (check_disk d ≡ none) × (length ss ≤ room)
unfolding add_piece close_recording
ran_room (single_change c) d room new ss e = let r = run_room c d room new ss e in (r.accepted, r.fits)
ran_room (erase_names ns abuf) d room new ss e =
    let g = run_grants d ns (length abuf) room new ss e in
    (g.0.disk, subst (λ (l : List ℕ). length l ≤ room) g.2 g.0.list)
ran_room (record_piece r x) d room new ss e = let m = made_of d (piece_plan d r x) room new ss e in (m.accepted, m.fits)
ran_room (record_close r) d room new ss e = let m = made_of d (close_plan d r) room new ss e in (m.accepted, m.fits)

-- outcome, image and list are those of what it is run with
call-is : (a : Operation) (d buf : List ℕ) → call_operation a d buf ≡ changed_by (run_operation a d (length buf)) d buf
unfolding change erase_many
call-is (single_change c) d buf = refl
call-is (record_piece r x) d buf = refl
call-is (record_close r) d buf = refl
call-is (erase_names ns abuf) d buf = by (run_many ns d (length abuf) (length buf))
  where
    by : (x : Result) → changed_of (erased_by_result x d ns abuf buf) ≡ changed_by x d buf
    by (refused_result r) = refl
    by (new_disk new ss) = refl

-- whatever is asked, whatever disk and list: where the call answers how many, those first numbers of the list at return are its
-- sectors, and the image at return is the new disk
pub crash_call : (a : Operation) (d buf : List ℕ) (n f : ℕ) → (call_operation a d buf).outcome ≡ done n f → EachSafe a d (call_operation a d buf).image (take n (call_operation a d buf).list)
unfolding part
crash_call a d buf n f e =
    subst (λ (x : Changed). EachSafe a d x.image (take n x.list)) (sym (call-is a d buf))
    (by (run_operation a d (length buf)) refl (sym (ap (λ (x : Changed). x.outcome) (call-is a d buf)) ∙ e))
  where
    by : (x : Result) → run_operation a d (length buf) ≡ x → (changed_by x d buf).outcome ≡ done n f → EachSafe a d (changed_by x d buf).image (take n (changed_by x d buf).list)
    by (refused_result r) q w = let z : ◌≡◌ {A = ℕ} 0 1 = cc in absurd (omega arith)
    by (new_disk new ss) q w =
        let m : length ss ≡ n = cc in
        let r = ran_room a d (length buf) new ss q in
        let t : take n (put buf 0 ss) ≡ ss = ap (λ (k : ℕ). take k (put buf 0 ss)) (sym m) ∙ part-put buf 0 ss (omega (arith, r.1)) in
        subst (EachSafe a d new) (sym t) (crash a d (length buf) new ss r.0 q)
