-- What an accepted disk answers to a call that reads is what the ledger of its view answers: listing, reading in one and in pieces, start
-- addresses, what lies beneath a directory, and the check before a release.
use Prim.Native.Nat.{ℕ, suc}
use mathlib.Core.Path.{◌≡◌, refl, sym, ap, ap₂, ◌∙◌}
use mathlib.Core.Bool.{Bool, true, false, not}
use mathlib.Core.List.{List}
use mathlib.Core.Option.{Option, none, some, some-ne-none}
use lib.Dec.{ltb}
use lib.ListN.{length, take}
use Rattle.refusals.specs.Order.{refuse, Reply, ◌else◌, row}
use Rattle.refusals.specs.Answers.{Outcome, done, unless, Out, filled}
use Rattle.slots.specs.Slot.{kind_of, readable}
use Rattle.names.specs.Name.{askable}
use Rattle.chains.specs.File.{File}
use Rattle.headers.specs.Header.{file_length, body}
use Rattle.directory.specs.Places.{slots}
use Rattle.directory.specs.Directory.{fold_option, Directory, live_among}
use Rattle.directory.specs.Find.{find}
use Rattle.surveys.specs.Survey.{free}
use Rattle.disk.specs.View.{View, view, view_slots, view_tracks}
use Rattle.disk.specs.Check.{check_view, check_disk}
use Rattle.disk.proofs.Accepted.{accepted-disk}
use Rattle.files.specs.Calls.{no_file, file_at, file_named, not_readable, start_out_of_range, entries, file_start, list_view, read_view, start_view, listing, reading, start_address}
use Rattle.trees.specs.Tree.{tree_reply, tree}
use Rattle.tree_lists.specs.Call.{name_reply, asked_code, fill_with, tree_view, tree_listing}
use Rattle.readers.specs.declared.Place.{Place}
use Rattle.readers.specs.Opening.{opened_at, body_place, file_opening_by, open_file_reply, open_file_view, open_file}
use Rattle.readers.specs.Pieces.{total, joined}
use Rattle.readers.proofs.Joined.{joined-first}
use Rattle.plans.proofs.Others.{read_by, start_by}
use Rattle.journeys.specs.Ledger.{LedgerEntry, Ledger, no_entry, entry_at, entry_named, ledger_lists, long_of, body_of, unreadable, ledger_reads, ledger_opens, ledger_starts, ledger_trees}
use Rattle.journeys.specs.Journey.{ledger_of}
use Rattle.journeys.specs.Answers.{begin_reply}
use Rattle.journeys.proofs.Alike.{slots_in_lem, tracks_in, find_in, entry-is, file-is, found}
use Rattle.journeys.proofs.Entries.{long-is, start_is, body_is}

-- what the answers hang on: the slot's bytes, and of the file what it says of itself
pub record Says (f : File) (e : LedgerEntry) : Type 0 where
  pub bytes : f.bytes ≡ e.slot
  pub long : file_length f ≡ long_of e
  pub bodies : readable (kind_of f.bytes) ≡ true → body f ≡ body_of e
  pub start : file_start f ≡ Rattle.journeys.specs.Ledger.entry_start e

module _ (l : View) (ok : check_view l ≡ none) where
  abbrev b : Ledger
  b = ledger_of l

  pub lists-view : (buf : List ℕ) → list_view l buf ≡ ledger_lists b buf
  unfolding list_view ledger_lists
  lists-view buf =
      rw ok
      (ap₂ (λ (m : ℕ) (v : Directory). filled (row 20 0 (ltb (length buf) (length (entries v slots)))) (done (live_among v slots) (free m v)) (entries v slots) buf)
      (sym (tracks_in l)) (sym (slots_in_lem l)))

  -- the file found by a name
  pub says : (n : List ℕ) (i : ℕ) → find (view_slots l) n ≡ some i → Says (file_at l i) (entry_at b i)
  says n i e =
      let w = found l n i e in
      let g = (accepted-disk l ok).accepted i w.file w.below w.here in
      rw (file-is l i w.file w.here, entry-is l i w.file w.here)
      (record {
        bytes = refl;
        long = long-is (view_tracks l) w.file g;
        bodies = body_is (view_tracks l) w.file g;
        start = start_is (view_tracks l) w.file g;
      })

-- ---- by a name: whether it can be asked for, the slot found, and what is in the slots

abbrev start_by_lem : Bool → Option ℕ → (ℕ → LedgerEntry) → Outcome
start_by_lem t o es =
    unless
    (row 12 0 (not t) else fold_option (some (refuse 15 0)) (λ i. unreadable i (es i) else Rattle.journeys.specs.Ledger.entry_start_out_of_range i (es i)) o)
    (done (Rattle.journeys.specs.Ledger.entry_start (fold_option no_entry es o)) 0)

abbrev read_by_lem : List ℕ → Bool → Option ℕ → (ℕ → LedgerEntry) → Out
read_by_lem buf t o es =
    filled (row 12 0 (not t) else fold_option (some (refuse 15 0)) (λ i. unreadable i (es i) else row 20 0 (ltb (length buf) (long_of (es i)))) o)
    (done (long_of (fold_option no_entry es o)) 0) (body_of (fold_option no_entry es o)) buf

module _ (f : ℕ → File) (e : ℕ → LedgerEntry) where
  start_says : (t : Bool) (o : Option ℕ) → ((i : ℕ) → o ≡ some i → Says (f i) (e i))
      → unless (row 12 0 (not t) else fold_option (some (refuse 15 0)) (λ i. not_readable (suc i) (f i) else start_out_of_range (suc i) (f i)) o) (done (file_start (fold_option no_file f o)) 0)
      ≡ start_by_lem t o e
  start_says false o a = refl
  start_says true none a = refl
  start_says true (some i) a = let w = a i refl in rw (w.start, w.bytes)

  read-says : (buf : List ℕ) (t : Bool) (o : Option ℕ) → ((i : ℕ) → o ≡ some i → Says (f i) (e i))
      → filled (row 12 0 (not t) else fold_option (some (refuse 15 0)) (λ i. not_readable (suc i) (f i) else row 20 0 (ltb (length buf) (file_length (f i)))) o)
      (done (file_length (fold_option no_file f o)) 0) (body (fold_option no_file f o)) buf
      ≡ read_by_lem buf t o e
  read-says buf false o a = refl
  read-says buf true none a = refl
  read-says buf true (some i) a = by (readable (kind_of (f i).bytes)) refl
    where
      w : Says (f i) (e i)
      w = a i refl

      by : (t : Bool) → readable (kind_of (f i).bytes) ≡ t
          → filled (not_readable (suc i) (f i) else row 20 0 (ltb (length buf) (file_length (f i)))) (done (file_length (f i)) 0) (body (f i)) buf
          ≡ filled (unreadable i (e i) else row 20 0 (ltb (length buf) (long_of (e i)))) (done (long_of (e i)) 0) (body_of (e i)) buf
      by true q = rw (w.long, w.bodies q, w.bytes)
      by false q = let p : readable (kind_of (e i).slot) ≡ false = rw (← w.bytes) q in rw (q, p)

  open_says : (t : Bool) (o : Option ℕ) → ((i : ℕ) → o ≡ some i → Says (f i) (e i))
      → (row 12 0 (not t) else fold_option (some (refuse 15 0)) (λ i. not_readable (suc i) (f i)) o) ≡ (row 12 0 (not t) else fold_option (some (refuse 15 0)) (λ i. unreadable i (e i)) o)
  open_says false o a = refl
  open_says true none a = refl
  open_says true (some i) a = rw (a i refl).bytes

  -- where opening is not refused, the body is the entry's
  body-says : (t : Bool) (o : Option ℕ) → ((i : ℕ) → o ≡ some i → Says (f i) (e i))
      → (row 12 0 (not t) else fold_option (some (refuse 15 0)) (λ i. not_readable (suc i) (f i)) o) ≡ none → body (fold_option no_file f o) ≡ body_of (fold_option no_entry e o)
  body-says false o a q = absurd (some-ne-none (refuse 12 0) q)
  body-says true none a q = absurd (some-ne-none (refuse 15 0) q)
  body-says true (some i) a q = by (readable (kind_of (f i).bytes)) refl q
    where
      by : (t : Bool) → readable (kind_of (f i).bytes) ≡ t → row 13 (suc i) (not t) ≡ none → body (f i) ≡ body_of (e i)
      by true r z = (a i refl).bodies r
      by false r z = absurd (some-ne-none (refuse 13 (suc i)) z)

begun : (r : Reply) (p : Place) → begin_reply (file_opening_by r p) ≡ r
begun none p = refl
begun (some r) p = refl

module _ (l : View) (ok : check_view l ≡ none) (n : List ℕ) where
  pub starts-view : start_view l n ≡ ledger_starts (ledger_of l) n
  unfolding ledger_starts
  starts-view =
      start_by l ok n ∙ start_says (file_at l) (entry_at (ledger_of l)) (askable n) (find (view_slots l) n) (says l ok n)
      ∙ ap (λ (o : Option ℕ). start_by_lem (askable n) o (entry_at (ledger_of l))) (sym (find_in l n))

  pub reads-view : (buf : List ℕ) → read_view l n buf ≡ ledger_reads (ledger_of l) n buf
  unfolding ledger_reads
  reads-view buf =
      read_by l ok n buf ∙ read-says (file_at l) (entry_at (ledger_of l)) buf (askable n) (find (view_slots l) n) (says l ok n)
      ∙ ap (λ (o : Option ℕ). read_by_lem buf (askable n) o (entry_at (ledger_of l))) (sym (find_in l n))

  -- what opening refuses on an accepted disk
  open_reply : open_file_reply l n ≡ (row 12 0 (not (askable n)) else fold_option (some (refuse 15 0)) (λ i. not_readable (suc i) (file_at l i)) (find (view_slots l) n))
  unfolding open_file_reply
  open_reply = rw ok

  pub opens_view : begin_reply (open_file_view l n) ≡ ledger_opens (ledger_of l) n
  unfolding open_file_view ledger_opens
  opens_view =
      begun (open_file_reply l n) (body_place (file_named l n)) ∙ open_reply
      ∙ open_says (file_at l) (entry_at (ledger_of l)) (askable n) (find (view_slots l) n) (says l ok n)
      ∙ ap (λ (o : Option ℕ). row 12 0 (not (askable n)) else fold_option (some (refuse 15 0)) (λ i. unreadable i (entry_at (ledger_of l) i)) o) (sym (find_in l n))

  pub body-view : (p : Place) → open_file_view l n ≡ opened_at p → body (file_named l n) ≡ body_of (entry_named (ledger_of l) n)
  unfolding open_file_view file_named
  body-view p e =
      body-says (file_at l) (entry_at (ledger_of l)) (askable n) (find (view_slots l) n) (says l ok n)
      (sym open_reply ∙ sym (begun (open_file_reply l n) (body_place (file_named l n))) ∙ ap begin_reply e)
      ∙ ap (λ (o : Option ℕ). body_of (fold_option no_entry (entry_at (ledger_of l)) o)) (sym (find_in l n))

  pub trees_view : (buf : List ℕ) → tree_view l n buf ≡ ledger_trees (ledger_of l) n buf
  unfolding tree_view ledger_trees
  trees_view buf =
      rw ok (ap (λ (v : Directory). fill_with (tree v (asked_code v n)) (tree_reply v else name_reply v n) buf) (sym (slots_in_lem l)))

-- ---- on a disk

module _ (d : List ℕ) (ok : check_disk d ≡ none) where
  pub listings : (buf : List ℕ) → listing d buf ≡ ledger_lists (ledger_of (view d)) buf
  unfolding check_disk
  listings buf = lists-view (view d) ok buf

  pub starting-is : (n : List ℕ) → start_address d n ≡ ledger_starts (ledger_of (view d)) n
  unfolding check_disk
  starting-is n = starts-view (view d) ok n

  pub readings : (n buf : List ℕ) → reading d n buf ≡ ledger_reads (ledger_of (view d)) n buf
  unfolding check_disk
  readings n buf = reads-view (view d) ok n buf

  pub opened : (n : List ℕ) → begin_reply (open_file d n) ≡ ledger_opens (ledger_of (view d)) n
  unfolding check_disk
  opened n = opens_view (view d) ok n

  pub pieces : (n rooms : List ℕ) (p : Place) → open_file d n ≡ opened_at p → joined d p rooms ≡ take (total rooms) (body_of (entry_named (ledger_of (view d)) n))
  unfolding check_disk
  pieces n rooms p e = joined-first d n p e rooms ∙ ap (take (total rooms)) (body-view (view d) ok n p e)

  pub treed : (n buf : List ℕ) → tree_listing d n buf ≡ ledger_trees (ledger_of (view d)) n buf
  unfolding check_disk
  treed n buf = trees_view (view d) ok n buf
