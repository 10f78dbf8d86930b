-- The ledger of a disk's view has the slots and the tracks of the view, and in each slot the entry of its file.
use Prim.Native.Nat.{ℕ, ◌+◌, ◌<◌}
use mathlib.Core.Path.{◌≡◌, refl, ap, fun_ext}
use mathlib.Core.Bool.{not}
use mathlib.Core.List.{List}
use mathlib.Core.Option.{Option, none, some}
use lib.Dec.{eqb}
use lib.ListN.{get_or}
use Rattle.buffers.specs.Bytes.{tab}
use Rattle.buffers.proofs.Lists.{get_or-tab}
use Rattle.buffers.proofs.Counts.{any_cong}
use Rattle.slots.specs.Slot.{count_of, first_of}
use Rattle.chains.specs.Chain.{chain_bit}
use Rattle.chains.specs.File.{File}
use Rattle.directory.specs.Places.{slots}
use Rattle.directory.specs.Directory.{fold_option, Directory}
use Rattle.directory.specs.Find.{find}
use Rattle.directory.proofs.Search.{find-some}
use Rattle.disk.specs.View.{View, view_slots, view_tracks}
use Rattle.files.specs.Calls.{no_file, file_at}
use Rattle.plans.specs.Gathering.{scattered, payload_of}
use Rattle.plans.proofs.Frame.{slot-file}
use Rattle.journeys.specs.Ledger.{ledger_tracks, ledger_slots, no_entry, entry_at}
use Rattle.journeys.specs.Entered.{must_move}
use Rattle.journeys.specs.Journey.{entry_of_file, ledger_of}

module _ (l : View) where
  pub slots_in_lem : ledger_slots (ledger_of l) ≡ view_slots l
  unfolding view_slots ledger_of
  slots_in_lem = fun_ext (λ i. by (l.files i))
    where
      by : (o : Option File) → fold_option none (λ e. some e.slot) (fold_option none (λ f. some (entry_of_file f)) o) ≡ fold_option none (λ f. some f.bytes) o
      by none = refl
      by (some f) = refl

  pub tracks_in : ledger_tracks (ledger_of l) ≡ view_tracks l
  unfolding view_tracks ledger_of
  tracks_in = refl

  pub find_in : (n : List ℕ) → find (ledger_slots (ledger_of l)) n ≡ find (view_slots l) n
  find_in n = ap (λ (v : Directory). find v n) slots_in_lem

  -- a slot with a file
  pub entry-is : (i : ℕ) (f : File) → l.files i ≡ some f → entry_at (ledger_of l) i ≡ entry_of_file f
  unfolding ledger_of
  entry-is i f e = ap (λ (o : Option File). fold_option no_entry (λ e. e) (fold_option none (λ f. some (entry_of_file f)) o)) e

  pub file-is : (i : ℕ) (f : File) → l.files i ≡ some f → file_at l i ≡ f
  file-is i f e = ap (fold_option no_file (λ f. f)) e

  -- the slot that has the name is one
  pub record Found (i : ℕ) : Type 0 where
    pub below : i < slots
    pub file : File
    pub here : l.files i ≡ some file

  pub found : (n : List ℕ) (i : ℕ) → find (view_slots l) n ≡ some i → Found i
  found n i e =
      let w = find-some (view_slots l) n i e in
      let g = slot-file l i w.bytes w.here in
      record { below = w.below; file = g.0; here = g.1 }

  -- of any slot: where it holds no file, an entry of no bytes
  pub entry-at : (i : ℕ) → entry_at (ledger_of l) i ≡ entry_of_file (file_at l i)
  unfolding ledger_of payload_of tab
  entry-at i = by (l.files i)
    where
      by : (o : Option File) → fold_option no_entry (λ e. e) (fold_option none (λ f. some (entry_of_file f)) o) ≡ entry_of_file (fold_option no_file (λ f. f) o)
      by none = refl
      by (some f) = refl

-- the order of an entry's sectors is that of the links
pub must_move_lem : (f : File) → must_move (entry_of_file f) ≡ scattered f
unfolding must_move scattered
must_move_lem f =
    any_cong (count_of f.bytes) (λ k. not (eqb (get_or (tab (count_of f.bytes) (chain_bit f.sectors (first_of f.bytes))) k 0) (first_of f.bytes + k)))
    (λ k. not (eqb (chain_bit f.sectors (first_of f.bytes) k) (first_of f.bytes + k)))
    (λ k h. ap (λ (x : ℕ). not (eqb x (first_of f.bytes + k))) (get_or-tab (count_of f.bytes) (chain_bit f.sectors (first_of f.bytes)) k h))
