-- Laws of the view: what it holds at a slot, and that two disks which agree have one view.
use Prim.Native.Nat.{ℕ, suc, ◌+◌, ◌-◌, ◌≤◌}
use native.Mathlib.Numerals.{add-one}
use native.Mathlib.Omega.{arith}
use mathlib.Core.Path.{◌≡◌, refl, sym, ap, ◌∙◌, fun_ext}
use mathlib.Core.Bool.{true}
use mathlib.Core.List.{List}
use mathlib.Core.Option.{Option, none, some}
use lib.ListN.{length}
use Rattle.maps.specs.Bits.{has}
use Rattle.slots.specs.Slot.{map_of}
use Rattle.chains.specs.File.{File, file_of, sector_at}
use Rattle.chains.proofs.Laws.{file_agree}
use Rattle.headers.specs.Header.{chain_pass_reply}
use Rattle.refusals.specs.Order.{scan_from}
use Rattle.refusals.proofs.First.{none-scan_from}
use Rattle.directory.specs.Places.{slots}
use Rattle.directory.specs.Directory.{fold_option, Directory, label_of, tracks_of, directory, live_among}
use Rattle.directory.proofs.Live.{among_rest}
use Rattle.disk.specs.View.{view, view_slots, view_tracks}
use Rattle.disk.specs.Check.{chain_at}

-- the directory of a disk's view is the disk's directory
pub view-slots : (d : List ℕ) → view_slots (view d) ≡ directory d
unfolding view_slots view file_of
view-slots d = fun_ext (λ i. by i (directory d i))
  where
    by : (i : ℕ) (o : Option (List ℕ)) → fold_option none (λ f. some f.bytes) (fold_option none (λ s. some (file_of d s)) o) ≡ o
    by i none = refl
    by i (some s) = refl

pub view-some : (d : List ℕ) (i : ℕ) (s : List ℕ) → directory d i ≡ some s → (view d).files i ≡ some (file_of d s)
unfolding view
view-some d i s e = ap (fold_option none (λ s. some (file_of d s))) e

pub view-none : (d : List ℕ) (i : ℕ) → directory d i ≡ none → (view d).files i ≡ none
unfolding view
view-none d i e = ap (fold_option none (λ s. some (file_of d s))) e

pub view-label : (d : List ℕ) → (view d).label ≡ label_of d
unfolding view
view-label d = refl

-- the number of tracks beyond four is the disk's
pub view_extra : (d : List ℕ) → view_tracks (view d) ≡ tracks_of d
unfolding view view_tracks tracks_of
view_extra d = refl

pub view-long : (d : List ℕ) → (view d).long ≡ length d
unfolding view
view-long d = refl

-- rows 10, 11 and 25 at a slot of a disk
pub chain-some : (d : List ℕ) (i : ℕ) (s : List ℕ) → directory d i ≡ some s → chain_at (view d) i ≡ chain_pass_reply (suc i) (file_of d s)
unfolding chain_at
chain-some d i s e = ap (fold_option none (chain_pass_reply (suc i))) (view-some d i s e)

pub chain-none : (d : List ℕ) (i : ℕ) → directory d i ≡ none → chain_at (view d) i ≡ none
unfolding chain_at
chain-none d i e = ap (fold_option none (chain_pass_reply (suc i))) (view-none d i e)

-- the same, with the slot's number as a loop has it
pub chain_met : (d : List ℕ) (i : ℕ) (s : List ℕ) → directory d i ≡ some s → chain_pass_reply (i + 1) (file_of d s) ≡ chain_at (view d) i
chain_met d i s e = ap (λ (n : ℕ). chain_pass_reply n (file_of d s)) (add-one i) ∙ sym (chain-some d i s e)

-- two disks of one length and label that agree on the directory and on the sectors of every live file have one view
pub view_agree : (d e : List ℕ) → length d ≡ length e → label_of d ≡ label_of e → directory d ≡ directory e
    → ((i : ℕ) (s : List ℕ) → directory d i ≡ some s → (b : ℕ) → has (map_of s) b ≡ true → sector_at d b ≡ sector_at e b) → view d ≡ view e
unfolding view
view_agree d e l b v h = λ q. record { long = l q; label = b q; files = λ i. (by i (directory d i) refl ∙ ap (fold_option none (λ s. some (file_of e s))) (ap (λ (v : Directory). v i) v)) q }
  where
    by : (i : ℕ) (o : Option (List ℕ)) → directory d i ≡ o → fold_option none (λ s. some (file_of d s)) o ≡ fold_option none (λ s. some (file_of e s)) o
    by i none q = refl
    by i (some s) q = ap {B = Option File} some (file_agree d e s (h i s q))

-- past the last live slot no row holds
pub chain-rest : (d : List ℕ) (i : ℕ) → i ≤ slots → (files seen : ℕ) → files ≡ live_among (directory d) slots → seen ≡ live_among (directory d) i → files ≤ seen
    → scan_from (slots - i) i (chain_at (view d)) ≡ none
chain-rest d i h files seen p q e = none-scan_from (slots - i) i (chain_at (view d)) (λ j l k. chain-none d j (among_rest (directory d) i slots h (omega arith) j l (omega arith)))
