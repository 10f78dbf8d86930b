-- What an erase-many's list names, and what a cut of it leaves.
use Prim.Native.Nat.{ℕ, ◌*◌, ◌%◌, ◌<◌}
use mathlib.Core.Path.{◌≡◌, refl, sym, ap, ◌∙◌, subst}
use mathlib.Core.Bool.{Bool, true, false, cond, ◌&&◌}
use mathlib.Core.List.{List}
use mathlib.Core.Option.{none, some-ne-none}
use borrow.Author.Tests.{lt-ltb}
use lib.Dec.{ltb}
use lib.ListN.{length, take}
use Rattle.buffers.specs.Bytes.{part}
use Rattle.buffers.proofs.Tests.{and_both}
use Rattle.slots.specs.Slot.{is_live}
use Rattle.chains.specs.File.{file_of}
use Rattle.directory.specs.Places.{slots, slot_bytes, dir_sector}
use Rattle.directory.specs.Directory.{slots_in, is_read}
use Rattle.directory.proofs.Ends.{seen-is}
use Rattle.directory.proofs.Live.{directory-live}
use Rattle.disk.specs.View.{View, view}
use Rattle.disk.specs.Check.{check_disk}
use Rattle.disk.proofs.View.{view-label, view-some}
use Rattle.disk.proofs.Accepted.{accepted_disk_only}
use Rattle.steps.specs.Sectors.{sector, is_listed, cut}
use Rattle.steps.proofs.Sectors.{cut_all}
use Rattle.plans.proofs.Frame.{disk-accepted, holds, slot_half}
use Rattle.erase_many.specs.EraseMany.{how_many, is_erased, sectors_with, erased_all, sectors_of_all}
use Rattle.erase_many.specs.EraseManyCut.{NamesChanged, CutLeaves}
use Rattle.erase_many.proofs.Cleared.{Lives, without, cleared-long, SlotsClearedTo, all_emptied, cleared-sector, cleared-none, cut-cleared}
use Rattle.erase_many.proofs.Listed.{rises, listed_slot, slot_listed}
use Rattle.erase_many.proofs.Meaning.{gone_was, gone_lives, Fewer, fewer_left, after_fewer}

module _ (d : List ℕ) (ok : check_disk d ≡ none) (new : List ℕ) (z : Fewer d new) where
  abbrev ss : List ℕ
  ss = sectors_with (is_erased d new)

  -- a slot that is gone is one of the directory's
  gone_in : (i : ℕ) → is_erased d new i ≡ true → i < slots_in d
  gone_in i e = let w = gone_was d new i e in (seen-is d i (holds d i w.file w.before).read).0

  gone-small : (i : ℕ) → is_erased d new i ≡ true → i < slots
  gone-small i e = let w = gone_was d new i e in (holds d i w.file w.before).here

  pub fewer_long : length new ≡ length d
  fewer_long = ap length z ∙ cleared-long d (is_erased d new) slots

  -- ---- the sectors named

  unnamed : (s : ℕ) → is_listed s ss ≡ false → sector new s ≡ sector d s
  unnamed s e =
      ap (λ (x : List ℕ). sector x s) z
      ∙ cleared-sector d (is_erased d new) (λ i. false) s (λ i q. dead i q (is_erased d new i) refl) slots
      ∙ ap (λ (x : List ℕ). sector x s) (cleared-none d (λ i. false) (λ i. refl) slots)
    where
      dead : (i : ℕ) → dir_sector i ≡ s → (t : Bool) → is_erased d new i ≡ t → t ≡ false
      dead i q true p = sym (sym e ∙ ap (λ (n : ℕ). is_listed n ss) (sym q) ∙ slot_listed (is_erased d new) i (gone-small i p) p)
      dead i q false p = refl

  -- a live slot that stays as it is would be live still
  changed : (i : ℕ) → is_erased d new i ≡ true → sector new (dir_sector i) ≡ sector d (dir_sector i) → ⊥
  changed i e q =
      let w = gone_was d new i e in
      let h = holds d i w.file w.before in
      let b : slot_bytes new i ≡ slot_bytes d i = sym (slot_half new i) ∙ ap (λ (x : List ℕ). part (256 * (i % 2)) 256 x) q ∙ slot_half d i in
      let l : is_live (slot_bytes new i) ≡ true = ap is_live (b ∙ h.bytes) ∙ h.alive in
      let r : is_read new i ≡ true = (fewer_left d ok new z).reads i ∙ h.read in
      some-ne-none (file_of new (slot_bytes new i)) (sym (view-some new i (slot_bytes new i) (directory-live new i r l)) ∙ w.now)

  pub names-changed : NamesChanged d new ss
  names-changed = record {
    rising = rises (is_erased d new);
    changed = λ s. (
      λ e q. let a = listed_slot (is_erased d new) s e in changed a.slot a.meant (ap (sector new) a.here ∙ q ∙ ap (sector d) (sym a.here)),
      λ n. or_not s (is_listed s ss) refl n,
    );
    directory = λ s e. let a = listed_slot (is_erased d new) s e in (a.slot, gone_in a.slot a.meant, a.here);
  }
    where
      or_not : (s : ℕ) (t : Bool) → is_listed s ss ≡ t → (sector new s ≡ sector d s → ⊥) → t ≡ true
      or_not s true q n = refl
      or_not s false q n = absurd (n (unnamed s q))

  -- ---- a cut

  -- the slots that are gone and lie in the first k sectors
  abbrev gone_by : ℕ → ℕ → Bool
  gone_by k i = is_erased d new i && is_listed (dir_sector i) (take k ss)

  lives_by : (k : ℕ) → Lives d (gone_by k)
  lives_by k i e = gone_lives d new i (and_both (is_erased d new i) (is_listed (dir_sector i) (take k ss)) e).0

  left : (k : ℕ) → SlotsClearedTo d (gone_by k) slots (cut d new ss k)
  left k =
      subst (SlotsClearedTo d (gone_by k) slots) (sym (ap (λ (x : List ℕ). cut d x ss k) z ∙ cut-cleared d (is_erased d new) ss k))
      (all_emptied d (disk-accepted d ok) (gone_by k) (lives_by k) slots)

  pub cut_leaves : (k : ℕ) → CutLeaves d new ss k
  unfolding check_disk without
  cut_leaves k = record {
    accepted = accepted_disk_only (view (cut d new ss k)) (left k).ok;
    files = λ i. ap (λ (l : View). l.files i) (left k).sees ∙ by i (gone_by k i) refl;
    label = sym (view-label (cut d new ss k)) ∙ ap (λ (l : View). l.label) (left k).sees ∙ view-label d;
    unread = (left k).reads;
  }
    where
      by : (i : ℕ) (t : Bool) → gone_by k i ≡ t → cond (t && ltb i slots) none ((view d).files i) ≡ cond t none ((view d).files i)
      by i true q = rw (lt-ltb i slots (gone-small i (and_both (is_erased d new i) (is_listed (dir_sector i) (take k ss)) q).0))
      by i false q = refl

  -- cut after the last it is the new disk
  pub cut-last : cut d new ss (length ss) ≡ new
  cut-last = cut_all d new ss fewer_long unnamed

-- ---- of the call

module _ (d : List ℕ) (ok : check_disk d ≡ none) (ns : List ℕ) where
  pub erase_many_fewer : Fewer d (erased_all d ns)
  erase_many_fewer = after_fewer d ok ns (how_many ns)

  pub erase_many-names : NamesChanged d (erased_all d ns) (sectors_of_all d ns)
  erase_many-names = names-changed d ok (erased_all d ns) erase_many_fewer

  pub erase_many-cut : (k : ℕ) → CutLeaves d (erased_all d ns) (sectors_of_all d ns) k
  erase_many-cut = cut_leaves d ok (erased_all d ns) erase_many_fewer
