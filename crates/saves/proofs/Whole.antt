-- The pieces that the code writes make the steps of a save.
use Prim.Native.Nat.{ℕ, suc, ◌+◌, ◌≤◌, ◌<◌}
use mathlib.Core.Path.{◌≡◌, sym, ap, ap₂, ◌∙◌}
use mathlib.Core.Bool.{Bool, true}
use mathlib.Core.List.{List, map, ◌++◌}
use native.Mathlib.Nat.{zero-add}
use native.Mathlib.Omega.{arith}
use lib.ListN.{length, take, length-map}
use Rattle.buffers.specs.Bytes.{part, put}
use Rattle.buffers.proofs.Lists.{put-append, put-over, part-put}
use Rattle.geometry.specs.Disk.{bit_number}
use Rattle.directory.specs.Places.{slots}
use Rattle.disk.specs.View.{View, view}
use Rattle.steps.specs.Steps.{Step, apply}
use Rattle.steps.proofs.Steps.{apply-append}
use Rattle.plans.specs.Change.{SaveRequest}
use Rattle.plans.specs.Saving.{stream, chain_sectors, map_with, new_slot}
use Rattle.plans.specs.Plan.{data_steps, dir_sectors, slot_steps, save_steps}
use Rattle.plans.proofs.Saved.{save-numbers, save-long}
use Rattle.changes.specs.ChangeCalls.{Applied}
use Rattle.allocation.specs.declared.HeaderFields.{HeaderFields}
use Rattle.allocation.specs.Taken.{lowest_clear_bits}
use Rattle.sector_writes.specs.declared.Link.{Link}
use Rattle.sector_writes.specs.Sector.{header, link_to_next}
use Rattle.sector_writes.proofs.Links.{stream-is}
use Rattle.slot_writes.specs.Filed.{slot_of, directory_sectors, slot_written}
use Rattle.slot_writes.proofs.Laws.{slot-new, dirs_are, filed_apply}
use Rattle.saves.specs.Write.{save_request_for, Writable, SaveReady}

-- ---- the image

module _ (s : HeaderFields) (name exec info body : List ℕ) where
  abbrev w : SaveRequest
  w = save_request_for s name exec info body

  -- steps that write data, and then the directory's part
  pub steps_filed : (old : Bool) (i : ℕ) (bs d : List ℕ) → 256 ≤ length d → Writable i old s body bs → {map slot : List ℕ} {first : Link} → map ≡ map_with bs
      → first ≡ link_to_next bs → slot ≡ slot_of d i s name exec info (length body) (length bs) first map
      → (sts : List (Step View)) {d' d'' : List ℕ} → d' ≡ apply d sts → d'' ≡ slot_written old i slot d' → (sec : ℕ → List ℕ)
      → d'' ≡ apply d (sts ++ slot_steps old (view d) i (new_slot (view d).label i w bs) sec)
  steps_filed old i bs d long k {map} {slot} em el es sts p r sec =
      let few : length bs < 65536 = omega (arith, k.bits.few) in
      let new : slot ≡ new_slot (view d).label i w bs =
      es ∙ ap₂ (λ (l : Link) (m : List ℕ). slot_of d i s name exec info (length body) (length bs) l m) el em ∙ slot-new d i w bs long k.plain few in
      r ∙ ap₂ (slot_written old i) new p ∙ filed_apply old i k.slot k.next (new_slot (view d).label i w bs) (apply d sts) (view d) sec
      ∙ sym (apply-append sts (slot_steps old (view d) i (new_slot (view d).label i w bs) sec) d)

  -- the data sectors of its chain
  pub file-written : (old : Bool) (i : ℕ) (bs d : List ℕ) → 256 ≤ length d → Writable i old s body bs → {map slot head d' d'' : List ℕ} {first : Link} → map ≡ map_with bs
      → first ≡ link_to_next bs → slot ≡ slot_of d i s name exec info (length body) (length bs) first map → head ≡ header s (length body)
      → d' ≡ apply d (data_steps (head ++ body) 0 bs) → d'' ≡ slot_written old i slot d' → d'' ≡ apply d (save_steps old (view d) i w bs)
  file-written old i bs d long k em el es eh p r =
      steps_filed old i bs d long k em el es (data_steps (stream w) 0 bs)
      (p ∙ ap (λ (st : List ℕ). apply d (data_steps st 0 bs)) (ap (λ (x : List ℕ). x ++ body) eh ∙ stream-is w k.plain)) r (chain_sectors (stream w) 0 bs)

-- ---- the list

-- the bits at its front
pub bits-front : (buf bs l : List ℕ) (n : ℕ) → length bs ≡ n → n ≤ length buf → l ≡ put buf 0 bs → take n l ≡ bs
unfolding part
bits-front buf bs l n e h p =
    ap₂ (λ (k : ℕ) (x : List ℕ). take k x) (sym e) p ∙ part-put buf 0 bs (omega arith)

-- what the writing of the file is entered with
pub front_writable : (m : List ℕ) (n i : ℕ) (old : Bool) (s : HeaderFields) (body buf : List ℕ) → SaveReady m n i old s body buf → (l : List ℕ) → l ≡ put buf 0 (lowest_clear_bits m n)
    → Writable i old s body (take n l)
front_writable m n i old s body buf w l p = rw (bits-front buf (lowest_clear_bits m n) l n w.enough (omega (arith, w.room)) p) w.file

pub saved-is : (old : Bool) (l : View) (i : ℕ) (w : SaveRequest) (bs d buf d' : List ℕ) (n : ℕ) → length bs ≡ n → n + length (dir_sectors old i) ≤ length buf
    → (l₁ l₂ l₃ : List ℕ) → l₁ ≡ put buf 0 bs → d' ≡ apply d (save_steps old l i w (take n l₁)) → l₂ ≡ put l₁ 0 (map bit_number (take n l₁))
    → l₃ ≡ put l₂ n (directory_sectors old i) → i < slots → (old ≡ true → suc i < slots) → Applied (save_steps old l i w bs) d buf d' l₃ (n + length (dir_sectors old i))
saved-is old l i w bs d buf d' n e h l₁ l₂ l₃ p q r z b c =
    let f : take n l₁ ≡ bs = bits-front buf bs l₁ n e (omega arith) p in
    let m : length (map bit_number bs) ≡ n = length-map bs bit_number ∙ e in
    let g : l₂ ≡ put buf 0 (map bit_number bs) =
    r ∙ ap₂ (λ (x y : List ℕ). put x 0 (map bit_number y)) p f ∙ put-over buf 0 bs (map bit_number bs) (sym (length-map bs bit_number)) in
    record {
      many = sym (save-long old l i w bs ∙ ap (λ (k : ℕ). k + length (dir_sectors old i)) e);
      image = q ∙ ap (λ (x : List ℕ). apply d (save_steps old l i w x)) f;
      list = z ∙ ap (put l₂ n) (dirs_are old i b c) ∙ ap₂ (λ (x : List ℕ) (k : ℕ). put x k (dir_sectors old i)) g (sym m ∙ sym (zero-add (length (map bit_number bs)))) ∙ put-append buf 0 (map bit_number bs) (dir_sectors old i)
          ∙ ap (put buf 0) (sym (save-numbers old l i w bs));
    }
