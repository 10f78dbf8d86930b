-- The pieces that the code writes make the steps of a close.
use Prim.Native.Nat.{ℕ, suc, ◌+◌, ◌≤◌, ◌<◌}
use mathlib.Core.Path.{◌≡◌, sym, ap, ap₂, ◌∙◌, subst}
use mathlib.Core.Bool.{Bool, true}
use mathlib.Core.List.{List, ◌++◌}
use native.Mathlib.Nat.{zero-add}
use native.Mathlib.Omega.{arith}
use lib.ListN.{length, get_or, take, length-append}
use Rattle.buffers.specs.Bytes.{put}
use Rattle.buffers.proofs.Lists.{put-append}
use Rattle.slots.proofs.Least.{sectors-some}
use Rattle.chains.specs.File.{sectors_of}
use Rattle.directory.specs.Places.{slots}
use Rattle.disk.specs.View.{view}
use Rattle.steps.specs.Steps.{apply, numbers}
use Rattle.steps.proofs.Steps.{numbers-append}
use Rattle.plans.specs.Change.{SaveRequest}
use Rattle.plans.specs.Saving.{map_with, new_slot}
use Rattle.plans.specs.Plan.{dir_sectors}
use Rattle.plans.proofs.Ended.{dir_numbers_lem}
use Rattle.changes.specs.ChangeCalls.{Applied}
use Rattle.allocation.specs.declared.HeaderFields.{HeaderFields}
use Rattle.allocation.specs.Taken.{lowest_clear_bits}
use Rattle.sector_writes.specs.declared.Link.{Link}
use Rattle.sector_writes.specs.Sector.{header_fields_of, link_to_bit}
use Rattle.sector_writes.proofs.Links.{to_some}
use Rattle.slot_writes.specs.Filed.{slot_of, directory_sectors, slot_written}
use Rattle.slot_writes.proofs.Laws.{dirs_are}
use Rattle.saves.specs.Write.{Bits}
use Rattle.saves.proofs.Whole.{steps_filed, bits-front}
use Rattle.recordings.specs.declared.Record.{Record}
use Rattle.recordings.specs.Record.{recording_of}
use Rattle.recordings.specs.Recording.{close_data, close_steps}
use Rattle.record_close.specs.Close.{request_of, end_sectors, end_numbers, RecordingChain, Closable, CloseReady}
use Rattle.record_close.proofs.Ends.{body-long, ends-numbers, ends-long}

-- ---- the image

pub chained_of : (i : ℕ) (old : Bool) (k : Record) (bs : List ℕ) → Closable i old k bs → RecordingChain k bs
chained_of i old k bs c = record { bits = c.file.bits; enough = c.enough; plain = c.file.plain }

pub chained_some : (k : Record) (bs : List ℕ) → RecordingChain k bs → 1 ≤ length bs
chained_some k bs c = omega (arith, c.enough, sectors-some (length (request_of k).body))

-- the ends of the chain, and then the directory's part
pub recording_written : (i : ℕ) (old : Bool) (k : Record) (bs d : List ℕ) → 256 ≤ length d → Closable i old k bs → {map slot d' d'' : List ℕ} {first : Link} {s : HeaderFields} → map ≡ map_with bs
    → first ≡ link_to_bit (get_or bs 0 0) → s ≡ header_fields_of (request_of k) → slot ≡ slot_of d i s k.name k.exec k.info k.long (length bs) first map
    → d' ≡ apply d (close_data (request_of k) bs) → d'' ≡ slot_written old i slot d' → d'' ≡ apply d (close_steps old d i (request_of k) bs)
unfolding recording_of
recording_written i old k bs d long c {map} {slot} {first = first} em el es e p r =
    let w : SaveRequest = request_of k in
    let few : 0 < length bs = chained_some k bs (chained_of i old k bs c) in
    steps_filed (header_fields_of w) w.name w.exec w.info w.body old i bs d long c.file em (to_some bs 0 few (c.file.bits.small 0 few) first el)
    (e ∙ ap₂ (λ (s : HeaderFields) (n : ℕ). slot_of d i s k.name k.exec k.info n (length bs) first map) es (sym (body-long k)))
    (close_data w bs) p r (sectors_of (apply d (close_data w bs)) (new_slot (view d).label i w bs))

-- ---- the list

close_numbers : (old : Bool) (d : List ℕ) (i : ℕ) (w : SaveRequest) (bs : List ℕ) → 1 ≤ length bs → numbers (close_steps old d i w bs) ≡ end_numbers bs ++ dir_sectors old i
close_numbers old d i w bs h = numbers-append (close_data w bs) _ ∙ ap₂ ◌++◌ (ends-numbers w bs h) (dir_numbers_lem old i (view d) 0 _ _)

pub close_long : (old : Bool) (d : List ℕ) (i : ℕ) (w : SaveRequest) (bs : List ℕ) → 1 ≤ length bs → length (numbers (close_steps old d i w bs)) ≡ end_sectors (length bs) + length (dir_sectors old i)
close_long old d i w bs h =
    ap length (close_numbers old d i w bs h) ∙ length-append (end_numbers bs) (dir_sectors old i) ∙ ap (λ (n : ℕ). n + length (dir_sectors old i)) (ends-long bs)

closed_is : (old : Bool) (d : List ℕ) (i : ℕ) (w : SaveRequest) (bs buf d' : List ℕ) (n : ℕ) → length bs ≡ n → 1 ≤ n → (z : ℕ) → z ≡ end_sectors n → (l₁ l₂ : List ℕ)
    → d' ≡ apply d (close_steps old d i w bs) → l₁ ≡ put buf 0 (end_numbers bs) → l₂ ≡ put l₁ z (directory_sectors old i) → i < slots → (old ≡ true → suc i < slots)
    → Applied (close_steps old d i w bs) d buf d' l₂ (end_sectors n + length (dir_sectors old i))
closed_is old d i w bs buf d' n e h z ez l₁ l₂ q p r b c =
    let few : 1 ≤ length bs = omega arith in
    record {
      many = sym (close_long old d i w bs few ∙ ap (λ (n : ℕ). end_sectors n + length (dir_sectors old i)) e);
      image = q;
      list = r ∙ ap (put l₁ z) (dirs_are old i b c)
          ∙ ap₂ (λ (x : List ℕ) (k : ℕ). put x k (dir_sectors old i)) p (ez ∙ ap end_sectors (sym e) ∙ sym (ends-long bs) ∙ sym (zero-add (length (end_numbers bs))))
          ∙ put-append buf 0 (end_numbers bs) (dir_sectors old i) ∙ ap (put buf 0) (sym (close_numbers old d i w bs few));
    }

-- the chain at the front of the code's array
module _ (m : List ℕ) (n i : ℕ) (old : Bool) (k : Record) (buf : List ℕ) (c : CloseReady m n i old k buf) (a l : List ℕ) (e : length a ≡ 1560) (p : l ≡ put a 0 (lowest_clear_bits m n)) where
  many-bits : length (lowest_clear_bits m n) ≡ n
  many-bits = c.file.enough ∙ sym c.sectors

  pub few_bits : n ≤ 1560
  few_bits = omega (arith, c.file.file.bits.few, many-bits)

  front : take n l ≡ lowest_clear_bits m n
  front = bits-front a (lowest_clear_bits m n) l n many-bits (omega (arith, few_bits)) p

  pub front_long : n ≡ length (take n l)
  front_long = sym (ap length front ∙ many-bits)

  pub front_closable : Closable i old k (take n l)
  front_closable = subst (Closable i old k) (sym front) c.file

  front-some : 1 ≤ length (take n l)
  front-some = chained_some k (take n l) (chained_of i old k (take n l) front_closable)

  pub front_ends : Bits (take n l) × (1 ≤ length (take n l)) × (end_sectors (length (take n l)) ≤ length buf)
  front_ends = (front_closable.file.bits, front-some, subst (λ (x : ℕ). end_sectors x ≤ length buf) front_long (omega (arith, c.room)))

  -- the image written along it, and the list
  pub closed-made : (d d' l₁ l₂ : List ℕ) → d' ≡ apply d (close_steps old d i (request_of k) (take n l)) → l₁ ≡ put buf 0 (end_numbers (take n l)) → (z : ℕ) → z ≡ end_sectors n
      → l₂ ≡ put l₁ z (directory_sectors old i) → Applied (close_steps old d i (request_of k) (lowest_clear_bits m n)) d buf d' l₂ (end_sectors n + length (dir_sectors old i))
  closed-made d d' l₁ l₂ q r z ez t =
      subst (λ (bs : List ℕ). Applied (close_steps old d i (request_of k) bs) d buf d' l₂ (end_sectors n + length (dir_sectors old i))) front
      (closed_is old d i (request_of k) (take n l) buf d' n (sym front_long) (omega (arith, front_long, front-some)) z ez l₁ l₂ q r t c.file.file.slot c.file.file.next)
