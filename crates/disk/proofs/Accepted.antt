-- The check accepts exactly the accepted disks.
use Prim.Native.Nat.{ℕ, ◌+◌, ◌-◌, ◌*◌, ◌≤◌, ◌<◌}
use mathlib.Core.Path.{◌≡◌, refl, sym, ap, ◌∙◌}
use mathlib.Core.Bool.{Bool, true, false, false≢true}
use mathlib.Core.List.{List}
use mathlib.Core.Logic.{inl, inr, ⊎_elim}
use mathlib.Core.Option.{Option, none, some}
use native.Mathlib.Omega.{arith}
use lib.ListN.{get_or, length}
use Rattle.buffers.proofs.Lists.{length_part}
use Rattle.buffers.proofs.Counts.{any_none, none_any}
use Rattle.geometry.proofs.Laws.{bit_data}
use Rattle.maps.specs.Bits.{has, share}
use Rattle.maps.proofs.Laws.{share-none, none-share}
use Rattle.refusals.specs.Order.{RowsClear}
use Rattle.slots.specs.Slot.{kind_of, readable, slot_fields, map_of, name_of, count_of, first_of}
use Rattle.names.specs.Name.{same_name, Same}
use Rattle.slots.specs.Rows.{own}
use Rattle.slots.proofs.KindLaws.{carried_not, read_either}
use Rattle.names.proofs.Names.{not_same}
use Rattle.chains.specs.File.{File}
use Rattle.chains.proofs.Laws.{map-small}
use Rattle.chains.proofs.Whole.{whole, of_whole}
use Rattle.headers.specs.Header.{chain_pass_rows, file_length}
use Rattle.headers.proofs.Laws.{length-header, length-slot}
use Rattle.directory.specs.Places.{slots}
use Rattle.directory.specs.Directory.{fold_option}
use Rattle.surveys.specs.Survey.{earlier, shared_rows}
use Rattle.disk.specs.View.{View, view_slots, view_tracks}
use Rattle.disk.specs.Check.{check_view}
use Rattle.disk.specs.Accepted.{HasSectors, AcceptedFile, AcceptedDisk}
use Rattle.disk.proofs.Order.{NoRowHolds, accepted, accepted-only}
use Rattle.disk.proofs.Rows.{carried-is, spectrum-is, OwnRowsClear, own_clear, clear_own, ChainRowsClear, later_clear, clear_later, clear_parts, parts_clear}

map-few : (s : List ℕ) → length (slot_fields s).map ≤ 195
unfolding slot_fields
map-few s = omega (arith, length_part 15 195 s)

-- ---- one file

good : (n : ℕ) (f : File) → OwnRowsClear n f.bytes → RowsClear (chain_pass_rows (slot_fields f.bytes) f.sectors) → AcceptedFile n f
unfolding slot_fields
good n f o c =
    let h = later_clear f.bytes f.sectors c in
    record {
      kind = o.kind;
      sectors = ⊎_elim inl (λ a. inr (a.0, with_sectors h a.0 a.1 a.2)) o.sectors;
      few-sectors = o.few-sectors;
      bits = o.bits;
      data_bits = o.data_bits;
      fits = o.fits;
      header = h.header;
      spectrum-fits = h.long;
    }
  where
    with_sectors : ChainRowsClear f.bytes f.sectors → (kind_of f.bytes ≡ 21 → ⊥) → 1 ≤ count_of f.bytes → has (map_of f.bytes) (first_of f.bytes) ≡ true → HasSectors f
    with_sectors h k n first = record {
      some-sectors = n;
      first_data = bit_data (get_or f.bytes 13 0) (get_or f.bytes 14 0) (map-small f.bytes (first_of f.bytes) first);
      first-own = first;
      chain = whole (slot_fields f.bytes) f.sectors (map-few f.bytes) n (h.whole k);
    }

accepted-own : (n : ℕ) (f : File) → AcceptedFile n f → OwnRowsClear n f.bytes
accepted-own n f g = record {
  kind = g.kind;
  sectors = ⊎_elim inl (λ a. inr (a.0, a.1.some-sectors, a.1.first-own)) g.sectors;
  few-sectors = g.few-sectors;
  bits = g.bits;
  data_bits = g.data_bits;
  fits = g.fits;
}

accepted-later : (n : ℕ) (f : File) → AcceptedFile n f → RowsClear (chain_pass_rows (slot_fields f.bytes) f.sectors)
unfolding slot_fields
accepted-later n f g =
    clear_later f.bytes f.sectors
    (record {
      whole = λ k. ⊎_elim (λ a. absurd (k a.0))
          (λ a. of_whole (slot_fields f.bytes) f.sectors (map-few f.bytes) a.1.some-sectors a.1.chain) g.sectors;
      header = g.header;
      long = g.spectrum-fits;
    })

-- the sectors of a file that can be read hold its nine bytes and its body
pub body-fits : (n : ℕ) (f : File) → AcceptedFile n f → readable (kind_of f.bytes) ≡ true → 9 + file_length f ≤ 510 * count_of f.bytes
body-fits n f g r =
    ⊎_elim
    (λ e. rw (length-slot f (carried_not (kind_of f.bytes) e)) (g.fits (carried-is (kind_of f.bytes) e)))
    (λ e. rw (length-header f e) (g.spectrum-fits (spectrum-is (kind_of f.bytes) e)))
    (read_either (kind_of f.bytes) r)

-- ---- two files

module _ (l : View) where
  there : (j : ℕ) (g : File) → l.files j ≡ some g → view_slots l j ≡ some g.bytes
  unfolding view_slots
  there j g q = ap (fold_option none (λ f. some f.bytes)) q

  earlier-none : (i : ℕ) (t : List ℕ → Bool) → earlier (view_slots l) i t ≡ false → (j : ℕ) (g : File) → j < i → l.files j ≡ some g → t g.bytes ≡ false
  unfolding earlier
  earlier-none i t e j g h q = sym (ap (fold_option false t) (there j g q)) ∙ any_none i (λ j. fold_option false t (view_slots l j)) e j h

  none-earlier : (i : ℕ) (t : List ℕ → Bool) → ((j : ℕ) (g : File) → j < i → l.files j ≡ some g → t g.bytes ≡ false) → earlier (view_slots l) i t ≡ false
  unfolding earlier view_slots
  none-earlier i t h = none_any i (λ j. fold_option false t (view_slots l j)) (λ j k. by j k (l.files j) refl)
    where
      by : (j : ℕ) → j < i → (o : Option File) → l.files j ≡ o → fold_option false t (fold_option none (λ f. some f.bytes) o) ≡ false
      by j k none q = refl
      by j k (some g) q = h j g k q

differ : (a b : List ℕ) → same_name a b ≡ false → Same a b → ⊥
differ a b e p = false≢true (sym e ∙ p)

-- ---- the whole disk

pub accepted-disk : (l : View) → check_view l ≡ none → AcceptedDisk l
accepted-disk l e = record {
  long = a.long;
  tracks = a.tracks;
  accepted = λ i f h q. good (view_tracks l) f (own_clear (view_tracks l) f.bytes (parts i f h q).0) (a.chains i f h q);
  sectors = λ i j f g k h q p. share-none (map_of g.bytes) (map_of f.bytes) (earlier-none l i (λ t. share (map_of t) (map_of f.bytes)) (parts i f h q).1.0 j g k p);
  names = λ i j f g k h q p. differ (name_of g.bytes) (name_of f.bytes) (earlier-none l i (λ t. same_name (name_of t) (name_of f.bytes)) (parts i f h q).1.1.0 j g k p);
}
  where
    a : NoRowHolds false l
    a = accepted l e

    parts : (i : ℕ) (f : File) → i < slots → l.files i ≡ some f → RowsClear (own (view_tracks l) (slot_fields f.bytes)) × RowsClear (shared_rows (view_slots l) i f.bytes)
    parts i f h q = clear_parts (own (view_tracks l) (slot_fields f.bytes)) (shared_rows (view_slots l) i f.bytes) (a.survey i f h q)

pub accepted_disk_only : (l : View) → AcceptedDisk l → check_view l ≡ none
accepted_disk_only l w =
    accepted-only l
    (record {
      long = w.long;
      tracks = w.tracks;
      survey = λ i f h q.
          parts_clear (own (view_tracks l) (slot_fields f.bytes)) (shared_rows (view_slots l) i f.bytes)
          (clear_own (view_tracks l) f.bytes (accepted-own (view_tracks l) f (w.accepted i f h q))) (
            none-earlier l i (λ t. share (map_of t) (map_of f.bytes)) (λ j g k p. none-share (map_of g.bytes) (map_of f.bytes) (w.sectors i j f g k h q p)),
            (
              none-earlier l i (λ t. same_name (name_of t) (name_of f.bytes)) (λ j g k p. not_same (name_of g.bytes) (name_of f.bytes) (w.names i j f g k h q p)),
              tt,
            ),
          );
      chains = λ i f h q. accepted-later (view_tracks l) f (w.accepted i f h q);
    })
