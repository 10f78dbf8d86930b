-- An accepted gather: every answer stays, the file lies in order on the lowest run, and it is left when gathered again.
use Prim.Native.Nat.{ℕ, ◌+◌, ◌*◌, ◌/◌, ◌%◌, ◌≤◌, ◌<◌}
use mathlib.Core.Path.{◌≡◌, refl, sym, ap, ap₂, ◌∙◌, subst}
use mathlib.Core.Bool.{Bool, true, false, cond}
use mathlib.Core.List.{List, []}
use mathlib.Core.Logic.{◌⊎◌, inl, inr, ⊎_elim}
use mathlib.Core.Option.{Option, none, some, some-injective}
use native.Mathlib.Decide.{ℕ_discrete}
use native.Mathlib.Omega.{arith}
use borrow.Author.Tests.{le-ltb}
use lib.Dec.{eqb}
use lib.ListN.{length, get_or}
use Rattle.buffers.specs.Bytes.{tab}
use Rattle.buffers.proofs.Lists.{below_or_not, tab_cong, length_part, put-before, put-after}
use Rattle.maps.specs.Bits.{has}
use Rattle.slots.specs.Slot.{spectrum, directory_kind, is_directory, name_of, kind_of, count_of, first_of, map_of, page_of, offset_of, slot_fields}
use Rattle.names.specs.Name.{askable, padded}
use Rattle.names.proofs.Names.{same_of}
use Rattle.chains.specs.File.{File, sector_at}
use Rattle.chains.specs.Chain.{chain_bit}
use Rattle.chains.proofs.Laws.{sectors_else, map-small}
use Rattle.headers.specs.Header.{body_byte, file_length, body}
use Rattle.directory.specs.Places.{slot_at}
use Rattle.directory.specs.Directory.{fold_option, tracks_of, directory}
use Rattle.surveys.specs.Survey.{free}
use Rattle.disk.specs.View.{View, view, view_slots, view_tracks}
use Rattle.disk.proofs.View.{view-slots, view_extra}
use Rattle.disk.specs.Check.{check_disk}
use Rattle.disk.specs.Accepted.{AcceptedDisk}
use Rattle.files.specs.Calls.{no_file, file_at, address, file_start}
use Rattle.steps.specs.Sectors.{is_listed}
use Rattle.steps.specs.Steps.{apply, numbers}
use Rattle.steps.proofs.Sectors.{at-sector}
use Rattle.steps.proofs.Steps.{goes_long, goes_other}
use Rattle.plans.specs.Change.{gather}
use Rattle.plans.specs.Saving.{free_bit}
use Rattle.plans.specs.Gathering.{scattered, up_from, payload_of, chain_fields}
use Rattle.plans.specs.Plan.{with_slot, data_steps, gather_steps, move_plan, plan_of, new_disk, run_change}
use Rattle.plans.specs.Allowed.{NamedSlot}
use Rattle.plans.specs.After.{SameAnswers}
use Rattle.plans.specs.Gathered.{InOrder, run_sectors, MovedTo, AfterGather}
use Rattle.plans.proofs.Frame.{disk-accepted, upd_other, extra_upd, holds, holds-long, holds-sector}
use Rattle.plans.proofs.Kept.{accepted-apart, accepted-long}
use Rattle.plans.proofs.Named.{found_here}
use Rattle.plans.proofs.Free.{Run, unused-free}
use Rattle.plans.proofs.Runs.{up_long, up_at, up_listed, listed_up, free-rises, in_order, not_order}
use Rattle.plans.proofs.NewFile.{listed_at, chained_else}
use Rattle.plans.proofs.AcceptedFile.{whole_of, chained_along}
use Rattle.plans.proofs.Laid.{data_numbers, laid_unused, laid_goes}
use Rattle.plans.proofs.Past.{unmapped, whole_past}
use Rattle.plans.proofs.Moved.{placed-long, gathered-file, after, kind-now, count-now, name-now, length-now, has-sectors, some_bits, now-names, now-byte, now-first, now-linked, now_head, now-map, gather-disk}
use Rattle.plans.proofs.SafeSteps.{not_kind_21}
use Rattle.plans.proofs.Effect.{Shifted, Gathers, gathers}
use Rattle.plans.proofs.Demand3.{change-accepted, run_room}
use Rattle.plans.proofs.Others.{SameContents}
use Rattle.plans.proofs.After.{freed-count, cond_equal, swap_here, swap_answers, swap_find}

-- ---- reading it

module _ (d : List ℕ) (w : AcceptedDisk (view d)) (i : ℕ) (f : File) (e : (view d).files i ≡ some f) (other : kind_of f.bytes ≡ 21 → ⊥)
    (bs : List ℕ) (r : Run (free_bit (view_tracks (view d)) (view_slots (view d))) 0 bs) (n : length bs ≡ count_of f.bytes) where
  abbrev now : File
  now = gathered-file f bs

  long : length f.bytes ≡ 256
  long = holds-long d i f e (accepted-long d w)

  -- past either chain there is no sector
  was_none : f.sectors 1560 ≡ []
  was_none = ap (λ (x : ℕ → List ℕ). x 1560) (sym (holds d i f e).sectors) ∙ sectors_else d f.bytes 1560 (unmapped f.bytes)

  now-none : now.sectors 1560 ≡ []
  now-none = chained_else (payload_of f) 0 1560 bs (sym (now-map d w i f e other bs r n 1560) ∙ unmapped now.bytes)

  was_past : (k : ℕ) → length bs ≤ k → chain_bit f.sectors (first_of f.bytes) k ≡ 1560
  unfolding slot_fields
  was_past k h =
      let s = has-sectors d w i f e other in
      whole_past (slot_fields f.bytes) f.sectors s.some-sectors (omega (arith, length_part 15 195 f.bytes)) s.chain was_none k (omega (arith, n))

  now_past : (k : ℕ) → length bs ≤ k → chain_bit now.sectors (first_of now.bytes) k ≡ 1560
  unfolding slot_fields
  now_past k h =
      let c = count-now f bs long in
      let s = some_bits d w i f e other bs r n in
      whole_past (slot_fields now.bytes) now.sectors (omega (arith, c, n)) (omega (arith, length_part 15 195 now.bytes))
      (whole_of (free_bit (view_tracks (view d)) (view_slots (view d))) now.bytes bs r s (now-names d w i f e other bs r n) now.sectors
      (chained_along (payload_of f) (free_bit (view_tracks (view d)) (view_slots (view d))) bs r)) now-none k (omega (arith, c, n))

  now-body : (k : ℕ) → body_byte now k ≡ body_byte f k
  unfolding body_byte slot_fields
  now-body k = ⊎_elim inside past (below_or_not ((9 + k) / 510) (length bs))
    where
      inside : (9 + k) / 510 < length bs → body_byte now k ≡ body_byte f k
      inside h =
          ap (λ (b : ℕ). get_or (now.sectors b) ((9 + k) % 510) 0) (now-linked d w i f e other bs r n ((9 + k) / 510) h)
          ∙ now-byte d w i f e other bs r n ((9 + k) / 510) h ((9 + k) % 510) (omega arith)

      past : length bs ≤ (9 + k) / 510 → body_byte now k ≡ body_byte f k
      past h =
          ap (λ (b : ℕ). get_or (now.sectors b) ((9 + k) % 510) 0) (now_past ((9 + k) / 510) h)
          ∙ ap (λ (x : List ℕ). get_or x ((9 + k) % 510) 0) (now-none ∙ sym was_none)
          ∙ sym (ap (λ (b : ℕ). get_or (f.sectors b) ((9 + k) % 510) 0) (was_past ((9 + k) / 510) h))

  -- the bytes of the header
  head : (k : ℕ) → k < 510 → get_or (now.sectors (first_of now.bytes)) k 0 ≡ get_or (f.sectors (first_of f.bytes)) k 0
  head k h = ap (λ (b : ℕ). get_or (now.sectors b) k 0) (now-first d w i f e other bs r n) ∙ now_head d w i f e other bs r n k h

  -- reading and the start address say the same of both, of every kind that has sectors
  pub now_alike : SameContents (gathered-file f bs) f
  unfolding slot_fields file_length file_start body
  now_alike =
      let k = kind-now f bs long in
      let o : offset_of now.bytes ≡ offset_of f.bytes = rw (after f bs long 237 (omega arith), after f bs long 238 (omega arith)) in
      let p : page_of now.bytes ≡ page_of f.bytes = rw (after f bs long 236 (omega arith)) in
      let l : file_length now ≡ file_length f =
      cond_equal (spectrum (kind_of now.bytes)) (spectrum (kind_of f.bytes)) _ _ _ _ (ap spectrum k) (ap₂ (λ (a b : ℕ). a + 256 * b) (head 1 (omega arith)) (head 2 (omega arith)))
      (length-now f bs long) in
      record {
        kind = k;
        long = l;
        bodies = tab_cong (file_length now) (body_byte now) (body_byte f) (λ j h. now-body j) ∙ ap (λ (n : ℕ). tab n (body_byte f)) l;
        offset = o;
        start = cond_equal (spectrum (kind_of now.bytes)) (spectrum (kind_of f.bytes)) _ _ _ _ (ap spectrum k)
            (ap₂ (λ (a b : ℕ). a + 256 * b) (head 3 (omega arith)) (head 4 (omega arith))) (ap₂ address p o);
      }

-- ---- a file that is left

-- whatever room the list has
left_alone : (d n : List ℕ) → check_disk d ≡ none → askable n ≡ true → (i : ℕ) (f : File) → NamedSlot d n i f → is_directory f.bytes ≡ false → scattered f ≡ false
    → (room : ℕ) → run_change (gather n) d room ≡ new_disk d []
unfolding run_change plan_of move_plan numbers apply
left_alone d n ok a i f w q s room =
    let z : file_at (view d) i ≡ f = ap (fold_option no_file (λ f. f)) w.here in
    rw (ok, a, found_here (view d) (disk-accepted d ok) n i f w.below w.here w.name, z, q, s, le-ltb room 0 (omega arith))

-- ---- a file that has moved

-- a slot of a view changed twice
upd_again : (l : View) (i : ℕ) (o p : Option File) → with_slot (with_slot l i o) i p ≡ with_slot l i p
unfolding with_slot
upd_again l i o p = λ z. record { long = l.long; label = l.label; files = λ j. by j (eqb j i) z }
  where
    by : (j : ℕ) (t : Bool) → cond t p (cond t o (l.files j)) ≡ cond t p (l.files j)
    by j true = refl
    by j false = refl

module _ (d n : List ℕ) (ok : check_disk d ≡ none) (new ss : List ℕ) (i : ℕ) (f : File) (found : NamedSlot d n i f) (other : kind_of f.bytes ≡ 21 → ⊥)
    (a : Shifted d i f new ss) where
  abbrev count : ℕ
  count = count_of f.bytes

  abbrev bs : List ℕ
  bs = up_from (count_of f.bytes) a.bit

  abbrev then : File
  then = gathered-file f bs

  ds : AcceptedDisk (view d)
  ds = disk-accepted d ok

  rises : Run (free_bit (view_tracks (view d)) (view_slots (view d))) 0 bs
  rises = free-rises d count a.bit a.lowest.here

  many : length bs ≡ count
  many = up_long count a.bit

  slot-long : length f.bytes ≡ 256
  slot-long = holds-long d i f found.here (accepted-long d ds)

  here : (view new).files i ≡ some then
  here = swap_here d new i f then found.here a.seen

  same_name : name_of then.bytes ≡ name_of f.bytes
  same_name = name-now f bs slot-long

  alike : SameContents then f
  alike = now_alike d ds i f found.here other bs rises many

  named : NamedSlot new n i then
  named = record { below = found.below; here = here; name = same_of same_name (padded n) found.name }

  first-is : first_of then.bytes ≡ a.bit
  first-is =
      let s = some_bits d ds i f found.here other bs rises many in
      now-first d ds i f found.here other bs rises many ∙ up_at count a.bit 0 (omega (arith, s, many)) ∙ omega arith

  count-is : count_of then.bytes ≡ count
  count-is = count-now f bs slot-long

  ordered : InOrder then
  ordered k h =
      let q : k < count = omega (arith, count-is) in
      now-linked d ds i f found.here other bs rises many k (omega (arith, many)) ∙ up_at count a.bit k q ∙ ap (λ (x : ℕ). x + k) (sym first-is)

  -- the disk after the data
  abbrev mid : List ℕ
  mid = apply d (data_steps (payload_of f) 0 bs)

  mid_byte : (k : ℕ) → is_listed (k / 512) (run_sectors count a.bit) ≡ false → get_or mid k 0 ≡ get_or d k 0
  mid_byte k u =
      sym (at-sector mid k)
      ∙ ap (λ (x : List ℕ). get_or x (k % 512) 0)
      (goes_other view AcceptedDisk (data_steps (payload_of f) 0 bs) d (laid_goes d ds (payload_of f) bs rises) (k / 512) (ap (is_listed (k / 512)) (data_numbers (payload_of f) 0 bs) ∙ u))
      ∙ at-sector d k

  payload-now : (k : ℕ) → k < count → (j : ℕ) → j < 510
      → get_or (sector_at new (a.bit + k)) j 0 ≡ get_or (f.sectors (chain_bit f.sectors (first_of f.bytes) k)) j 0
  payload-now k h j q =
      let u : k < length bs = omega (arith, many) in
      let b : get_or bs k 0 ≡ a.bit + k = up_at count a.bit k h in
      let v : has (map_of then.bytes) (a.bit + k) ≡ true =
      now-map d ds i f found.here other bs rises many (a.bit + k) ∙ ap (λ (x : ℕ). is_listed x bs) (sym b) ∙ listed_at bs k u in
      ap (λ (x : List ℕ). get_or x j 0) (holds-sector new i then here (a.bit + k) v) ∙ ap (λ (x : ℕ). get_or (then.sectors x) j 0) (sym b)
      ∙ now-byte d ds i f found.here other bs rises many k u j q

  -- its old sectors are free
  freed : check_disk new ≡ none → (c : ℕ) → has (map_of f.bytes) c ≡ true → free_bit (tracks_of new) (directory new) c ≡ true
  freed now c m =
      rw (← view-slots new, ← view_extra new)
      (unused-free new c
      (rw (sym (view_extra new) ∙ ap view_tracks a.seen ∙ extra_upd (view d) i (some then)) ((ds.accepted i f found.below found.here).data_bits c m))
      (λ j g q u. by j g q u (ℕ_discrete j i)))
    where
      by : (j : ℕ) (g : File) → (view new).files j ≡ some g → has (map_of g.bytes) c ≡ true → Dec (j ≡ i) → ⊥
      by j g q u (yes z) =
          let e : then ≡ g = some-injective then g (sym here ∙ ap (view new).files (sym z) ∙ q) in
          laid_unused d ds (payload_of f) bs rises c i f
          (sym (now-map d ds i f found.here other bs rises many c) ∙ ap (λ (x : File). has (map_of x.bytes) c) e ∙ u) found.here m
      by j g q u (no z) =
          let s : (view d).files j ≡ some g = sym (upd_other (view d) i (some then) j z) ∙ ap (λ (l : View). l.files j) (sym a.seen) ∙ q in
          (accepted-apart (view d) ds i j f g found.below (holds d j g s).here z found.here s).sectors c (map-small f.bytes c m) u m

  as_many : check_disk new ≡ none → free (tracks_of new) (directory new) ≡ free (tracks_of d) (directory d)
  as_many now =
      let was = freed-count (view d) ds i f found.below found.here in
      let is = freed-count (view new) (disk-accepted new now) i then found.below here in
      let e : with_slot (view new) i none ≡ with_slot (view d) i none = ap (λ (l : View). with_slot l i none) a.seen ∙ upd_again (view d) i (some then) none in
      let same : free (view_tracks (with_slot (view new) i none)) (view_slots (with_slot (view new) i none)) ≡ free (view_tracks (with_slot (view d) i none)) (view_slots (with_slot (view d) i none)) =
      ap (λ (l : View). free (view_tracks l) (view_slots l)) e in
      rw (← view-slots new, ← view-slots d, ← view_extra new, ← view_extra d) (omega (arith, was, is, same, count-is))

  moved_to : check_disk new ≡ none → MovedTo d n i f a.bit new ss
  moved_to now-ok = record {
    must = not_order f a.must;
    lowest = a.lowest;
    long = ap length a.disk ∙ goes_long (gather_steps (view d) i f bs) d;
    payload = payload-now;
    bytes = λ k u v.
        ap (λ (x : List ℕ). get_or x k 0) (a.disk ∙ gather-disk d ds i f found.here other bs rises many)
        ∙ ⊎_elim (put-before mid (slot_at i + 13) (chain_fields bs) k)
        (λ (z : slot_at i + 13 + 197 ≤ k). put-after mid (slot_at i + 13) (chain_fields bs) k (omega (arith, placed-long bs))) v
        ∙ mid_byte k u;
    file = then;
    now = named;
    first = first-is;
    count = count-is;
    order = ordered;
    bits = λ c. (
      λ u. up_listed count a.bit c (sym (now-map d ds i f found.here other bs rises many c) ∙ u),
      λ u. now-map d ds i f found.here other bs rises many c ∙ listed_up count a.bit c u.0 u.1,
    );
    freed = freed now-ok;
    as_many = as_many now-ok;
    sectors = a.sectors;
  }

  kept : check_disk new ≡ none → (m : List ℕ) → SameAnswers new m d m
  kept now m = swap_answers d new i f then found.here a.seen alike ok now m m refl (swap_find d new i f then found.here a.seen same_name m)

  again : check_disk new ≡ none → askable n ≡ true → is_directory f.bytes ≡ false → (room : ℕ) → run_change (gather n) new room ≡ new_disk new []
  unfolding is_directory
  again now q k = left_alone new n now q i then named (ap directory_kind alike.kind ∙ k) ((in_order then).1 ordered)

-- ---- every accepted gather

pub after-gather : (d n : List ℕ) (room : ℕ) (new ss : List ℕ) → run_change (gather n) d room ≡ new_disk new ss → AfterGather d n new ss
after-gather d n room new ss e = by t.done
  where
    ok : check_disk d ≡ none
    ok = (run_room (gather n) d room new ss e).accepted

    t : Gathers d n new ss
    t = gathers d ok room new ss n e

    other : kind_of t.file.bytes ≡ 21 → ⊥
    other = not_kind_21 t.file.bytes t.no_directory

    now : check_disk new ≡ none
    now = change-accepted (gather n) d room new ss ok e

    by : ((scattered t.file ≡ false) × (new ≡ d) × (ss ≡ [])) ⊎ Shifted d t.slot t.file new ss → AfterGather d n new ss
    by (inl a) = record {
      slot = t.slot;
      file = t.file;
      found = t.found;
      kind = other;
      done = inl (record { order = (in_order t.file).0 a.0; disk = a.1; sectors = a.2 });
      answers = λ m. subst (λ (x : List ℕ). SameAnswers x m d m) (sym a.1) (record { readings = λ buf. refl; starts = refl });
      again = subst (λ (x : List ℕ). (room : ℕ) → run_change (gather n) x room ≡ new_disk x []) (sym a.1) (left_alone d n ok t.askable-name t.slot t.file t.found t.no_directory a.0);
    }
    by (inr a) = record {
      slot = t.slot;
      file = t.file;
      found = t.found;
      kind = other;
      done = inr (a.bit, moved_to d n ok new ss t.slot t.file t.found other a now);
      answers = kept d n ok new ss t.slot t.file t.found other a now;
      again = again d n ok new ss t.slot t.file t.found other a now t.askable-name t.no_directory;
    }
