-- The map of a chain, and the slot that a save writes, piece by piece.
use Prim.Native.Nat.{ℕ, zero, suc, ◌+◌, ◌-◌, ◌%◌, ◌≤◌, ◌<◌}
use mathlib.Core.Path.{◌≡◌, refl, sym, ap, ap₂, ◌∙◌}
use mathlib.Core.List.{List, [], ◌∷◌}
use mathlib.Core.Logic.{⊎_elim}
use native.Mathlib.Omega.{arith}
use lib.ListN.{length, get_or, drop, replicate, length-replicate, get_or-replicate, drop_of_length-le}
use Rattle.buffers.specs.Bytes.{tab, part, put}
use Rattle.buffers.proofs.Lists.{below_or_not, past_end, length_part, part_at, length-put, put_in, put-before, put-after, tab_of}
use Rattle.maps.specs.Bits.{clear_map, with_bit}
use Rattle.steps.specs.Steps.{put_all}
use Rattle.names.specs.Name.{padded}
use Rattle.plans.specs.Change.{SaveRequest}
use Rattle.plans.specs.Saving.{map_with, slot_byte}
use Rattle.plans.proofs.NewFile.{name-byte, map-byte, info-byte, exec-byte, before-info, after-info, after_date}
use Rattle.allocation.specs.declared.HeaderFields.{HeaderFields}
use Rattle.sector_writes.specs.declared.Link.{Link}
use Rattle.sector_writes.specs.Sector.{header_fields_of, FieldsFit, link_to_next}
use Rattle.sector_writes.proofs.Links.{one_byte, high_byte, page-byte, from}
use Rattle.slot_writes.specs.Filed.{chain_bytes, start_fields, fresh_slot}

-- ---- the map

pub map-none : (bs : List ℕ) → clear_map ≡ map_with (drop (length bs) bs)
unfolding map_with
map-none bs = let l : length bs ≤ length bs = omega arith in rw (drop_of_length-le bs l)

-- from the last bit to the first
pub map_more : (bs : List ℕ) (j : ℕ) → 0 < j → j ≤ length bs → (m : List ℕ) → m ≡ map_with (drop j bs) → (m' : List ℕ) → m' ≡ with_bit m (get_or bs (j - 1) 0)
    → m' ≡ map_with (drop (j - 1) bs)
unfolding map_with
map_more bs j h l m e m' q =
    let i : j - 1 + 1 ≡ j = omega arith in
    q ∙ ap (λ (x : List ℕ). with_bit x (get_or bs (j - 1) 0)) e
    ∙ sym (ap map_with (from bs (j - 1) (omega arith) ∙ ap (λ (k : ℕ). get_or bs (j - 1) 0 ∷ drop k bs) i))

-- ---- a slot begun: the bytes below a are put, and the rest are 0

pub record SlotWrittenTo (f : ℕ → ℕ) (a : ℕ) (e : List ℕ) : Type 0 where
  pub long : length e ≡ 256
  pub front : (k : ℕ) → k < a → get_or e k 0 ≡ f k
  pub rest : (k : ℕ) → a ≤ k → get_or e k 0 ≡ 0

pub begun_none : (f : ℕ → ℕ) → SlotWrittenTo f 0 (replicate 256 0)
begun_none f = record {
  long = length-replicate {A = ℕ} 256 0;
  front = λ k h. absurd (omega arith);
  rest = λ k h.
      ⊎_elim (λ (l : k < 256). get_or-replicate 256 k 0 0 l)
      (λ (l : 256 ≤ k). past_end (replicate 256 0) k (omega (arith, length-replicate {A = ℕ} 256 0))) (below_or_not k 256);
}

module _ (f : ℕ → ℕ) (a n : ℕ) (e : List ℕ) (w : SlotWrittenTo f a e) where
  -- n bytes that are 0
  pub begun_gap : ((i : ℕ) → i < n → f (a + i) ≡ 0) → SlotWrittenTo f (a + n) e
  begun_gap z = record {
    long = w.long;
    front = λ k h.
        ⊎_elim (λ (l : k < a). w.front k l)
        (λ (l : a ≤ k). let q : a + (k - a) ≡ k = omega arith in w.rest k l ∙ sym (rw q at (z (k - a) (omega arith)))) (below_or_not k a);
    rest = λ k h. w.rest k (omega arith);
  }

  -- n bytes that x has, 0 where it ends before
  pub begun_more : (x : List ℕ) → length x ≤ n → a + n ≤ 256 → ((i : ℕ) → i < n → get_or x i 0 ≡ f (a + i)) → (e' : List ℕ) → e' ≡ put e a x → SlotWrittenTo f (a + n) e'
  begun_more x l m y e' p = rw p (record { long = length-put e a x ∙ w.long; front = front'; rest = rest' })
    where
      front' : (k : ℕ) → k < a + n → get_or (put e a x) k 0 ≡ f k
      front' k h =
          ⊎_elim (λ (b : k < a). put-before e a x k b ∙ w.front k b)
          (λ (b : a ≤ k).
          let q : k ≡ a + (k - a) = omega arith in
          ⊎_elim (λ (c : k - a < length x). rw q (put_in e a x (k - a) c (omega (arith, w.long)) ∙ y (k - a) (omega arith)))
          (λ (c : length x ≤ k - a).
          put-after e a x k (omega arith) ∙ w.rest k b ∙ sym (past_end x (k - a) c) ∙ y (k - a) (omega arith) ∙ ap f (sym q))
          (below_or_not (k - a) (length x)))
          (below_or_not k a)

      rest' : (k : ℕ) → a + n ≤ k → get_or (put e a x) k 0 ≡ 0
      rest' k h = put-after e a x k (omega arith) ∙ w.rest k (omega arith)

pub begun_all : (f : ℕ → ℕ) (a : ℕ) (e : List ℕ) → SlotWrittenTo f a e → 256 ≤ a → e ≡ tab 256 f
begun_all f a e w h = tab_of 256 f e w.long (λ k l. w.front k (omega arith))

-- ---- the slot, piece by piece

-- as the code puts it
put_on : {a a' x x' b : List ℕ} (n : ℕ) → a ≡ a' → x ≡ x' → b ≡ put a n x → b ≡ put a' n x'
put_on n e f g = g ∙ ap₂ (λ (p q : List ℕ). put p n q) e f

module _ (s : HeaderFields) (name exec info : List ℕ) (n k : ℕ) (first : Link) (m : List ℕ) {a b c d e f g h : List ℕ} {xb xc xd xe xf xg : List ℕ} where
  pub slot-put : a ≡ put (replicate 256 0) 0 (s.kind % 256 ∷ []) → xb ≡ part 0 10 (padded name) → b ≡ put a 1 xb → xc ≡ chain_bytes k first → c ≡ put b 11 xc
      → xd ≡ part 0 195 m → d ≡ put c 15 xd → xe ≡ part 0 11 info → e ≡ put d 221 xe → xf ≡ start_fields s n → f ≡ put e 236 xf → xg ≡ part 0 3 exec
      → g ≡ put f 242 xg → h ≡ put g 245 (255 ∷ []) → h ≡ fresh_slot s name exec info n k first m
  unfolding fresh_slot put_all
  slot-put ea fb eb fc ec fd ed fe ee ff ef fg eg eh =
      put_on 245 (put_on 242 (put_on 236 (put_on 221 (put_on 15 (put_on 11 (put_on 1 ea fb eb) fc ec) fd ed) fe ee) ff ef) fg eg) refl eh

-- as `plans` says it, byte by byte
module _ (w : SaveRequest) (bs : List ℕ) (p : FieldsFit (header_fields_of w) (length w.body)) (few : length bs < 65536) where
  kind_at : (i : ℕ) → i < 1 → get_or (w.kind % 256 ∷ []) i 0 ≡ slot_byte w bs (0 + i)
  unfolding slot_byte
  kind_at zero h = one_byte w.kind p.kind
  kind_at (suc i) h = absurd (omega arith)

  name-at : (i : ℕ) → i < 10 → get_or (part 0 10 (padded w.name)) i 0 ≡ slot_byte w bs (1 + i)
  name-at i h =
      let e : 1 + i - 1 ≡ 0 + i = omega arith in
      part_at 0 10 (padded w.name) i h ∙ sym (name-byte w bs (1 + i) (omega arith) (omega arith) ∙ ap (λ (k : ℕ). get_or (padded w.name) k 0) e)

  chain-at : (i : ℕ) → i < 4 → get_or (chain_bytes (length bs) (link_to_next bs)) i 0 ≡ slot_byte w bs (11 + i)
  unfolding slot_byte chain_bytes link_to_next
  chain-at zero h = high_byte (length bs) few
  chain-at (suc zero) h = refl
  chain-at (suc (suc zero)) h = refl
  chain-at (suc (suc (suc zero))) h = refl
  chain-at (suc (suc (suc (suc i)))) h = absurd (omega arith)

  map_at : (i : ℕ) → i < 195 → get_or (part 0 195 (map_with bs)) i 0 ≡ slot_byte w bs (15 + i)
  map_at i h =
      let e : 15 + i - 15 ≡ 0 + i = omega arith in
      part_at 0 195 (map_with bs) i h ∙ sym (map-byte w bs (15 + i) (omega arith) (omega arith) ∙ ap (λ (k : ℕ). get_or (map_with bs) k 0) e)

  info-at : (i : ℕ) → i < 11 → get_or (part 0 11 w.info) i 0 ≡ slot_byte w bs (221 + i)
  info-at i h =
      let e : 221 + i - 221 ≡ 0 + i = omega arith in
      part_at 0 11 w.info i h ∙ sym (info-byte w bs (221 + i) (omega arith) (omega arith) ∙ ap (λ (k : ℕ). get_or w.info k 0) e)

  span_at : (i : ℕ) → i < 6 → get_or (start_fields (header_fields_of w) (length w.body)) i 0 ≡ slot_byte w bs (236 + i)
  unfolding slot_byte start_fields
  span_at zero h = one_byte w.page p.page
  span_at (suc zero) h = refl
  span_at (suc (suc zero)) h = high_byte w.offset p.offset
  span_at (suc (suc (suc zero))) h = page-byte (length w.body) p.pages
  span_at (suc (suc (suc (suc zero)))) h = refl
  span_at (suc (suc (suc (suc (suc zero))))) h = refl
  span_at (suc (suc (suc (suc (suc (suc i)))))) h = absurd (omega arith)

  exec-at : (i : ℕ) → i < 3 → get_or (part 0 3 w.exec) i 0 ≡ slot_byte w bs (242 + i)
  exec-at i h =
      let e : 242 + i - 242 ≡ 0 + i = omega arith in
      part_at 0 3 w.exec i h ∙ sym (exec-byte w bs (242 + i) (omega arith) (omega arith) ∙ ap (λ (k : ℕ). get_or w.exec k 0) e)

  date_at : (i : ℕ) → i < 1 → get_or (255 ∷ []) i 0 ≡ slot_byte w bs (245 + i)
  unfolding slot_byte
  date_at zero h = refl
  date_at (suc i) h = absurd (omega arith)

  -- the slot so far, piece by piece
  abbrev to_kind : List ℕ
  to_kind = put (replicate 256 0) 0 (w.kind % 256 ∷ [])

  abbrev to_name : List ℕ
  to_name = put to_kind 1 (part 0 10 (padded w.name))

  abbrev to_chain : List ℕ
  to_chain = put to_name 11 (chain_bytes (length bs) (link_to_next bs))

  abbrev to_map : List ℕ
  to_map = put to_chain 15 (part 0 195 (map_with bs))

  abbrev to_info : List ℕ
  to_info = put to_map 221 (part 0 11 w.info)

  abbrev to_span : List ℕ
  to_span = put to_info 236 (start_fields (header_fields_of w) (length w.body))

  abbrev to_exec : List ℕ
  to_exec = put to_span 242 (part 0 3 w.exec)

  slot-front : SlotWrittenTo (slot_byte w bs) 210 to_map
  unfolding chain_bytes
  slot-front =
      begun_more (slot_byte w bs) 15 195 to_chain
      (begun_more (slot_byte w bs) 11 4 to_name
      (begun_more (slot_byte w bs) 1 10 to_kind
      (begun_more (slot_byte w bs) 0 1 (replicate 256 0) (begun_none (slot_byte w bs)) (w.kind % 256 ∷ []) (omega arith) (omega arith) kind_at to_kind refl)
      (part 0 10 (padded w.name)) (omega (arith, length_part 0 10 (padded w.name))) (omega arith) name-at to_name refl)
      (chain_bytes (length bs) (link_to_next bs)) (omega arith) (omega arith) chain-at to_chain refl)
      (part 0 195 (map_with bs)) (omega (arith, length_part 0 195 (map_with bs))) (omega arith) map_at to_map refl

  slot-back : SlotWrittenTo (slot_byte w bs) 245 to_exec
  unfolding start_fields
  slot-back =
      begun_more (slot_byte w bs) 242 3 to_span
      (begun_more (slot_byte w bs) 236 6 to_info
      (begun_gap (slot_byte w bs) 232 4 to_info
      (begun_more (slot_byte w bs) 221 11 to_map
      (begun_gap (slot_byte w bs) 210 11 to_map slot-front (λ i l. before-info w bs (210 + i) (omega arith) (omega arith)))
      (part 0 11 w.info) (omega (arith, length_part 0 11 w.info)) (omega arith) info-at to_info refl)
      (λ i l. after-info w bs (232 + i) (omega arith) (omega arith)))
      (start_fields (header_fields_of w) (length w.body)) (omega arith) (omega arith) span_at to_span refl)
      (part 0 3 w.exec) (omega (arith, length_part 0 3 w.exec)) (omega arith) exec-at to_exec refl

  pub fresh-is : fresh_slot (header_fields_of w) w.name w.exec w.info (length w.body) (length bs) (link_to_next bs) (map_with bs) ≡ tab 256 (slot_byte w bs)
  unfolding fresh_slot put_all
  fresh-is =
      begun_all (slot_byte w bs) 256 (put to_exec 245 (255 ∷ []))
      (begun_gap (slot_byte w bs) 246 10 (put to_exec 245 (255 ∷ []))
      (begun_more (slot_byte w bs) 245 1 to_exec slot-back (255 ∷ []) (omega arith) (omega arith) date_at (put to_exec 245 (255 ∷ [])) refl)
      (λ i l. after_date w bs (246 + i) (omega arith)))
      (omega arith)
