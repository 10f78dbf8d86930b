-- What was put is read again, and what a piece does not change stays.
use Prim.Native.Nat.{ℕ, ◌+◌, ◌-◌, ◌*◌, ◌/◌, ◌%◌, ◌^◌, ◌≤◌, ◌<◌}
use mathlib.Core.Bool.{Bool, true, false, cond}
use mathlib.Core.Path.{◌≡◌, refl, sym, ap, ◌∙◌}
use mathlib.Core.List.{List, [], ◌∷◌}
use native.Mathlib.Omega.{arith}
use lib.Dec.{eqb}
use lib.ListN.{length, get_or, drop, length-replicate}
use Rattle.buffers.specs.Bytes.{tab, put}
use Rattle.buffers.proofs.Lists.{length-tab, get_or-tab, tab_of, tab_cong, length-put, put_in, put-before, put-after}
use Rattle.steps.specs.Steps.{Put, put_all}
use Rattle.steps.proofs.Steps.{put_all-long}
use Rattle.slots.specs.Slot.{sectors_for}
use Rattle.report_bytes.specs.Bytes.{four_of}
use Rattle.report_bytes.proofs.Raising.{four_of_lem}
use Rattle.recordings.specs.Record.{last_from, zeros, last_with, record_with}
use Rattle.recordings.specs.declared.Record.{Record}
use Rattle.record_bytes.specs.Layout.{record_bytes, bytes_at, record_offset, record_length, record_in, field, front_of, bytes_of, record_bytes_with, FitsRecord, RestStays}
use Rattle.record_bytes.proofs.Laid.{record_is}

-- ---- parts that lie behind each other

-- from place a on, up to n
abbrev Rising : ℕ → List Put → ℕ → Type 0
Rising a [] n = a ≤ n
Rising a (p ∷ ps) n = (a ≤ p.place) × Rising (p.place + length p.bytes) ps n

ends : (ps : List Put) (a n : ℕ) → Rising a ps n → a ≤ n
ends [] a n r = r
ends (p ∷ ps) a n r = omega (arith, r.0, ends ps (p.place + length p.bytes) n r.1)

-- what lies before them stays
before_all : (ps : List Put) (d : List ℕ) (a n : ℕ) → Rising a ps n → (i : ℕ) → i < a → get_or (put_all d ps) i 0 ≡ get_or d i 0
unfolding put_all
before_all [] d a n r i h = refl
before_all (p ∷ ps) d a n r i h =
    before_all ps (put d p.place p.bytes) (p.place + length p.bytes) n r.1 i (omega (arith, r.0)) ∙ put-before d p.place p.bytes i (omega (arith, r.0))

-- and what lies behind them
after_all : (ps : List Put) (d : List ℕ) (a n : ℕ) → Rising a ps n → (i : ℕ) → n ≤ i → get_or (put_all d ps) i 0 ≡ get_or d i 0
unfolding put_all
after_all [] d a n r i h = refl
after_all (p ∷ ps) d a n r i h =
    after_all ps (put d p.place p.bytes) (p.place + length p.bytes) n r.1 i h
    ∙ put-after d p.place p.bytes i (omega (arith, ends ps (p.place + length p.bytes) n r.1))

-- and each is read
abbrev Back : List ℕ → List Put → Type 0
Back d [] = Unit {0}
Back d (p ∷ ps) = (p.bytes ≡ bytes_at p.place (length p.bytes) d) × Back d ps

all_back : (ps : List Put) (d : List ℕ) (a n : ℕ) → Rising a ps n → n ≤ length d → Back (put_all d ps) ps
unfolding put_all
all_back [] d a n r h = tt
all_back (p ∷ ps) d a n r h = (tab_of (length p.bytes) (λ j. get_or (put_all d (p ∷ ps)) (p.place + j) 0) p.bytes refl (λ j l. sym (byte j l)), all_back ps (put d p.place p.bytes) (p.place + length p.bytes) n r.1 (omega (arith, length-put d p.place p.bytes)))
  where
    byte : (j : ℕ) → j < length p.bytes → get_or (put_all d (p ∷ ps)) (p.place + j) 0 ≡ get_or p.bytes j 0
    byte j l =
        before_all ps (put d p.place p.bytes) (p.place + length p.bytes) n r.1 (p.place + j) (omega arith)
        ∙ put_in d p.place p.bytes j l (omega (arith, ends ps (p.place + length p.bytes) n r.1))

-- as many bytes as it has
sized : (a n : ℕ) (x d : List ℕ) → length x ≡ n → x ≡ bytes_at a (length x) d → x ≡ bytes_at a n d
sized a n x d e q = q ∙ ap (λ (m : ℕ). bytes_at a m d) e

byte_of : (a n : ℕ) (x d : List ℕ) → x ≡ bytes_at a n d → (j : ℕ) → j < n → get_or d (a + j) 0 ≡ get_or x j 0
byte_of a n x d e j h = sym (get_or-tab n (λ j. get_or d (a + j) 0) j h) ∙ ap (λ (l : List ℕ). get_or l j 0) (sym e)

-- ---- numbers of bytes

one_back : (x : ℕ) → x < 256 → x ≡ x % 256
one_back x h = omega arith

two_back : (x : ℕ) → x < 65536 → x ≡ x % 256 + 256 * (x / 256 % 256)
two_back x h = omega arith

four_back : (x : ℕ) → x < 2 ^ 32 → x ≡ x % 256 + 256 * (x / 256 % 256) + 65536 * (x / 65536 % 256) + 16777216 * (x / 16777216 % 256)
four_back x h = let e = four_of_lem x h in omega arith

-- ---- opening

abbrev parts : Record → List Put
parts k =
    field 0 (front_of k) ∷ field 12 k.name ∷ field 22 k.exec ∷ field 25 k.info ∷ field 36 k.used ∷ field 231 k.first ∷ field 732 k.last ∷ []

pub length-bytes : (k : Record) → length (bytes_of k) ≡ record_bytes
unfolding bytes_of
length-bytes k = put_all-long (parts k) (zeros record_bytes) ∙ length-replicate {A = ℕ} 2048 0

module _ (k : Record) (f : FitsRecord k) where
  apart : Rising 0 (parts k) record_bytes
  apart = (
    omega arith,
    (
      omega arith,
      (
        omega (arith, f.name),
        (omega (arith, f.exec), (omega (arith, f.info), (omega (arith, f.used), (omega (arith, f.first), omega (arith, f.last))))),
      ),
    ),
  )

  all : Back (bytes_of k) (parts k)
  unfolding bytes_of
  all = all_back (parts k) (zeros record_bytes) 0 record_bytes apart (omega (arith, length-replicate {A = ℕ} 2048 0))

  front : (j : ℕ) → j < 12 → get_or (bytes_of k) (0 + j) 0 ≡ get_or (front_of k) j 0
  front = byte_of 0 12 (front_of k) (bytes_of k) all.0

  bytes_back : k ≡ record_in (bytes_of k)
  bytes_back =
      let t = all.1 in
      let u = t.1.1.1 in
      record_is (bytes_of k) (one_back k.kind f.kind ∙ sym (front 0 (omega arith))) (sized 12 10 k.name (bytes_of k) f.name t.0)
      (one_back k.page f.page ∙ sym (front 1 (omega arith))) offset (sized 22 3 k.exec (bytes_of k) f.exec t.1.0)
      (sized 25 11 k.info (bytes_of k) f.info t.1.1.0) (sized 36 195 k.used (bytes_of k) f.used u.0)
      (one_back k.tracks f.tracks ∙ sym (front 4 (omega arith))) long (sized 231 501 k.first (bytes_of k) f.first u.1.0)
      (sized 732 510 k.last (bytes_of k) f.last u.1.1.0)
    where
      offset : k.offset ≡ record_offset (bytes_of k)
      offset = rw (front 2 (omega arith), front 3 (omega arith)) (two_back k.offset f.offset)

      long : k.long ≡ record_length (bytes_of k)
      long = rw (front 8 (omega arith), front 9 (omega arith), front 10 (omega arith), front 11 (omega arith)) (four_back k.long f.long)

-- the record is read of its first bytes
record_same : (b c : List ℕ) → ((i : ℕ) → i < record_bytes → get_or b i 0 ≡ get_or c i 0) → record_in b ≡ record_in c
unfolding record_in
record_same b c h =
    record_is c (h 0 (omega arith)) (part 12 10 (omega arith)) (h 1 (omega arith)) (rw (h 2 (omega arith), h 3 (omega arith))) (part 22 3 (omega arith)) (part 25 11 (omega arith))
    (part 36 195 (omega arith)) (h 4 (omega arith)) (rw (h 8 (omega arith), h 9 (omega arith), h 10 (omega arith), h 11 (omega arith))) (part 231 501 (omega arith)) (part 732 510 (omega arith))
  where
    part : (a n : ℕ) → a + n ≤ record_bytes → bytes_at a n b ≡ bytes_at a n c
    part a n l = tab_cong n (λ j. get_or b (a + j) 0) (λ j. get_or c (a + j) 0) (λ j m. h (a + j) (omega arith))

pub opened-back : (b : List ℕ) (k : Record) → record_bytes ≤ length b → FitsRecord k → record_in (put b 0 (bytes_of k)) ≡ k
opened-back b k l f = record_same (put b 0 (bytes_of k)) (bytes_of k) byte ∙ sym (bytes_back k f)
  where
    byte : (i : ℕ) → i < record_bytes → get_or (put b 0 (bytes_of k)) i 0 ≡ get_or (bytes_of k) i 0
    byte i h = let z : i ≡ 0 + i = omega arith in ap (λ (j : ℕ). get_or (put b 0 (bytes_of k)) j 0) z ∙ put_in b 0 (bytes_of k) i (omega (arith, length-bytes k)) (omega arith)

pub opened-rest : (b : List ℕ) (k : Record) → RestStays b (put b 0 (bytes_of k))
opened-rest b k = record { long = length-put b 0 (bytes_of k); rest = λ i h. put-after b 0 (bytes_of k) i (omega (arith, length-bytes k)) }

-- ---- a piece

module _ (b x : List ℕ) where
  abbrev k : Record
  k = record_with (record_in b) x

  abbrev raised : List Put
  raised = field 8 (four_of k.long) ∷ field 231 k.first ∷ field 732 k.last ∷ []

  first-long : length k.first ≡ 501
  unfolding record_with record_in
  first-long = length-put (record_in b).first (record_in b).long x ∙ length-tab 501 (λ j. get_or b (231 + j) 0)

  last-long : length k.last ≡ 510
  unfolding record_with record_in last_with
  last-long = by (eqb (sectors_for ((record_in b).long + length x)) (sectors_for (record_in b).long))
    where
      by : (t : Bool) → length (cond t (put (record_in b).last ((record_in b).long - last_from (record_in b).long) x) (put (zeros 510) 0 (drop (last_from ((record_in b).long + length x) - (record_in b).long) x))) ≡ 510
      by true = length-put (record_in b).last _ x ∙ length-tab 510 (λ j. get_or b (732 + j) 0)
      by false = length-put (zeros 510) 0 _ ∙ length-replicate {A = ℕ} 510 0

  raised-apart : Rising 8 raised record_bytes
  raised-apart = (omega arith, (omega arith, (omega (arith, first-long), omega (arith, last-long))))

  stays-before : (i : ℕ) → i < 8 → get_or (record_bytes_with b k) i 0 ≡ get_or b i 0
  unfolding record_bytes_with
  stays-before i h = before_all raised b 8 record_bytes raised-apart i h

  stays-between : (i : ℕ) → 12 ≤ i → i < 231 → get_or (record_bytes_with b k) i 0 ≡ get_or b i 0
  unfolding record_bytes_with put_all
  stays-between i h m =
      before_all (field 231 k.first ∷ field 732 k.last ∷ []) (put b 8 (four_of k.long)) 231 record_bytes (omega arith, raised-apart.1.1) i m
      ∙ put-after b 8 (four_of k.long) i h

  between : (a n : ℕ) → 12 ≤ a → a + n ≤ 231 → bytes_at a n b ≡ bytes_at a n (record_bytes_with b k)
  between a n h m = tab_cong n (λ j. get_or b (a + j) 0) (λ j. get_or (record_bytes_with b k) (a + j) 0) (λ j q. sym (stays-between (a + j) (omega arith) (omega arith)))

  pub grown_rest : RestStays b (record_bytes_with b k)
  unfolding record_bytes_with
  grown_rest = record { long = put_all-long raised b; rest = λ i h. after_all raised b 8 record_bytes raised-apart i h }

  module _ (l : record_bytes ≤ length b) (few : (record_in b).long + length x < 2 ^ 32) where
    raised-back : Back (record_bytes_with b k) raised
    unfolding record_bytes_with
    raised-back = all_back raised b 8 record_bytes raised-apart l

    four : (j : ℕ) → j < 4 → get_or (record_bytes_with b k) (8 + j) 0 ≡ get_or (four_of k.long) j 0
    four = byte_of 8 4 (four_of k.long) (record_bytes_with b k) raised-back.0

    pub grown_back : record_in (record_bytes_with b k) ≡ k
    unfolding record_with record_in
    grown_back = sym is
      where
        is : k ≡ record_in (record_bytes_with b k)
        is =
            record_is (record_bytes_with b k) (sym (stays-before 0 (omega arith))) (between 12 10 (omega arith) (omega arith)) (sym (stays-before 1 (omega arith)))
            (rw (stays-before 2 (omega arith), stays-before 3 (omega arith))) (between 22 3 (omega arith) (omega arith)) (between 25 11 (omega arith) (omega arith))
            (between 36 195 (omega arith) (omega arith)) (sym (stays-before 4 (omega arith)))
            (rw (four 0 (omega arith), four 1 (omega arith), four 2 (omega arith), four 3 (omega arith)) (four_back k.long few))
            (sized 231 501 k.first (record_bytes_with b k) first-long raised-back.1.0) (sized 732 510 k.last (record_bytes_with b k) last-long raised-back.1.1.0)
