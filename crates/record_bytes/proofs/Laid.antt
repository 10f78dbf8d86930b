-- The bytes of a record as the code reads and puts them, part by part.
use Prim.Native.Nat.{ℕ, ◌+◌, ◌≤◌, ◌<◌}
use mathlib.Core.Path.{◌≡◌, refl, sym, ap, ap₂, ◌∙◌}
use mathlib.Core.List.{List}
use mathlib.Core.Logic.{⊎_elim}
use native.Mathlib.Omega.{arith}
use lib.ListN.{length, get_or, replicate, length-replicate, get_or-replicate}
use Rattle.buffers.specs.Bytes.{tab, part, put}
use Rattle.buffers.proofs.Lists.{below_or_not, past_end, length_part, part_at, length-put, put_in, put-after, tab_of}
use Rattle.steps.specs.Steps.{put_all}
use Rattle.report_bytes.specs.Bytes.{four_of}
use Rattle.recordings.specs.Record.{zeros}
use Rattle.recordings.specs.declared.Record.{Record}
use Rattle.record_bytes.specs.Layout.{record_bytes, bytes_at, record_offset, record_length, record_in, front_of, record_bytes_with, bytes_of}

-- ---- read

-- n bytes from a on, copied into as many of 0
pub copied : (a n : ℕ) (b p e : List ℕ) → p ≡ part a n b → e ≡ put (zeros n) 0 p → e ≡ bytes_at a n b
copied a n b p e q w = tab_of n (λ j. get_or b (a + j) 0) e (ap length w ∙ length-put (zeros n) 0 p ∙ length-replicate {A = ℕ} n 0) byte
  where
    byte : (j : ℕ) → j < n → get_or e j 0 ≡ get_or b (a + j) 0
    byte j h =
        let z : j ≡ 0 + j = omega arith in
        ap (λ (l : List ℕ). get_or l j 0) w
        ∙ ⊎_elim
        (λ (m : j < length p). ap (λ (i : ℕ). get_or (put (zeros n) 0 p) i 0) z ∙ put_in (zeros n) 0 p j m (omega (arith, length-replicate {A = ℕ} n 0)) ∙ ap (λ (l : List ℕ). get_or l j 0) q ∙ part_at a n b j h)
        (λ (m : length p ≤ j).
        put-after (zeros n) 0 p j (omega arith) ∙ get_or-replicate n j 0 0 h
        ∙ sym (past_end b (a + j) (omega (arith, ap length q, length_part a n b))))
        (below_or_not j (length p))

-- all of them
module _ (b : List ℕ) {kind page offset tracks long : ℕ} {name exec info used first last : List ℕ} where
  pub record_is : kind ≡ get_or b 0 0 → name ≡ bytes_at 12 10 b → page ≡ get_or b 1 0 → offset ≡ record_offset b → exec ≡ bytes_at 22 3 b → info ≡ bytes_at 25 11 b
      → used ≡ bytes_at 36 195 b → tracks ≡ get_or b 4 0 → long ≡ record_length b → first ≡ bytes_at 231 501 b → last ≡ bytes_at 732 510 b
      → record { kind = kind; name = name; page = page; offset = offset; exec = exec; info = info; used = used; tracks = tracks; long = long; first = first; last = last }
      ≡ record_in b
  unfolding record_in
  record_is ek en ep eo ee ei eu et el ef ea = rw (ek, en, ep, eo, ee, ei, eu, et, el, ef, ea)

-- ---- put

put_on : {a a' x x' b : List ℕ} (n : ℕ) → a ≡ a' → x ≡ x' → b ≡ put a n x → b ≡ put a' n x'
put_on n e f g = g ∙ ap₂ (λ (p q : List ℕ). put p n q) e f

module _ (b : List ℕ) (k : Record) {c d e x : List ℕ} where
  pub grown_put : x ≡ four_of k.long → c ≡ put b 8 x → d ≡ put c 231 k.first → e ≡ put d 732 k.last → e ≡ record_bytes_with b k
  unfolding record_bytes_with put_all
  grown_put ex ec ed ee = put_on 732 (put_on 231 (put_on 8 refl ex ec) refl ed) refl ee

module _ (k : Record) {a b c d e f g x : List ℕ} where
  pub bytes-put : x ≡ front_of k → a ≡ put (zeros record_bytes) 0 x → b ≡ put a 12 k.name → c ≡ put b 22 k.exec → d ≡ put c 25 k.info → e ≡ put d 36 k.used
      → f ≡ put e 231 k.first → g ≡ put f 732 k.last → g ≡ bytes_of k
  unfolding bytes_of put_all
  bytes-put ex ea eb ec ed ee ef eg =
      put_on 732 (put_on 231 (put_on 36 (put_on 25 (put_on 22 (put_on 12 (put_on 0 refl ex ea) refl eb) refl ec) refl ed) refl ee) refl ef) refl eg
