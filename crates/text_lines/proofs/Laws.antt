-- Laws of the lines: bytes put one part after another, decimal numbers, lines and how long they are.
use Prim.Native.Nat.{ℕ, zero, suc, ◌+◌, ◌-◌, ◌*◌, ◌/◌, ◌%◌, ◌^◌, ◌≤◌, ◌<◌, min}
use mathlib.Core.Path.{◌≡◌, refl, sym, ap, ◌∙◌}
use mathlib.Core.Bool.{Bool, true, false, cond}
use mathlib.Core.List.{List, [], ◌∷◌, ◌++◌, append_assoc}
use mathlib.Core.Logic.{⊎_elim}
use native.Mathlib.Nat.{div-lt_iff_lt-mul, div-add-mod', pow-suc}
use native.Mathlib.Omega.{arith}
use borrow.Author.Tests.{lt-ltb, le-ltb}
use lib.Dec.{ltb}
use lib.ListN.{length, get_or, length-append}
use Rattle.buffers.specs.Bytes.{tab, put}
use Rattle.buffers.proofs.Lists.{below_or_not, length-tab, length-put, put-append, put-none, put_past}
use Rattle.refusals.specs.Order.{Refusal}
use Rattle.slots.specs.Slot.{is_live, hidden, protected, kind_of, count_of, name_of}
use Rattle.text_lines.specs.Lines.{digits, decimal, shown, line, slot_line, free_line, refusal_line}
use Rattle.text_lines.specs.Written.{Wrote}

-- ---- one part after another

pub wrote_none : (d : List ℕ) (a : ℕ) (x : List ℕ) → x ≡ [] → (r : ℕ) → r ≡ min a (length d) → Wrote d a x d r
wrote_none d a x e r q = rw e (record { page = put-none d a []; next = omega arith })

pub wrote_end : (d : List ℕ) (a : ℕ) (x : List ℕ) → length d ≤ a → Wrote d a x d (length d)
wrote_end d a x h = record { page = put_past d a x h; next = omega arith }

-- past the page's end nothing is put
pub wrote_then : {d e f : List ℕ} {a b c : ℕ} {x y : List ℕ} → Wrote d a x e b → Wrote e b y f c → Wrote d a (x ++ y) f c
wrote_then {d} {e} {f} {a} {b} {c} {x} {y} p q = record {
  page = q.page ∙ from ∙ ap (λ (l : List ℕ). put l (a + length x) y) p.page ∙ put-append d a x y;
  next = omega (arith, p.next, q.next, long, length-append x y);
}
  where
    long : length e ≡ length d
    long = ap length p.page ∙ length-put d a x

    from : put e b y ≡ put e (a + length x) y
    from =
        ⊎_elim (λ (h : a + length x < length d). let z : b ≡ a + length x = omega (arith, p.next) in ap (λ (k : ℕ). put e k y) z)
        (λ (h : length d ≤ a + length x). sym (put_past e b y (omega (arith, p.next, long))) ∙ put_past e (a + length x) y (omega (arith, long)))
        (below_or_not (a + length x) (length d))

-- the text in another form
pub wrote_as : {d e : List ℕ} {a b : ℕ} {x : List ℕ} (y : List ℕ) → x ≡ y → Wrote d a x e b → Wrote d a y e b
wrote_as y q w = rw (← q) w

pub wrote_long : {d e : List ℕ} {a b : ℕ} {x : List ℕ} → Wrote d a x e b → length e ≡ length d
wrote_long {d} {e} {a} {b} {x} w = ap length w.page ∙ length-put d a x

-- ---- decimal numbers

pub digits-none : (k n : ℕ) → k ≡ 0 → digits k n ≡ []
unfolding digits
digits-none k n e = rw e

pub digits_one : (k n : ℕ) → (k ≡ 0 → ⊥) → n < 10 → digits k n ≡ (48 + n) ∷ []
unfolding digits
digits_one zero n h l = absurd (h refl)
digits_one (suc k) n h l = rw (lt-ltb n 10 l)

pub digits_more : (k n : ℕ) → (k ≡ 0 → ⊥) → 10 ≤ n → digits k n ≡ digits (k - 1) (n / 10) ++ ((48 + n % 10) ∷ [])
unfolding digits
digits_more zero n h l = absurd (h refl)
digits_more (suc k) n h l =
    let e : suc k - 1 ≡ k = omega arith in
    rw (le-ltb n 10 l, e)

pub digits-most : (k n : ℕ) → length (digits k n) ≤ k
unfolding digits
digits-most zero n = omega arith
digits-most (suc k) n = by (ltb n 10) (digits-most k (n / 10))
  where
    by : (t : Bool) → length (digits k (n / 10)) ≤ k → length (cond t ((48 + n) ∷ []) (digits k (n / 10) ++ ((48 + n % 10) ∷ []))) ≤ suc k
    by true h = omega arith
    by false h = omega (arith, length-append (digits k (n / 10)) ((48 + n % 10) ∷ []))

pub digits-some : (k n : ℕ) → 1 ≤ length (digits (suc k) n)
unfolding digits
digits-some k n = by (ltb n 10)
  where
    by : (t : Bool) → 1 ≤ length (cond t ((48 + n) ∷ []) (digits k (n / 10) ++ ((48 + n % 10) ∷ [])))
    by true = omega arith
    by false = omega (arith, length-append (digits k (n / 10)) ((48 + n % 10) ∷ []))

pub decimal-some : (n : ℕ) → 1 ≤ length (decimal n)
unfolding decimal
decimal-some n = digits-some 3 n

pub decimal-most : (n : ℕ) → length (decimal n) ≤ 4
unfolding decimal
decimal-most n = digits-most 4 n

-- a number below 100 has two digits at most
pub decimal_two : (n : ℕ) → n < 100 → length (decimal n) ≤ 2
unfolding decimal
decimal_two n h =
    ⊎_elim (λ (l : n < 10). rw (digits_one 4 n (λ e. absurd (omega arith)) l) (omega arith))
    (λ (l : 10 ≤ n).
    let q : n / 10 < 10 = omega arith in
    rw (digits_more 4 n (λ e. absurd (omega arith)) l, digits_one 3 (n / 10) (λ e. absurd (omega arith)) q) (omega arith))
    (below_or_not n 10)

-- the number that a run of digits says, read after the number m
unfoldable pub read_on : ℕ → List ℕ → ℕ
read_on m [] = m
read_on m (x ∷ xs) = read_on (m * 10 + (x - 48)) xs

read_on_append : (m : ℕ) (xs ys : List ℕ) → read_on m (xs ++ ys) ≡ read_on (read_on m xs) ys
unfolding read_on
read_on_append m [] ys = refl
read_on_append m (x ∷ xs) ys = read_on_append (m * 10 + (x - 48)) xs ys

-- decimal digits say the number that they were made of
pub digits_say : (k n : ℕ) → n < 10 ^ k → read_on 0 (digits k n) ≡ n
unfolding read_on
digits_say zero n h = rw (digits-none 0 n refl) (omega arith)
digits_say (suc k) n h =
    ⊎_elim (λ (l : n < 10). rw (digits_one (suc k) n (λ e. absurd (omega arith)) l) (omega arith))
    (λ (l : 10 ≤ n).
    let e : suc k - 1 ≡ k = omega arith in
    let q : n / 10 < 10 ^ k = (div-lt_iff_lt-mul {k = 10} {x = n} {y = 10 ^ k} (omega arith)).1 (rw pow-suc at h) in
    rw (digits_more (suc k) n (λ z. absurd (omega arith)) l, e, read_on_append 0 (digits k (n / 10)) ((48 + n % 10) ∷ []), digits_say k (n / 10) q) (omega (arith, div-add-mod' n 10)))
    (below_or_not n 10)

pub decimal-says : (n : ℕ) → n < 10000 → read_on 0 (decimal n) ≡ n
unfolding decimal
decimal-says n h = digits_say 4 n h

-- ---- lines

pub length-line : (number : ℕ) (s : List ℕ) → length (line number s) ≡ length (decimal number) + length (decimal (count_of s)) + length (decimal (kind_of s)) + 16
unfolding line
length-line number s = simp (length-append, length-tab) (omega arith)

pub line-parts : (number : ℕ) (s m n : List ℕ) → m ≡ 32 ∷ cond (protected s) 42 45 ∷ 32 ∷ [] → n ≡ tab 10 (λ k. shown (get_or (name_of s) k 0))
    → decimal number ++ m ++ n ++ (32 ∷ decimal (count_of s)) ++ (32 ∷ decimal (kind_of s)) ++ (10 ∷ []) ≡ line number s
unfolding line
line-parts number s m n p q = rw (p, q) (simp append_assoc)

pub line-most : (number : ℕ) (s : List ℕ) → number < 100 → length (line number s) ≤ 24
line-most number s h =
    let k : kind_of s < 64 = omega arith in
    omega (arith, length-line number s, decimal_two number h, decimal-most (count_of s), decimal_two (kind_of s) (omega arith))

pub entry-line : (number : ℕ) (s : List ℕ) → is_live s ≡ true → hidden s ≡ false → slot_line number s ≡ line number s
unfolding slot_line
entry-line number s p q = rw (p, q)

pub entry-hidden : (number : ℕ) (s : List ℕ) → is_live s ≡ true → hidden s ≡ true → slot_line number s ≡ []
unfolding slot_line
entry-hidden number s p q = rw (p, q)

pub entry_dead : (number : ℕ) (s : List ℕ) → is_live s ≡ false → slot_line number s ≡ []
unfolding slot_line
entry_dead number s p = rw p

pub length-free : (n : ℕ) → length (free_line n) ≡ length (decimal n) + 6
unfolding free_line
length-free n = simp length-append (omega arith)

pub length-refusal : (r : Refusal) → length (refusal_line r) ≡ length (decimal r.number) + length (decimal r.slot) + 15
unfolding refusal_line
length-refusal r = simp length-append (omega arith)

pub refusal-most : (r : Refusal) → length (refusal_line r) ≤ 23
refusal-most r = omega (arith, length-refusal r, decimal-most r.number, decimal-most r.slot)
