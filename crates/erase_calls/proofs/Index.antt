-- The index as it is made, slot by slot from the last.
use Prim.Native.Nat.{ℕ, suc, ◌+◌, ◌-◌, ◌≤◌, ◌<◌}
use mathlib.Core.Path.{◌≡◌, sym, ap, ◌∙◌}
use mathlib.Core.Bool.{true, false}
use mathlib.Core.List.{List}
use mathlib.Core.Logic.{⊎_elim}
use mathlib.Core.Option.{none, some, some-ne-none, some-injective}
use native.Mathlib.Decide.{ℕ_discrete}
use native.Mathlib.Omega.{arith}
use borrow.Author.Tests.{eq-eqb, ne_eqb}
use lib.ListN.{length, get_or, set, replicate, length-set, length-replicate, get_or-replicate}
use lib.Seq.{get_or-set_same, get_or-set_other}
use Rattle.buffers.proofs.Lists.{below_or_not}
use Rattle.slots.specs.Slot.{name_of}
use Rattle.directory.specs.Places.{slots}
use Rattle.directory.specs.Directory.{Directory, directory, slots_read}
use Rattle.directory.proofs.Ends.{read-most}
use Rattle.directory.proofs.Live.{directory-unread}
use Rattle.erase_calls.specs.Index.{buckets, bucket_of, in_bucket, LowestInBucket, IndexedFrom, EmptyIndex, Indexed}

-- ---- which bucket a slot is in

module _ (v : Directory) (i : ℕ) where
  pub in_none : (b : ℕ) → v i ≡ none → in_bucket v b i ≡ false
  unfolding in_bucket
  in_none b e = rw e

  module _ (s : List ℕ) (e : v i ≡ some s) where
    pub in_own : (b : ℕ) → bucket_of (name_of s) ≡ b → in_bucket v b i ≡ true
    unfolding in_bucket
    in_own b q = rw (e, eq-eqb (bucket_of (name_of s)) b q)

    pub in_other_lem : (b : ℕ) → (bucket_of (name_of s) ≡ b → ⊥) → in_bucket v b i ≡ false
    unfolding in_bucket
    in_other_lem b q = rw (e, ne_eqb (bucket_of (name_of s)) b q)

-- ---- from one slot lower

module _ (v : Directory) (b k : ℕ) where
  lowest_skip : (c : ℕ) → LowestInBucket v b (suc k) c → in_bucket v b k ≡ false → LowestInBucket v b k c
  lowest_skip c l e = record {
    least = omega (arith, l.least);
    most = l.most;
    here = l.here;
    before = λ j p q. ⊎_elim (λ (h : j < suc k). let z : j ≡ k = omega arith in ap (in_bucket v b) z ∙ e) (λ (h : suc k ≤ j). l.before j h q) (below_or_not j (suc k));
  }

  lowest-here : k < slots → in_bucket v b k ≡ true → LowestInBucket v b k k
  lowest-here h e = record { least = omega arith; most = omega arith; here = λ p. e; before = λ j p q. absurd (omega arith) }

-- ---- the index

entered-none : (d index : List ℕ) → EmptyIndex index → IndexedFrom (directory d) (slots_read d) index
entered-none d index w = record {
  long = w.long;
  first = λ b h. rw (w.empty b h) (past b);
  later = λ i k h s e. absurd (some-ne-none s (sym e ∙ directory-unread d i k));
}
  where
    past : (b : ℕ) → LowestInBucket (directory d) b (slots_read d) slots
    past b = record {
      least = read-most d;
      most = omega arith;
      here = λ (h : slots < slots). absurd (omega arith);
      before = λ j p q. in_none (directory d) j b (directory-unread d j p);
    }

module _ (v : Directory) (k : ℕ) (index : List ℕ) (w : IndexedFrom v (suc k) index) where
  dead : v k ≡ none → IndexedFrom v k index
  dead e = record {
    long = w.long;
    first = λ b h. lowest_skip v b k (get_or index b 0) (w.first b h) (in_none v k b e);
    later = λ i p h s q.
        ⊎_elim (λ (l : i < suc k). let z : i ≡ k = omega arith in absurd (some-ne-none s (sym q ∙ ap v z ∙ e)))
        (λ (l : suc k ≤ i). w.later i l h s q) (below_or_not i (suc k));
  }

  module _ (h : k < slots) (s : List ℕ) (e : v k ≡ some s) (b : ℕ) (q : b ≡ bucket_of (name_of s)) (l : b < buckets) (x : ℕ) (y : x ≡ get_or index b 0) where
    -- with slot k's next, and then slot k in front of its bucket
    once : List ℕ
    once = set index (buckets + k) x

    twice : List ℕ
    twice = set once b k

    long-once : length once ≡ buckets + slots
    unfolding once
    long-once = length-set index (buckets + k) x ∙ w.long

    heads_new : (c : ℕ) → c < buckets → Dec (c ≡ b) → LowestInBucket v c k (get_or twice c 0)
    unfolding twice once
    heads_new c p (yes z) = rw (z, get_or-set_same once b k 0 (omega (arith, long-once))) (lowest-here v b k h (in_own v k s e b (sym q)))
    heads_new c p (no n) =
        rw (get_or-set_other once b c k 0 n, get_or-set_other index (buckets + k) c x 0 (λ (z : c ≡ buckets + k). omega arith))
        (lowest_skip v c k (get_or index c 0) (w.first c p) (in_other_lem v k s e c (λ z. n (sym z ∙ sym q))))

    nexts_new : (i : ℕ) → k ≤ i → i < slots → (t : List ℕ) → v i ≡ some t → Dec (i ≡ k) → LowestInBucket v (bucket_of (name_of t)) (suc i) (get_or twice (buckets + i) 0)
    unfolding twice once
    nexts_new i p m t z (yes u) =
        let r : bucket_of (name_of t) ≡ b = ap (λ (t : List ℕ). bucket_of (name_of t)) (some-injective t s (sym z ∙ ap v u ∙ e)) ∙ sym q in
        let g : get_or twice (buckets + i) 0 ≡ get_or index b 0 =
        get_or-set_other once b (buckets + i) k 0 (λ (o : buckets + i ≡ b). omega arith)
        ∙ ap (λ (j : ℕ). get_or once (buckets + j) 0) u ∙ get_or-set_same index (buckets + k) x 0 (omega (arith, w.long)) ∙ y in
        rw (r, g, u) (w.first b l)
    nexts_new i p m t z (no n) =
        rw (get_or-set_other once b (buckets + i) k 0 (λ (o : buckets + i ≡ b). omega arith), get_or-set_other index (buckets + k) (buckets + i) x 0 (λ (o : buckets + i ≡ buckets + k). n (omega arith)))
        (w.later i (omega arith) m t z)

    live : IndexedFrom v k (set (set index (buckets + k) x) b k)
    unfolding twice once
    live = record {
      long = length-set once b k ∙ long-once;
      first = λ c p. heads_new c p (ℕ_discrete c b);
      later = λ i p m t z. nexts_new i p m t z (ℕ_discrete i k);
    }

-- as the loop meets a slot: i is the lowest that was entered, and the one before it comes
module _ (v : Directory) (i : ℕ) (index : List ℕ) (w : IndexedFrom v i index) (p : 0 < i) where
  next : IndexedFrom v (suc (i - 1)) index
  next = let z : suc (i - 1) ≡ i = omega arith in rw z w

  pub entered_dead : v (i - 1) ≡ none → IndexedFrom v (i - 1) index
  entered_dead = dead v (i - 1) index next

  pub entered-live : i ≤ slots → (s : List ℕ) → v (i - 1) ≡ some s → {n : List ℕ} → n ≡ name_of s → (b : ℕ) → b ≡ bucket_of n → b < buckets
      → (x : ℕ) → x ≡ get_or index b 0 → {once twice : List ℕ} → once ≡ set index (buckets + (i - 1)) x → twice ≡ set once b (i - 1) → IndexedFrom v (i - 1) twice
  entered-live h s e q b r l x y f g =
      rw (g, f) (live v (i - 1) index next (omega arith) s e b (r ∙ ap bucket_of q) l x y)

pub entered_start : (d index : List ℕ) (end : ℕ) → end ≡ slots_read d → EmptyIndex index → IndexedFrom (directory d) end index
entered_start d index end e w = rw e (entered-none d index w)

pub entered_all : (d index : List ℕ) (end i : ℕ) → end ≡ slots_read d → IndexedFrom (directory d) i index → i ≤ 0 → Indexed d index end
entered_all d index end i e w h = let z : i ≡ 0 = omega arith in record { entered = rw z at w; read = e }

-- an index with another entry is as long
pub set_long : (l : List ℕ) (k x : ℕ) (m : List ℕ) → m ≡ set l k x → length m ≡ length l
set_long l k x m e = ap length e ∙ length-set l k x

-- an entry of a bucket is a slot's number, or 778
pub entry-small : (v : Directory) (i : ℕ) (index : List ℕ) → IndexedFrom v i index → (b x : ℕ) → b < buckets → x ≡ get_or index b 0 → x < 65536
entry-small v i index w b x l q = omega (arith, (w.first b l).most)

-- an index with every bucket empty
pub index_empty : EmptyIndex (replicate 1029 778)
index_empty = record { long = length-replicate {A = ℕ} 1029 778; empty = λ b h. get_or-replicate 1029 b 778 0 (omega arith) }
