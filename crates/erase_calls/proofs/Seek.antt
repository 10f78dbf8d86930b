-- A slot by its name, as the loop looks for it along a bucket.
use Prim.Native.Nat.{ℕ, suc, ◌+◌, ◌-◌, ◌≤◌, ◌<◌}
use mathlib.Core.Path.{◌≡◌, refl, sym, ap, ◌∙◌}
use mathlib.Core.Bool.{Bool, true, false, and-eq-true_iff, true≢false}
use mathlib.Core.List.{List, append-nil}
use mathlib.Core.Logic.{⊎_elim}
use mathlib.Core.Option.{Option, none, some, some-ne-none}
use native.Mathlib.Omega.{arith}
use borrow.Author.Tests.{eqb-true}
use lib.Dec.{eqb}
use lib.ListN.{length, get_or}
use Rattle.buffers.proofs.Lists.{below_or_not}
use Rattle.maps.specs.Bits.{has}
use Rattle.slots.specs.Slot.{is_live, is_named, name_of}
use Rattle.names.specs.Name.{same_name, Same, padded}
use Rattle.names.proofs.Keys.{key_same}
use Rattle.directory.specs.Places.{slots}
use Rattle.directory.specs.Directory.{fold_option, Directory, directory, slot_or}
use Rattle.directory.specs.Find.{find}
use Rattle.directory.proofs.Ends.{slot_read}
use Rattle.directory.proofs.Live.{directory-some}
use Rattle.directory.proofs.Search.{some-find, none-find}
use Rattle.nesting.specs.Steps.{not_erased}
use Rattle.nesting.proofs.Others.{left-gone, left_here, left_was}
use Rattle.erase_calls.specs.Index.{buckets, bucket_of, in_bucket, IndexedFrom}
use Rattle.erase_calls.proofs.Index.{in_own}

-- ---- along a bucket

-- a slot in a bucket holds a file, whose name is in it
bucket_holds : (v : Directory) (b i : ℕ) → in_bucket v b i ≡ true → (s : List ℕ) × (v i ≡ some s) × (bucket_of (name_of s) ≡ b)
unfolding in_bucket
bucket_holds v b i e = by (v i) refl e
  where
    by : (o : Option (List ℕ)) → v i ≡ o → fold_option false (λ s. eqb (bucket_of (name_of s)) b) o ≡ true → (s : List ℕ) × (v i ≡ some s) × (bucket_of (name_of s) ≡ b)
    by none p q = absurd (true≢false (sym q))
    by (some s) p q = (s, p, eqb-true (bucket_of (name_of s)) b q)

bucket_same : (a b : List ℕ) → Same a b → bucket_of a ≡ bucket_of b
unfolding bucket_of
bucket_same a b e = rw (key_same a b e)

-- a name of ten bytes is filled already
padded-ten : (n : List ℕ) → length n ≡ 10 → padded n ≡ n
unfolding padded
padded-ten n e = rw e (append-nil n)

named_name : (s n : List ℕ) → is_named s n ≡ true → same_name (name_of s) n ≡ true
unfolding is_named
named_name s n e = ((and-eq-true_iff (is_live s) (same_name (name_of s) n)).0 e).1

-- no slot below c is left and has the name; slot c is in the name's bucket
pub record SeekLoop (d m n : List ℕ) (c : ℕ) : Type 0 where
  pub most : c ≤ slots
  pub here : c < slots → in_bucket (directory d) (bucket_of n) c ≡ true
  pub before : (j : ℕ) → j < c → (t : List ℕ) → not_erased (directory d) m j ≡ some t → Same (name_of t) n → ⊥

module _ (d m n index : List ℕ) (w : IndexedFrom (directory d) 0 index) where
  -- a slot of another bucket has another name
  unlike : (j : ℕ) → in_bucket (directory d) (bucket_of n) j ≡ false → (t : List ℕ) → not_erased (directory d) m j ≡ some t → Same (name_of t) n → ⊥
  unlike j e t p q =
      true≢false (sym (in_own (directory d) j t (left_was (directory d) m j t p) (bucket_of n) (bucket_same (name_of t) n q)) ∙ e)

  pub seek_start : (b : ℕ) → b ≡ bucket_of n → b < buckets → (c : ℕ) → c ≡ get_or index b 0 → SeekLoop d m n c
  seek_start b p l c q =
      let f = w.first b l in
      record {
        most = omega (arith, f.most);
        here = λ h. rw (q, ← p) (f.here (omega arith));
        before = λ j h. unlike j (rw (← p) (f.before j (omega arith) (omega arith)));
      }

  module _ (c : ℕ) (s : SeekLoop d m n c) (h : c < slots) (x : ℕ) (q : x ≡ get_or index (buckets + c) 0) where
    pub seek_less : slots - x < slots - c
    seek_less = let f = bucket_holds (directory d) (bucket_of n) c (s.here h) in omega (arith, (w.later c (omega arith) h f.0 f.1).least)

    -- the slot c is not the one
    seek_more : ((t : List ℕ) → not_erased (directory d) m c ≡ some t → Same (name_of t) n → ⊥) → SeekLoop d m n x
    seek_more k =
        let f = bucket_holds (directory d) (bucket_of n) c (s.here h) in
        let l = w.later c (omega arith) h f.0 f.1 in
        record {
          most = omega (arith, l.most);
          here = λ p. rw (q, ← f.2) (l.here (omega arith));
          before = λ j p.
              ⊎_elim (λ (y : j < c). s.before j y)
              (λ (y : c ≤ j). ⊎_elim (λ (z : j < suc c). let u : j ≡ c = omega arith in rw u k) (λ (z : suc c ≤ j). unlike j (rw (← f.2) (l.before j z (omega arith)))) (below_or_not j (suc c)))
              (below_or_not j c);
        }

    pub seek_gone : has m c ≡ true → SeekLoop d m n x
    seek_gone e = seek_more (λ t p. absurd (some-ne-none t (sym p ∙ left-gone (directory d) m c e)))

    module _ (g : has m c ≡ false) (y : List ℕ) (e : y ≡ slot_or d c) (r : Bool) (u : r ≡ is_named y n) where
      -- the bytes of the slot
      bytes : (t : List ℕ) → directory d c ≡ some t → y ≡ t
      bytes t p = e ∙ slot_read d c h ∙ sym (directory-some d c t p).1

      pub seek_other : r ≡ false → SeekLoop d m n x
      unfolding is_named
      seek_other z =
          seek_more
          (λ t p k.
          let v : directory d c ≡ some t = left_was (directory d) m c t p in
          let b : is_live y ≡ true = ap is_live (bytes t v) ∙ (directory-some d c t v).2 in
          let a : same_name (name_of y) n ≡ true = ap (λ (y : List ℕ). same_name (name_of y) n) (bytes t v) ∙ k in
          true≢false (sym (u ∙ rw (b, a)) ∙ z))

      pub seek_found : length n ≡ 10 → r ≡ true → find (not_erased (directory d) m) n ≡ some c
      seek_found l z =
          let f = bucket_holds (directory d) (bucket_of n) c (s.here h) in
          let k = named f.0 f.1 in
          some-find (not_erased (directory d) m) n c
          (record {
            below = h;
            bytes = f.0;
            here = left_here (directory d) m c g ∙ f.1;
            name = rw (padded-ten n l) k;
            before = λ j p t a b. s.before j p t a (rw (padded-ten n l) at b);
          })
        where
          named : (t : List ℕ) → directory d c ≡ some t → Same (name_of t) n
          named t p = ap (λ (y : List ℕ). same_name (name_of y) n) (sym (bytes t p)) ∙ named_name y n (sym u ∙ z)

pub seek_none : (d m n : List ℕ) (c : ℕ) → SeekLoop d m n c → slots ≤ c → length n ≡ 10 → find (not_erased (directory d) m) n ≡ none
seek_none d m n c s h l = none-find (not_erased (directory d) m) n (λ j p t a b. s.before j (omega arith) t a (rw (padded-ten n l) at b))
