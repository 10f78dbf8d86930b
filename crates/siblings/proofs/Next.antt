-- What the links say: the slots of a directory, one after another, and none left out.
use Prim.Native.Nat.{ℕ, zero, suc, ◌+◌, ◌-◌, ◌≤◌, ◌<◌}
use mathlib.Core.Path.{◌≡◌, refl, sym, ap, ◌∙◌, subst}
use mathlib.Core.Bool.{Bool, true, false, cond}
use mathlib.Core.List.{List}
use mathlib.Core.Option.{Option, none, some, some-ne-none}
use native.Mathlib.Numerals.{add-one}
use native.Mathlib.Omega.{arith}
use borrow.Author.Tests.{lt-ltb, le-ltb, eqb-true, eqb-false}
use lib.Dec.{eqb}
use lib.ListN.{length, get_or}
use Rattle.buffers.proofs.Lists.{length-tab, get_or-tab}
use Rattle.refusals.specs.Order.{scan_from, ◌else◌}
use Rattle.slots.specs.Slot.{parent_of}
use Rattle.directory.specs.Places.{slots}
use Rattle.directory.specs.Directory.{fold_option, Directory}
use Rattle.siblings.specs.Links.{in_at, next_in, next_sibling, link_at, links_of, link_entry}

-- slot n is in the directory with code c
pub record SlotInDirectory (v : Directory) (c n : ℕ) : Type 0 where
  pub bytes : List ℕ
  pub here : v n ≡ some bytes
  pub inside : parent_of bytes ≡ c

-- n is the lowest slot from i on in the directory with code c, 778 where there is none
pub record LowestInDirectory (v : Directory) (c i n : ℕ) : Type 0 where
  pub low : i ≤ n
  pub most : n ≤ slots
  pub found : n < slots → SlotInDirectory v c n
  pub skipped : (k : ℕ) (s : List ℕ) → i ≤ k → k < n → v k ≡ some s → parent_of s ≡ c → ⊥

module _ (v : Directory) (c : ℕ) where
  -- a slot that is not in it is passed over
  from_skip : (i n : ℕ) → LowestInDirectory v c (suc i) n → ((s : List ℕ) → v i ≡ some s → parent_of s ≡ c → ⊥) → LowestInDirectory v c i n
  from_skip i n f h = record {
    low = omega (arith, f.low);
    most = f.most;
    found = f.found;
    skipped = λ k s l m e q. by k s l m e q (eqb k i) refl;
  }
    where
      by : (k : ℕ) (s : List ℕ) → i ≤ k → k < n → v k ≡ some s → parent_of s ≡ c → (b : Bool) → eqb k i ≡ b → ⊥
      by k s l m e q true w = h s (ap v (sym (eqb-true k i w)) ∙ e) q
      by k s l m e q false w = f.skipped k s (let z = eqb-false k i w in omega arith) m e q

  from_scan : (m i : ℕ) → i + m ≡ slots → LowestInDirectory v c i (fold_option slots (λ k. k) (scan_from m i (in_at v c)))
  unfolding scan_from in_at
  from_scan zero i e = record { low = omega arith; most = omega arith; found = λ l. absurd (omega arith); skipped = λ k s l w q p. absurd (omega arith) }
  from_scan (suc m) i e = at (v i) refl (from_scan m (suc i) (omega arith))
    where
      rest : Option ℕ
      rest = scan_from m (suc i) (in_at v c)

      on : (s : List ℕ) → v i ≡ some s → LowestInDirectory v c (suc i) (fold_option slots (λ k. k) rest) → (b : Bool) → eqb (parent_of s) c ≡ b
          → LowestInDirectory v c i (fold_option slots (λ k. k) (cond b (some i) none else rest))
      on s q f true w = record {
        low = omega arith;
        most = omega arith;
        found = λ l. record { bytes = s; here = q; inside = eqb-true (parent_of s) c w };
        skipped = λ k t l x y p. absurd (omega arith);
      }
      on s q f false w = from_skip i _ f (λ t y p. eqb-false (parent_of s) c w (ap (fold_option 0 parent_of) (sym q ∙ y) ∙ p))

      at : (o : Option (List ℕ)) → v i ≡ o → LowestInDirectory v c (suc i) (fold_option slots (λ k. k) rest)
          → LowestInDirectory v c i (fold_option slots (λ k. k) (fold_option none (λ s. cond (eqb (parent_of s) c) (some i) none) o else rest))
      at none q f = from_skip i _ f (λ t y p. absurd (some-ne-none _ (sym y ∙ q)))
      at (some s) q f = on s q f (eqb (parent_of s) c) refl

  pub next_from : (i : ℕ) → i ≤ slots → LowestInDirectory v c i (next_in v c i)
  unfolding next_in
  next_from i h = from_scan (slots - i) i (omega arith)

-- ---- the table

pub links-long : (v : Directory) → length (links_of v) ≡ 1034
unfolding links_of
links-long v = length-tab 1034 (link_at v)

module _ (links : List ℕ) (k : ℕ) where
  pub entry_in : k < 1034 → link_entry links k ≡ get_or links k 0
  unfolding link_entry
  entry_in h = rw (lt-ltb k 1034 h)

module _ (v : Directory) (links : List ℕ) (e : links ≡ links_of v) where
  at_link : (k : ℕ) → k < 1034 → link_entry links k ≡ link_at v k
  unfolding links_of
  at_link k h = entry_in links k h ∙ ap (λ (l : List ℕ). get_or l k 0) e ∙ get_or-tab 1034 (link_at v) k h

  pub first_link : (c : ℕ) → c < 256 → (n : ℕ) → n ≡ link_entry links c → LowestInDirectory v c 0 n
  first_link c h n q =
      let z : link_at v c ≡ next_in v c 0 = rw (lt-ltb c 256 h) in
      subst (LowestInDirectory v c 0) (sym (q ∙ at_link c (omega arith) ∙ z)) (next_from v c 0 (omega arith))

  pub next_link : (i : ℕ) (s : List ℕ) → i < slots → v i ≡ some s → (n : ℕ) → n ≡ link_entry links (256 + i) → LowestInDirectory v (parent_of s) (i + 1) n
  unfolding next_sibling
  next_link i s h w n q =
      let y : (256 + i) - 256 ≡ i = omega arith in
      let z : link_at v (256 + i) ≡ next_in v (parent_of s) (i + 1) = rw (le-ltb (256 + i) 256 (omega arith), y, w, add-one i) in
      subst (LowestInDirectory v (parent_of s) (i + 1)) (sym (q ∙ at_link (256 + i) (omega arith) ∙ z)) (next_from v (parent_of s) (i + 1) (omega arith))
