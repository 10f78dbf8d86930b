-- A slot found by its name is the lowest live one that has it, and where none is found no live slot has it.
use Prim.Native.Nat.{ℕ, ◌-◌, ◌≤◌, ◌<◌}
use mathlib.Core.Path.{◌≡◌, refl, sym, ap, ◌∙◌}
use mathlib.Core.Bool.{Bool, true, false, cond}
use mathlib.Core.List.{List}
use mathlib.Core.Option.{Option, none, some, some-ne-none}
use native.Mathlib.Omega.{arith}
use lib.ListN.{length, replicate, length-append}
use Rattle.buffers.proofs.Lists.{length_part}
use Rattle.refusals.specs.Order.{scan_from}
use Rattle.refusals.proofs.First.{scan_start, scan-none, none-scan, none-scan_from, scan_cong, scan-first, first-scan}
use Rattle.slots.specs.Slot.{name_of}
use Rattle.names.specs.Name.{same_name, Same, padded}
use Rattle.names.proofs.Names.{same-long, same_right}
use Rattle.directory.specs.Places.{slots}
use Rattle.directory.specs.Directory.{fold_option, Directory, slots_read, directory}
use Rattle.directory.specs.Find.{match_at, find}
use Rattle.directory.proofs.Live.{directory-unread}

-- slot i is live and has the name, and no lower live slot has it
pub record FoundBy (v : Directory) (n : List ℕ) (i : ℕ) : Type 0 where
  pub below : i < slots
  pub bytes : List ℕ
  pub here : v i ≡ some bytes
  pub name : Same (name_of bytes) (padded n)
  pub before : (k : ℕ) → k < i → (t : List ℕ) → v k ≡ some t → Same (name_of t) (padded n) → ⊥

-- ---- at a slot

hit_live : (v : Directory) (n : List ℕ) (i : ℕ) (s : List ℕ) → v i ≡ some s → Same (name_of s) (padded n) → match_at v n i ≡ some i
hit_live v n i s e q = rw (e, q)

-- ---- what an answer says

missed : (v : Directory) (n : List ℕ) (k : ℕ) → match_at v n k ≡ none → (t : List ℕ) → v k ≡ some t → Same (name_of t) (padded n) → ⊥
missed v n k e t p q = some-ne-none k (sym (hit_live v n k t p q) ∙ e)

pub find_none : (v : Directory) (n : List ℕ) → find v n ≡ none → (k : ℕ) → k < slots → (t : List ℕ) → v k ≡ some t → Same (name_of t) (padded n) → ⊥
unfolding find
find_none v n e k h = missed v n k (scan-none slots (match_at v n) e k h)

unnamed : (v : Directory) (n : List ℕ) (k : ℕ) → ((t : List ℕ) → v k ≡ some t → Same (name_of t) (padded n) → ⊥) → match_at v n k ≡ none
unnamed v n k h = by (v k) refl
  where
    named : (s : List ℕ) (t : Bool) → v k ≡ some s → same_name (name_of s) (padded n) ≡ t → cond {A = Option ℕ} t (some k) none ≡ none
    named s true p q = absurd (h s p q)
    named s false p q = refl

    by : (o : Option (List ℕ)) → v k ≡ o → fold_option none (λ s. cond (same_name (name_of s) (padded n)) (some k) none) o ≡ none
    by none p = refl
    by (some s) p = named s (same_name (name_of s) (padded n)) p refl

-- what a hit is
hit_says : (v : Directory) (n : List ℕ) (k i : ℕ) → match_at v n k ≡ some i → (k ≡ i) × (s : List ℕ) × (v k ≡ some s) × Same (name_of s) (padded n)
hit_says v n k i e = by (v k) refl e
  where
    named : (s : List ℕ) (t : Bool) → v k ≡ some s → same_name (name_of s) (padded n) ≡ t → cond t (some k) none ≡ some i
        → (k ≡ i) × (s : List ℕ) × (v k ≡ some s) × Same (name_of s) (padded n)
    named s true p q w = (cc, s, p, q)
    named s false p q w = absurd (some-ne-none i (sym w))

    by : (o : Option (List ℕ)) → v k ≡ o → fold_option none (λ s. cond (same_name (name_of s) (padded n)) (some k) none) o ≡ some i
        → (k ≡ i) × (s : List ℕ) × (v k ≡ some s) × Same (name_of s) (padded n)
    by none p w = absurd (some-ne-none i (sym w))
    by (some s) p w = named s (same_name (name_of s) (padded n)) p refl w

pub find-some : (v : Directory) (n : List ℕ) (i : ℕ) → find v n ≡ some i → FoundBy v n i
unfolding find
find-some v n i e =
    let f = scan-first slots (match_at v n) i e in
    let s = hit_says v n f.at i f.here in
    rw (← s.0)
    (record { below = f.below; bytes = s.1; here = s.2; name = s.3; before = λ k h. missed v n k (f.before k h) })

-- the lowest live slot that has the name is the one found
pub some-find : (v : Directory) (n : List ℕ) (i : ℕ) → FoundBy v n i → find v n ≡ some i
unfolding find
some-find v n i f =
    first-scan slots (match_at v n) i
    (record {
      at = i;
      below = f.below;
      before = λ k h. unnamed v n k (f.before k h);
      here = hit_live v n i f.bytes f.here f.name;
    })

pub none-find : (v : Directory) (n : List ℕ) → ((k : ℕ) → k < slots → (t : List ℕ) → v k ≡ some t → Same (name_of t) (padded n) → ⊥) → find v n ≡ none
unfolding find
none-find v n h = none-scan slots (match_at v n) (λ k l. unnamed v n k (h k l))

-- each spelling of a name finds the same slot
pub find-same : (v : Directory) (m n : List ℕ) → Same (padded m) (padded n) → find v m ≡ find v n
unfolding find
find-same v m n e = scan_cong slots (match_at v m) (match_at v n) (λ i h. by i (v i))
  where
    by : (i : ℕ) (o : Option (List ℕ)) → fold_option none (λ s. cond (same_name (name_of s) (padded m)) (some i) none) o ≡ fold_option none (λ s. cond (same_name (name_of s) (padded n)) (some i) none) o
    by i none = refl
    by i (some s) = ap (λ (t : Bool). cond t (some i) none) (same_right (padded m) (padded n) (name_of s) e)

-- ---- as the loop meets it

pub find_start : (v : Directory) (n : List ℕ) → find v n ≡ scan_from (slots - 0) 0 (match_at v n)
unfolding find
find_start v n = scan_start slots (match_at v n)

-- past the slots that are read there is no name
pub find-rest : (d n : List ℕ) (i : ℕ) → slots_read d ≤ i → scan_from (slots - i) i (match_at (directory d) n) ≡ none
find-rest d n i h = none-scan_from (slots - i) i (match_at (directory d) n) (λ j l k. rw (directory-unread d j (omega arith)))

-- a name of more than ten bytes no slot has
pub find-long : (v : Directory) (n : List ℕ) → 10 < length n → none ≡ find v n
unfolding padded
find-long v n h =
    sym (none-find v n (λ k l t p q. absurd (omega (arith, length_part 1 10 t, same-long (name_of t) (padded n) q, length-append n (replicate (10 - length n) 32)))))
