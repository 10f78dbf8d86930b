-- Two marks as runs, in either order.
use Prim.Native.Nat.{ℕ, ◌≤◌}
use mathlib.Core.Path.{◌≡◌, refl, sym, ap, ap₂, ◌∙◌}
use mathlib.Core.Bool.{Bool, true, false}
use mathlib.Core.List.{List}
use native.Mathlib.Omega.{arith}
use borrow.Author.Tests.{le-ltb}
use lib.Dec.{ltb}
use lib.ListN.{length}
use Rattle.refusals.specs.Order.{Refusal}
use Rattle.disk.specs.View.{view}
use Rattle.files.specs.Calls.{SlotLookup, found_slot, refused_lookup, lookup}
use Rattle.plans.specs.Change.{Mark}
use Rattle.plans.specs.Plan.{Result, refused_result, new_disk}
use Rattle.plans.proofs.Exactly.{mark_exactly}
use Rattle.mark_order.specs.MarkCalls.{MarkCall, MarksOneName, OnePair, Commuting}
use Rattle.mark_order.specs.MarkOrder.{run_mark, OtherWay, EitherRun}
use Rattle.mark_order.proofs.Found.{mark_by, run_is, left, found_left}
use Rattle.mark_order.proofs.Pairs.{found_one, left_by, swap_left, later-left, apart-found}

-- by one slot, a mark is refused on one disk as on another, and names there what it names here
stopped_alike : (k : Mark) (s : SlotLookup) (room : ℕ) (d e : List ℕ) (r : Refusal) → mark_by k d room s ≡ refused_result r
    → mark_by k e room s ≡ refused_result r
stopped_alike k (refused_lookup q) room d e r w = w
stopped_alike k (found_slot i) room d e r w = by (ltb room 1) refl
  where
    by : (t : Bool) → ltb room 1 ≡ t → mark_by k e room (found_slot i) ≡ refused_result r
    by true q = rw q (rw q at w)
    by false q = let x = rw q at w in let z : ◌≡◌ {A = ℕ} 0 1 = cc in absurd (omega arith)

made_alike : (k : Mark) (s : SlotLookup) (room : ℕ) (d e new ss : List ℕ) → mark_by k d room s ≡ new_disk new ss
    → mark_by k e room s ≡ new_disk (left_by s k room e) ss
made_alike k (refused_lookup q) room d e new ss w = let z : ◌≡◌ {A = ℕ} 0 1 = cc in absurd (omega arith)
made_alike k (found_slot i) room d e new ss w = by (ltb room 1) refl
  where
    by : (t : Bool) → ltb room 1 ≡ t → mark_by k e room (found_slot i) ≡ new_disk (left_by (found_slot i) k room e) ss
    by true q = let x = rw q at w in let z : ◌≡◌ {A = ℕ} 0 1 = cc in absurd (omega arith)
    by false q = rw q (cc)

-- a mark on a disk on which its name finds what it found
module _ (t : MarkCall) (d e : List ℕ) (w : lookup (view e) t.name ≡ lookup (view d) t.name) where
  runs_here : run_mark t d ≡ mark_by t.sets d (length t.list) (lookup (view d) t.name)
  runs_here = run_is t.sets t.name d (length t.list)

  runs_there : run_mark t e ≡ mark_by t.sets e (length t.list) (lookup (view d) t.name)
  runs_there = run_is t.sets t.name e (length t.list) ∙ ap (mark_by t.sets e (length t.list)) w

  refused-there : (r : Refusal) → run_mark t d ≡ refused_result r → run_mark t e ≡ refused_result r
  refused-there r q =
      runs_there ∙ stopped_alike t.sets (lookup (view d) t.name) (length t.list) d e r (sym runs_here ∙ q)

  made-there : (new ss : List ℕ) → run_mark t d ≡ new_disk new ss
      → run_mark t e ≡ new_disk (left_by (lookup (view d) t.name) t.sets (length t.list) e) ss
  made-there new ss q =
      runs_there ∙ made_alike t.sets (lookup (view d) t.name) (length t.list) d e new ss (sym runs_here ∙ q)

-- what an accepted mark leaves, and what names find there
module _ (t : MarkCall) (d e ss : List ℕ) (w : run_mark t d ≡ new_disk e ss) where
  left_is : e ≡ left_by (lookup (view d) t.name) t.sets (length t.list) d
  left_is = ap (λ (x : Result). left x d) (sym w ∙ run_is t.sets t.name d (length t.list))

  finds-there : (m : List ℕ) → lookup (view e) m ≡ lookup (view d) m
  finds-there m = ap (λ (x : Result). lookup (view (left x d)) m) (sym w) ∙ found_left t.sets t.name d (length t.list) m

pub either_run : (a b : MarkCall) → Commuting a b → (d : List ℕ) → EitherRun a b d
either_run a b h d = record {
  both = both;
  first_stopped = λ e ts r p q. refused-there a d e (finds-there b d e ts q a.name) r p;
  second_stopped = λ e ss r p q. refused-there b e d (sym (finds-there a d e ss p b.name)) r q;
}
  where
    leaves : MarkCall → List ℕ → List ℕ
    leaves t x = left_by (lookup (view d) t.name) t.sets (length t.list) x

    both : (e f ss ts : List ℕ) → run_mark a d ≡ new_disk e ss → run_mark b e ≡ new_disk f ts → OtherWay a b d f ss ts
    both e f ss ts p q =
        let u : lookup (view e) b.name ≡ lookup (view d) b.name = finds-there a d e ss p b.name in
        let x : run_mark b d ≡ new_disk (leaves b d) ts =
        made-there b e d (sym u) f ts q ∙ ap (λ (s : SlotLookup). new_disk (left_by s b.sets (length b.list) d) ts) u in
        let y : run_mark a (leaves b d) ≡ new_disk (leaves a (leaves b d)) ss =
        made-there a d (leaves b d) (finds-there b d (leaves b d) ts x a.name) e ss p in
        let z : leaves a (leaves b d) ≡ f =
        sym
        (swap_left (lookup (view d) a.name) (lookup (view d) b.name) a.sets b.sets
        (length a.list) (length b.list) d (apart-found d a b h))
        ∙ ap (leaves b) (sym (left_is a d e ss p))
        ∙ ap (λ (s : SlotLookup). left_by s b.sets (length b.list) e) (sym u)
        ∙ sym (left_is b e f ts q) in
        record { between = leaves b d; first = x; second = y ∙ ap (λ (g : List ℕ). new_disk g ss) z }

-- "a mark twice is a mark once, and the later of a pair holds": the later one alone gives that disk and those sectors
pub later-run : (a b : MarkCall) → MarksOneName a b → OnePair a b → (d e f ss ts : List ℕ) → run_mark a d ≡ new_disk e ss → run_mark b e ≡ new_disk f ts
    → run_mark b d ≡ new_disk f ts
later-run a b n h d e f ss ts p q =
    let u : lookup (view e) b.name ≡ lookup (view d) b.name = finds-there a d e ss p b.name in
    let s : SlotLookup = lookup (view d) b.name in
    let l : ℕ = length b.list in
    let r : 1 ≤ l = ((mark_exactly e b.name l b.sets).0 (record { new = f; sectors = ts; gives = q })).list in
    let x : run_mark b d ≡ new_disk (left_by s b.sets l d) ts =
    made-there b e d (sym u) f ts q ∙ ap (λ (s : SlotLookup). new_disk (left_by s b.sets l d) ts) u in
    let y : e ≡ left_by s a.sets (length a.list) d =
    left_is a d e ss p ∙ ap (λ (s : SlotLookup). left_by s a.sets (length a.list) d) (found_one a b n d) in
    let z : f ≡ left_by s b.sets l d =
    left_is b e f ts q ∙ ap₂ (λ (s : SlotLookup) (x : List ℕ). left_by s b.sets l x) u y
    ∙ later-left s a.sets b.sets (length a.list) l d h (le-ltb l 1 r) in
    x ∙ ap (λ (g : List ℕ). new_disk g ts) (sym z)
