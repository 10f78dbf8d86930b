-- Refusals of the table at slots of the directory: the checks give no other.
use Prim.Native.Nat.{ℕ, suc, ◌≤◌, ◌<◌}
use mathlib.Core.Path.{◌≡◌, refl, sym, subst}
use mathlib.Core.Bool.{Bool, true, false, cond, not, ◌&&◌}
use mathlib.Core.List.{List, [], ◌∷◌}
use mathlib.Core.Option.{Option, none, some}
use native.Mathlib.Omega.{arith}
use borrow.Author.Tests.{leb-true}
use lib.Dec.{eqb, leb}
use Rattle.buffers.proofs.Tests.{and_both}
use Rattle.geometry.specs.Disk.{image_size}
use Rattle.refusals.specs.Order.{refuse, Reply, ◌else◌, Row, rows, row, scan}
use Rattle.refusals.specs.Answers.{last_number}
use Rattle.refusals.proofs.First.{scan-first}
use Rattle.chains.specs.File.{File}
use Rattle.directory.specs.Places.{slots}
use Rattle.directory.specs.Directory.{fold_option}
use Rattle.disk.specs.View.{View}
use Rattle.disk.specs.Check.{check_by, check_view}
use Rattle.slots.specs.Tracks.{bad_tracks}
use Rattle.disk.specs.Given.{rows_by, rows11}
use Rattle.disk.proofs.Order.{pass_at, pass, check_passes, rows_by-kind, chain_by_kind}

-- a refusal of the table at a slot of the directory, or none
abbrev pub Small : Reply → Type 0
Small none = Unit {0}
Small (some r) = (r.number ≤ last_number) × (r.slot ≤ 778)

pub small_else : (p q : Reply) → Small p → Small q → Small (p else q)
small_else none q a b = b
small_else (some r) q a b = a

abbrev few : List Row → Bool
few [] = true
few (r ∷ rs) = leb r.number last_number && few rs

small-rows : (s : ℕ) (rs : List Row) → s ≤ 778 → few rs ≡ true → Small (rows s rs)
small-rows s [] h e = tt
small-rows s (r ∷ rs) h e =
    let c = and_both (leb r.number last_number) (few rs) e in
    by r.holds (leb-true r.number last_number c.0) (small-rows s rs h c.1)
  where
    by : (t : Bool) → r.number ≤ last_number → Small (rows s rs) → Small (cond t (some (refuse r.number s)) (rows s rs))
    by true a b = (a, h)
    by false a b = b

pub small_row : (n s : ℕ) (t : Bool) → n ≤ last_number → s ≤ 778 → Small (row n s t)
small_row n s true p q = (p, q)
small_row n s false p q = tt

pub small-scan : (n : ℕ) (f : ℕ → Reply) → ((i : ℕ) → i < n → Small (f i)) → Small (scan n f)
small-scan n f h = by (scan n f) refl
  where
    by : (q : Reply) → scan n f ≡ q → Small q
    by none e = tt
    by (some r) e = let w = scan-first n f r e in subst Small w.here (h w.at w.below)

small_pass : (l : View) (rs : ℕ → File → List Row) → ((i : ℕ) (f : File) → few (rs i f) ≡ true) → Small (pass l rs)
small_pass l rs h = small-scan slots (pass_at l rs) (λ i k. by i k (l.files i))
  where
    by : (i : ℕ) → i < slots → (o : Option File) → Small (fold_option none (λ f. rows (suc i) (rs i f)) o)
    by i k none = tt
    by i k (some f) = small-rows (suc i) (rs i f) (omega arith) (h i f)

pub small_by : (release : Bool) (l : View) → Small (check_by release l)
small_by release l =
    subst Small (sym (check_passes release l))
    (small_else (row 1 0 (not (eqb l.long image_size))) (row 24 0 (bad_tracks (l.label 255)) else pass l (rows_by release l) else pass l (rows11 l))
    (small_row 1 0 (not (eqb l.long image_size)) (omega arith) (omega arith))
    (small_else (row 24 0 (bad_tracks (l.label 255))) (pass l (rows_by release l) else pass l (rows11 l)) (small_row 24 0 (bad_tracks (l.label 255)) (omega arith) (omega arith))
    (small_else (pass l (rows_by release l)) (pass l (rows11 l)) (small_pass l (rows_by release l) (by release)) (small_pass l (rows11 l) (λ i f. chain_by_kind (λ rs. few rs ≡ true) l i f refl refl)))))
  where
    by : (release : Bool) (i : ℕ) (f : File) → few (rows_by release l i f) ≡ true
    by true i f = rows_by-kind (λ rs. few rs ≡ true) true l i f refl refl
    by false i f = rows_by-kind (λ rs. few rs ≡ true) false l i f refl refl

pub check_small : (l : View) → Small (check_view l)
check_small l = small_by false l
