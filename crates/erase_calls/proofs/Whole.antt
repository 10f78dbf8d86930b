-- What is refused and what is written is what the definition gives.
use Prim.Native.Nat.{ℕ, ◌%◌, ◌≤◌, ◌<◌}
use mathlib.Core.Path.{◌≡◌, sym, ap, ap₂, ◌∙◌}
use mathlib.Core.Bool.{Bool, true, false}
use mathlib.Core.List.{List}
use mathlib.Core.Option.{none, some}
use native.Mathlib.Omega.{arith}
use borrow.Author.Tests.{lt-ltb, le-ltb, eq-eqb, ne_eqb}
use lib.Dec.{ltb}
use lib.ListN.{length}
use Rattle.buffers.specs.Bytes.{put}
use Rattle.maps.specs.Bits.{has}
use Rattle.refusals.specs.Order.{Refusal, refuse}
use Rattle.refusals.specs.Answers.{Outcome, done, refused}
use Rattle.directory.specs.Places.{slots}
use Rattle.directory.specs.Directory.{directory}
use Rattle.disk.specs.Check.{check_disk}
use Rattle.erase_many.specs.EraseMany.{how_many, answers_to, erased_all, sectors_with, sectors_of_all, pairs, many_reply, run_many, erased, erase_many}
use Rattle.erase_many.specs.ErasedMap.{erased_map, slots_cleared}
use Rattle.erase_many.proofs.Listed.{few-sectors}
use Rattle.erase_many.proofs.ErasedMap.{answers-same, sectors-same, disk-same}
use Rattle.slot_erasing.specs.Listed.{PutInFront}
use Rattle.erase_calls.specs.Erasing.{AllErased, ErasesAllowed}

-- room for every sector of the directory is room for those that change
pub never-short : (e : ℕ → Bool) (room : ℕ) → pairs ≤ room → false ≡ ltb room (length (sectors_with e))
never-short e room h = sym (le-ltb room (length (sectors_with e)) (omega (arith, few-sectors e)))

pub short_by : (room n : ℕ) (m t : List ℕ) → m ≡ t → n ≡ length (sectors_with (has m)) → {r : Bool} → r ≡ ltb room n → r ≡ ltb room (length (sectors_with (has t)))
short_by room n m t e q p = p ∙ ap (ltb room) (q ∙ ap (λ (m : List ℕ). length (sectors_with (has m))) e)

-- ---- refused before the names are looked at

module _ (d ns abuf buf : List ℕ) where
  pub many_err : (r : Refusal) → check_disk d ≡ some r → erased (refused r) d abuf buf ≡ erase_many d ns abuf buf
  unfolding erase_many run_many many_reply
  many_err r e = rw e

  pub many_uneven : check_disk d ≡ none → (length ns % 10 ≡ 0 → ⊥) → {o : Outcome} → o ≡ refused (refuse 23 0) → erased o d abuf buf ≡ erase_many d ns abuf buf
  unfolding erase_many run_many many_reply
  many_uneven a n q = rw (q, a, ne_eqb (length ns % 10) 0 n)

-- ---- and after

module _ (d ns abuf buf : List ℕ) (w : ErasesAllowed d ns) where
  pub short-answers : length abuf < how_many ns → {o : Outcome} → o ≡ refused (refuse 20 0) → erased o d abuf buf ≡ erase_many d ns abuf buf
  unfolding erase_many run_many many_reply
  short-answers h q = rw (q, w.accepted, eq-eqb (length ns % 10) 0 w.tens, lt-ltb (length abuf) (how_many ns) h)

  module _ (h : how_many ns ≤ length abuf) {r : Bool} (s : r ≡ ltb (length buf) (length (sectors_with (has (erased_map (directory d) ns (how_many ns)))))) where
    room : {t : Bool} → r ≡ t → ltb (length buf) (length (sectors_of_all d ns)) ≡ t
    room q = ap (λ (l : List ℕ). ltb (length buf) (length l)) (sym (sectors-same d w.accepted ns)) ∙ sym s ∙ q

    pub short-list : r ≡ true → {o : Outcome} → o ≡ refused (refuse 20 0) → erased o d abuf buf ≡ erase_many d ns abuf buf
    unfolding erase_many run_many many_reply
    short-list t q =
        rw (q, w.accepted, eq-eqb (length ns % 10) 0 w.tens, le-ltb (length abuf) (how_many ns) h, room t)

    given : r ≡ false → erased (done (length (sectors_of_all d ns)) 0) (erased_all d ns) (put abuf 0 (answers_to d ns)) (put buf 0 (sectors_of_all d ns)) ≡ erase_many d ns abuf buf
    unfolding erase_many run_many many_reply
    given t = rw (w.accepted, eq-eqb (length ns % 10) 0 w.tens, le-ltb (length abuf) (how_many ns) h, room t)

    pub all_written : r ≡ false → {n : ℕ} {new answers list m : List ℕ} → AllErased (directory d) ns (how_many ns) abuf answers m → PutInFront buf (sectors_with (has m)) list n
        → new ≡ slots_cleared d (has m) slots → erased (done n 0) new answers list ≡ erase_many d ns abuf buf
    all_written t {n} {new} {answers} {list} {m} x f y =
        let s : sectors_with (has m) ≡ sectors_of_all d ns = ap (λ (m : List ℕ). sectors_with (has m)) x.map ∙ sectors-same d w.accepted ns in
        ap₂ (λ (n : ℕ) (new : List ℕ). erased (done n 0) new answers list) (f.long ∙ ap length s)
        (y ∙ ap (λ (m : List ℕ). slots_cleared d (has m) slots) x.map ∙ disk-same d w.accepted ns)
        ∙ ap₂ (λ (answers list : List ℕ). erased (done (length (sectors_of_all d ns)) 0) (erased_all d ns) answers list)
        (x.answers ∙ ap (put abuf 0) (answers-same d w.accepted ns)) (f.numbers ∙ ap (put buf 0) s)
        ∙ given t
