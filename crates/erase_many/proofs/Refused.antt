-- When an erase-many is refused, and when it is accepted: exactly then, and nothing lent changes where it is refused.
use Prim.Native.Nat.{ℕ, ◌*◌, ◌/◌, ◌%◌, ◌<◌}
use mathlib.Core.Path.{◌≡◌, refl, sym, ap, ◌∙◌}
use mathlib.Core.Bool.{Bool, cond}
use mathlib.Core.List.{List}
use mathlib.Core.Logic.{◌≢◌, ◌↔◌, ⊎_elim}
use mathlib.Core.Option.{none, some}
use native.Mathlib.Omega.{arith}
use borrow.Author.Tests.{ltb-false, le-ltb, eqb-true, eq-eqb}
use lib.Dec.{eqb, ltb}
use lib.ListN.{length}
use Rattle.buffers.specs.Bytes.{put}
use Rattle.refusals.specs.Order.{Refusal, refuse, Reply, ◌else◌, row}
use Rattle.refusals.specs.Answers.{done, refused}
use Rattle.refusals.proofs.First.{else_none, else_some, first_row, row_else, row_first, first-row}
use Rattle.disk.specs.Check.{check_disk}
use Rattle.disk.proofs.Order.{check_positive}
use Rattle.files.specs.Refused.{by_check, by_row}
use Rattle.plans.specs.Plan.{Result, refused_result, new_disk, checked_result}
use Rattle.plans.proofs.SafeSteps.{row-none, not_none}
use Rattle.erase_many.specs.EraseMany.{how_many, answers_to, erased_all, sectors_of_all, not_tens, many_reply, many_rows, RefusesMany, run_many, erased, erased_by_result, erase_many}
use Rattle.erase_many.specs.EraseManyCut.{EraseManyAllowed}

module _ (d ns : List ℕ) (answers room : ℕ) where
  abbrev t23 : Bool
  t23 = not_tens ns

  abbrev t20 : Bool
  t20 = ltb answers (how_many ns)

  abbrev u20 : Bool
  u20 = ltb room (length (sectors_of_all d ns))

  -- the disk check, and then the first row that holds
  reply-rows : many_reply d ns answers room ≡ (check_disk d else first_row (many_rows d ns answers room))
  unfolding many_reply many_rows
  reply-rows =
      ap (λ (q : Reply). check_disk d else q)
      (row_else 23 0 t23 (row 20 0 t20 else row 20 0 u20) ∙ ap (λ (q : Reply). cond t23 (some (refuse 23 0)) q) (row_else 20 0 t20 (row 20 0 u20)))

  reply_refuses : (r : Refusal) → many_reply d ns answers room ≡ some r → RefusesMany d ns answers room r
  reply_refuses r e =
      ⊎_elim by_check (λ a. by_row a.0 (row_first (many_rows d ns answers room) r a.1))
      (else_some (check_disk d) (first_row (many_rows d ns answers room)) r (sym reply-rows ∙ e))

  refuses_reply : (r : Refusal) → RefusesMany d ns answers room r → many_reply d ns answers room ≡ some r
  refuses_reply r (by_check a) = reply-rows ∙ ap (λ (q : Reply). q else first_row (many_rows d ns answers room)) a
  refuses_reply r (by_row a f) =
      reply-rows ∙ ap (λ (q : Reply). q else first_row (many_rows d ns answers room)) a ∙ first-row (many_rows d ns answers room) r f

  run-reply : (r : Refusal) → run_many ns d answers room ≡ refused_result r → many_reply d ns answers room ≡ some r
  unfolding run_many
  run-reply r e = by (many_reply d ns answers room) e
    where
      by : (q : Reply) → checked_result q (new_disk (erased_all d ns) (sectors_of_all d ns)) ≡ refused_result r → q ≡ some r
      by none w = let z : ◌≡◌ {A = ℕ} 0 1 = cc in absurd (omega arith)
      by (some s) w = let z : s ≡ r = cc in ap some z

  pub refused_exactly : (r : Refusal) → (run_many ns d answers room ≡ refused_result r) ↔ RefusesMany d ns answers room r
  unfolding run_many
  refused_exactly r = (
    λ e. reply_refuses r (run-reply r e),
    λ w. ap (λ (q : Reply). checked_result q (new_disk (erased_all d ns) (sectors_of_all d ns))) (refuses_reply r w),
  )

  -- ---- accepted

  reply_grants : many_reply d ns answers room ≡ none → EraseManyAllowed d ns answers room
  unfolding many_reply
  reply_grants e =
      let a = else_none (check_disk d) (row 23 0 t23 else row 20 0 t20 else row 20 0 u20) e in
      let b = else_none (row 23 0 t23) (row 20 0 t20 else row 20 0 u20) a.1 in
      let c = else_none (row 20 0 t20) (row 20 0 u20) b.1 in
      let z : length ns % 10 ≡ 0 = eqb-true (length ns % 10) 0 (not_none 23 0 (eqb (length ns % 10) 0) b.0) in
      record {
        disk = a.0;
        tens = (length ns / 10, omega arith);
        answered = ltb-false answers (how_many ns) (row-none 20 0 t20 c.0);
        list = ltb-false room (length (sectors_of_all d ns)) (row-none 20 0 u20 c.1);
      }

  grants_reply : EraseManyAllowed d ns answers room → many_reply d ns answers room ≡ none
  unfolding many_reply
  grants_reply g =
      let k : ℕ = g.tens.0 in
      let z : length ns % 10 ≡ 0 = let w : length ns ≡ 10 * k = g.tens.1 in omega arith in
      rw (g.disk, eq-eqb (length ns % 10) 0 z, le-ltb answers (how_many ns) g.answered, le-ltb room (length (sectors_of_all d ns)) g.list)

  -- it is made so, and what it gives then
  pub run_grants : (new ss : List ℕ) → run_many ns d answers room ≡ new_disk new ss → EraseManyAllowed d ns answers room × (erased_all d ns ≡ new) × (sectors_of_all d ns ≡ ss)
  unfolding run_many
  run_grants new ss e = by (many_reply d ns answers room) refl e
    where
      by : (q : Reply) → many_reply d ns answers room ≡ q → checked_result q (new_disk (erased_all d ns) (sectors_of_all d ns)) ≡ new_disk new ss
          → EraseManyAllowed d ns answers room × (erased_all d ns ≡ new) × (sectors_of_all d ns ≡ ss)
      by none q w = (reply_grants q, cc, cc)
      by (some r) q w = let z : ◌≡◌ {A = ℕ} 0 1 = cc in absurd (omega arith)

  pub grants_run : EraseManyAllowed d ns answers room → run_many ns d answers room ≡ new_disk (erased_all d ns) (sectors_of_all d ns)
  unfolding run_many
  grants_run g = ap (λ (q : Reply). checked_result q (new_disk (erased_all d ns) (sectors_of_all d ns))) (grants_reply g)

  -- no refusal has the number 0
  pub refused_positive : (r : Refusal) → RefusesMany d ns answers room r → r.number ≢ 0
  unfolding many_rows
  refused_positive r (by_check a) = check_positive d r a
  refused_positive r (by_row a f) =
      ⊎_elim (λ b. numbered 23 b.1 (omega arith))
      (λ b. ⊎_elim (λ c. numbered 20 c.1 (omega arith)) (λ c. ⊎_elim (λ e. numbered 20 e.1 (omega arith)) (λ e. absurd e.1) c.1) b.1) f
    where
      numbered : (n : ℕ) → refuse n 0 ≡ r → 0 < n → r.number ≢ 0
      numbered n e h z = let q : n ≡ r.number = ap (λ (x : Refusal). x.number) e in omega arith

-- ---- of the call

module _ (d ns abuf buf : List ℕ) where
  pub many-refused : (r : Refusal) → ((erase_many d ns abuf buf).outcome ≡ refused r) ↔ RefusesMany d ns (length abuf) (length buf) r
  unfolding erase_many
  many-refused r = (
    λ e. (refused_exactly d ns (length abuf) (length buf) r).0 (by (run_many ns d (length abuf) (length buf)) e),
    λ w. ap (λ (x : Result). (erased_by_result x d ns abuf buf).outcome) ((refused_exactly d ns (length abuf) (length buf) r).1 w),
  )
    where
      by : (x : Result) → (erased_by_result x d ns abuf buf).outcome ≡ refused r → x ≡ refused_result r
      by (refused_result s) w = let z : s ≡ r = cc in ap refused_result z
      by (new_disk new ss) w = cc

  -- demand 1: nothing lent changes then
  pub many_unchanged : (r : Refusal) → (erase_many d ns abuf buf).outcome ≡ refused r → erase_many d ns abuf buf ≡ erased (refused r) d abuf buf
  unfolding erase_many
  many_unchanged r e =
      ap (λ (x : Result). erased_by_result x d ns abuf buf) ((refused_exactly d ns (length abuf) (length buf) r).1 ((many-refused r).0 e))

  -- accepted exactly then; and the whole of what it gives
  pub many_allowed : ((erase_many d ns abuf buf).outcome ≡ done (length (sectors_of_all d ns)) 0) ↔ EraseManyAllowed d ns (length abuf) (length buf)
  unfolding erase_many
  many_allowed = (
    λ e. by (run_many ns d (length abuf) (length buf)) refl e,
    λ g. ap (λ (x : Result). (erased_by_result x d ns abuf buf).outcome) (grants_run d ns (length abuf) (length buf) g),
  )
    where
      by : (x : Result) → run_many ns d (length abuf) (length buf) ≡ x → (erased_by_result x d ns abuf buf).outcome ≡ done (length (sectors_of_all d ns)) 0 → EraseManyAllowed d ns (length abuf) (length buf)
      by (refused_result s) q w = let z : ◌≡◌ {A = ℕ} 0 1 = cc in absurd (omega arith)
      by (new_disk new ss) q w = (run_grants d ns (length abuf) (length buf) new ss q).0

  pub many-gives : EraseManyAllowed d ns (length abuf) (length buf)
      → erase_many d ns abuf buf ≡ erased (done (length (sectors_of_all d ns)) 0) (erased_all d ns) (put abuf 0 (answers_to d ns)) (put buf 0 (sectors_of_all d ns))
  unfolding erase_many
  many-gives g = ap (λ (x : Result). erased_by_result x d ns abuf buf) (grants_run d ns (length abuf) (length buf) g)
