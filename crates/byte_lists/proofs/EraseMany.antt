-- Erasing many files with a list of bytes is the same with a list of numbers: a directory has 389 sectors at most, so that many
-- numbers are always room enough.
use Prim.Native.Nat.{ℕ, ◌*◌, ◌/◌, ◌≤◌, min}
use mathlib.Core.Path.{◌≡◌, refl, sym, ap, ◌∙◌}
use mathlib.Core.Bool.{Bool}
use mathlib.Core.List.{List, ◌++◌}
use native.Mathlib.Omega.{arith}
use lib.Dec.{ltb}
use lib.ListN.{length, take, drop}
use Rattle.buffers.specs.Bytes.{put}
use Rattle.refusals.specs.Order.{Refusal, ◌else◌, row}
use Rattle.refusals.specs.Answers.{Outcome, done, refused}
use Rattle.disk.specs.Check.{check_disk}
use Rattle.plans.specs.Plan.{Result, refused_result, new_disk, checked_result}
use Rattle.erase_many.specs.EraseMany.{how_many, answers_to, erased_all, is_erased, sectors_of_all, pairs, not_tens, many_reply, run_many, Erased, erased, erased_by_result, erase_many}
use Rattle.erase_many.proofs.Listed.{few-sectors}
use Rattle.erase_many.proofs.Refused.{run_grants}
use Rattle.byte_lists.specs.Lists.{in_bytes}
use Rattle.byte_lists.specs.EraseMany.{erase_many_bytes_by, erase_many_bytes}
use Rattle.byte_lists.proofs.Lent.{least-room, lent_long, Named, named, named_done, named_put}

pub few-changed : (d ns : List ℕ) → length (sectors_of_all d ns) ≤ pairs
few-changed d ns = few-sectors (is_erased d (erased_all d ns))

-- outcome, image, answers and list make what a call gives
whole : {o p : Outcome} {d e a c x y : List ℕ} → o ≡ p → d ≡ e → a ≡ c → x ≡ y → erased o d a x ≡ erased p e c y
whole p i a l = rw (p, i, a, l)

module _ (d ns abuf b xs : List ℕ) (k : ℕ) (room : k ≡ min (length b / 2) (length xs)) (enough : pairs ≤ length xs) where
  -- more room than there can be need for makes no difference
  ran : run_many ns d (length abuf) (length (take k xs)) ≡ run_many ns d (length abuf) (length b / 2)
  unfolding run_many many_reply
  ran =
      ap (λ (t : Bool). checked_result (check_disk d else row 23 0 (not_tens ns) else row 20 0 (ltb (length abuf) (how_many ns)) else row 20 0 t) (new_disk (erased_all d ns) (sectors_of_all d ns)))
      (ap (λ (m : ℕ). ltb m (length (sectors_of_all d ns))) (sym (lent_long xs k (length b / 2) room) ∙ room)
      ∙ least-room (length b / 2) (length xs) (length (sectors_of_all d ns)) (omega (arith, few-changed d ns)))

  -- the sectors fit where they are given
  fits : (new ss : List ℕ) → run_many ns d (length abuf) (length (take k xs)) ≡ new_disk new ss → length ss ≤ length (take k xs)
  fits new ss q = let g = run_grants d ns (length abuf) (length (take k xs)) new ss q in omega (arith, g.0.list, ap length g.2)

  -- the call below, lent the first k of the numbers xs, left the image d' and the answers a', and ys there: what it accepted
  accepted : (n : ℕ) (d' a' ys : List ℕ) → erased (done n 0) d' a' ys ≡ erase_many d ns abuf (take k xs)
      → (ss : List ℕ) × (run_many ns d (length abuf) (length b / 2) ≡ new_disk d' ss) × Named n b (ys ++ drop k xs) ss × (a' ≡ put abuf 0 (answers_to d ns))
  unfolding erase_many
  accepted n d' a' ys e = by (run_many ns d (length abuf) (length (take k xs))) refl e
    where
      by : (x : Result) → run_many ns d (length abuf) (length (take k xs)) ≡ x → erased (done n 0) d' a' ys ≡ erased_by_result x d ns abuf (take k xs)
          → (ss : List ℕ) × (run_many ns d (length abuf) (length b / 2) ≡ new_disk d' ss) × Named n b (ys ++ drop k xs) ss × (a' ≡ put abuf 0 (answers_to d ns))
      by (refused_result r) q w =
          let o : done n 0 ≡ refused r = ap (λ (x : Erased). x.outcome) w in
          let z : ◌≡◌ {A = ℕ} 0 1 = cc in
          absurd (omega arith)
      by (new_disk new ss) q w =
          let f = fits new ss q in
          let o : done n 0 ≡ done (length ss) 0 = ap (λ (x : Erased). x.outcome) w in
          let m : n ≡ length ss = cc in
          let i : d' ≡ new = ap (λ (x : Erased). x.image) w in
          let l : ys ≡ put (take k xs) 0 ss = ap (λ (x : Erased). x.list) w in
          (ss, sym ran ∙ q ∙ ap (λ (a : List ℕ). new_disk a ss) (sym i), named xs b k room n ys ss m l (omega arith), ap (λ (x : Erased). x.answers) w)

  pub erasing_room : (n : ℕ) (d' a' ys : List ℕ) → erased (done n 0) d' a' ys ≡ erase_many d ns abuf (take k xs) → (n ≤ length (ys ++ drop k xs)) × (2 * n ≤ length b)
  erasing_room n d' a' ys e = (accepted n d' a' ys e).2.room

  pub erasing_is : (n : ℕ) (d' a' ys : List ℕ) → erased (done n 0) d' a' ys ≡ erase_many d ns abuf (take k xs)
      → (b' : List ℕ) → b' ≡ put b 0 (in_bytes (take n (ys ++ drop k xs))) → erased (done n 0) d' a' b' ≡ erase_many_bytes d ns abuf b
  unfolding erase_many_bytes
  erasing_is n d' a' ys e b' q =
      let w = accepted n d' a' ys e in
      whole (named_done n b (ys ++ drop k xs) w.0 w.2) refl w.3 (named_put n b (ys ++ drop k xs) w.0 b' w.2 q) ∙ ap (λ (x : Result). erase_many_bytes_by x d ns abuf b) (sym w.1)

  -- what it refused
  pub erasing_refused : (r : Refusal) (d' a' ys : List ℕ) → erased (refused r) d' a' ys ≡ erase_many d ns abuf (take k xs) → erased (refused r) d' a' b ≡ erase_many_bytes d ns abuf b
  unfolding erase_many erase_many_bytes
  erasing_refused r d' a' ys e = by (run_many ns d (length abuf) (length (take k xs))) ran e
    where
      by : (x : Result) → x ≡ run_many ns d (length abuf) (length b / 2) → erased (refused r) d' a' ys ≡ erased_by_result x d ns abuf (take k xs)
          → erased (refused r) d' a' b ≡ erase_many_bytes_by (run_many ns d (length abuf) (length b / 2)) d ns abuf b
      by (refused_result z) q w =
          whole (ap (λ (x : Erased). x.outcome) w) (ap (λ (x : Erased). x.image) w) (ap (λ (x : Erased). x.answers) w) refl ∙ ap (λ (x : Result). erase_many_bytes_by x d ns abuf b) q
      by (new_disk new ss) q w =
          let o : refused r ≡ done (length ss) 0 = ap (λ (x : Erased). x.outcome) w in
          let z : ◌≡◌ {A = ℕ} 0 1 = cc in
          absurd (omega arith)
