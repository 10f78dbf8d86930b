-- Opening beside one read: what they refuse, and the body that the read gives.
use Prim.Native.Nat.{ℕ, ◌≤◌}
use mathlib.Core.Path.{◌≡◌, refl, sym, ap, ap₂, ◌∙◌}
use mathlib.Core.Bool.{Bool, true, false, true≢false}
use mathlib.Core.List.{List}
use mathlib.Core.Logic.{◌↔◌}
use mathlib.Core.Option.{none, some}
use native.Mathlib.Omega.{arith}
use borrow.Author.Tests.{ltb-false, le-ltb}
use lib.Dec.{ltb}
use lib.ListN.{length, take}
use Rattle.buffers.specs.Bytes.{part, put}
use Rattle.buffers.proofs.Lists.{length-tab, part-put}
use Rattle.refusals.specs.Order.{Refusal, refuse, Reply, ◌else◌, row}
use Rattle.refusals.specs.Answers.{done, refused, Out, out, filled}
use Rattle.chains.specs.File.{File}
use Rattle.headers.specs.Header.{file_length, body_byte, body}
use Rattle.disk.specs.View.{view}
use Rattle.files.specs.Calls.{file_named, read_view, reading}
use Rattle.readers.specs.declared.Place.{Place}
use Rattle.readers.specs.Opening.{body_place, opened_at, refused_opening, file_opening_by, open_file_reply, open_file_view, open_file}
use Rattle.readers.proofs.Opening.{read_replies}

module _ (d n buf : List ℕ) where
  abbrev file : File
  file = file_named (view d) n

  abbrev len : ℕ
  len = file_length file

  -- a read that opening refuses q before it, and then 20 where t holds
  abbrev read_by_lem : Reply → Bool → Out
  read_by_lem q t = filled (q else row 20 0 t) (done len 0) (body file) buf

  read_by : reading d n buf ≡ read_by_lem (open_file_reply (view d) n) (ltb (length buf) len)
  unfolding read_view
  read_by = ap (λ (q : Reply). filled q (done len 0) (body file) buf) (read_replies (view d) n (length buf))

  begin_by : open_file d n ≡ file_opening_by (open_file_reply (view d) n) (body_place file)
  unfolding open_file_view
  begin_by = refl

  -- ---- "Refusals: those of reading but 20, at opening."

  -- what opening refuses, a read refuses, with the same slot
  pub open_refused : (r : Refusal) → open_file d n ≡ refused_opening r → reading d n buf ≡ out (refused r) buf
  open_refused r e = read_by ∙ by (open_file_reply (view d) n) (sym begin_by ∙ e)
    where
      by : (q : Reply) → file_opening_by q (body_place file) ≡ refused_opening r → read_by_lem q (ltb (length buf) len) ≡ out (refused r) buf
      by none w = let z : ◌≡◌ {A = ℕ} 0 1 = cc in absurd (omega arith)
      by (some x) w = let z : x ≡ r = cc in ap (λ (r : Refusal). out (refused r) buf) z

  -- what a read refuses, but for 20, opening refuses
  read-refused : (r : Refusal) → (r.number ≡ 20 → ltb (length buf) len ≡ false) → (reading d n buf).outcome ≡ refused r → open_file d n ≡ refused_opening r
  read-refused r h e = begin_by ∙ by (open_file_reply (view d) n) (ltb (length buf) len) refl (sym (ap (λ (o : Out). o.outcome) read_by) ∙ e)
    where
      by : (q : Reply) (t : Bool) → ltb (length buf) len ≡ t → (read_by_lem q t).outcome ≡ refused r → file_opening_by q (body_place file) ≡ refused_opening r
      by (some x) t f w = let z : x ≡ r = cc in ap refused_opening z
      by none true f w =
          let z : refuse 20 0 ≡ r = cc in
          absurd (true≢false (sym f ∙ h (ap (λ (r : Refusal). r.number) (sym z))))
      by none false f w = let z : ◌≡◌ {A = ℕ} 0 1 = cc in absurd (omega arith)

  pub refused_alike : (r : Refusal) → (r.number ≡ 20 → ⊥) → (open_file d n ≡ refused_opening r) ↔ ((reading d n buf).outcome ≡ refused r)
  refused_alike r h = (λ e. ap (λ (o : Out). o.outcome) (open_refused r e), read-refused r (λ z. absurd (h z)))

  -- and with room for the body, all of it
  pub refused_roomy : len ≤ length buf → (r : Refusal) → (open_file d n ≡ refused_opening r) ↔ ((reading d n buf).outcome ≡ refused r)
  refused_roomy h r = (λ e. ap (λ (o : Out). o.outcome) (open_refused r e), read-refused r (λ z. le-ltb (length buf) len h))

  -- ---- the body that one read gives

  -- what opening accepts, a read accepts whose buffer has room
  pub read_whole : (p : Place) → open_file d n ≡ opened_at p → p.left ≤ length buf → reading d n buf ≡ out (done p.left 0) (put buf 0 (body file))
  read_whole p e h = read_by ∙ by (open_file_reply (view d) n) (sym begin_by ∙ e)
    where
      by : (q : Reply) → file_opening_by q (body_place file) ≡ opened_at p → read_by_lem q (ltb (length buf) len) ≡ out (done p.left 0) (put buf 0 (body file))
      by (some r) w = let z : ◌≡◌ {A = ℕ} 0 1 = cc w in absurd (omega arith)
      by none w =
          let z : body_place file ≡ p = cc w in
          let m : len ≡ p.left = ap (λ (q : Place). q.left) z in
          rw (le-ltb (length buf) len (omega arith)) (ap (λ (k : ℕ). out (done k 0) (put buf 0 (body file))) m)

  body-long : length (body file) ≡ len
  unfolding body
  body-long = length-tab len (body_byte file)

  in_front : len ≤ length buf → take len (put buf 0 (body file)) ≡ body file
  unfolding part
  in_front h = ap (λ (k : ℕ). take k (put buf 0 (body file))) (sym body-long) ∙ part-put buf 0 (body file) (omega (arith, body-long))

  -- and an accepted read is of a file that opens, and has its body in front
  pub record ReadBody (v : ℕ) (x : List ℕ) : Type 0 where
    pub begins : open_file d n ≡ opened_at (body_place file)
    pub long : len ≡ v
    pub front : take v x ≡ body file

  pub read-body : (v f : ℕ) (x : List ℕ) → reading d n buf ≡ out (done v f) x → ReadBody v x
  read-body v f x e = by (open_file_reply (view d) n) refl (ltb (length buf) len) refl (sym read_by ∙ e)
    where
      by : (q : Reply) → open_file_reply (view d) n ≡ q → (t : Bool) → ltb (length buf) len ≡ t → read_by_lem q t ≡ out (done v f) x → ReadBody v x
      by (some r) a t b w = let u : refused r ≡ done v f = ap (λ (o : Out). o.outcome) w in let z : ◌≡◌ {A = ℕ} 0 1 = cc u in absurd (omega arith)
      by none a true b w = let u : refused (refuse 20 0) ≡ done v f = ap (λ (o : Out). o.outcome) w in let z : ◌≡◌ {A = ℕ} 0 1 = cc u in absurd (omega arith)
      by none a false b w =
          let u : done len 0 ≡ done v f = ap (λ (o : Out). o.outcome) w in
          let m : len ≡ v = cc u in
          let y : put buf 0 (body file) ≡ x = ap (λ (o : Out). o.buffer) w in
          record {
            begins = begin_by ∙ ap (λ (q : Reply). file_opening_by q (body_place file)) a;
            long = m;
            front = ap₂ take (sym m) (sym y) ∙ in_front (ltb-false (length buf) len b);
          }
