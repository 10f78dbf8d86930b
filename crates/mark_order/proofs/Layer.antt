-- All of it, for every call that gives what a run gives: how many numbers a list holds, and how it is filled, are parameters.
use Prim.Native.Nat.{ℕ, ◌≤◌}
use mathlib.Core.Path.{◌≡◌, refl, sym, ap, ap₂, ◌∙◌}
use mathlib.Core.Bool.{Bool, true, false}
use mathlib.Core.List.{List, [], ◌∷◌, ◌++◌}
use mathlib.Core.Logic.{inl, inr}
use native.Mathlib.Omega.{arith}
use borrow.Author.Tests.{le-ltb}
use lib.Dec.{ltb}
use lib.ListN.{length}
use Rattle.refusals.specs.Answers.{done, refused}
use Rattle.disk.specs.View.{view}
use Rattle.files.specs.Calls.{SlotLookup, found_slot, refused_lookup, lookup}
use Rattle.plans.specs.Change.{Mark, mark, rename}
use Rattle.plans.specs.Plan.{Result, refused_result, new_disk, run_change, Changed, changed}
use Rattle.mark_order.specs.MarkCalls.{MarkCall, MarksOneName, hide_pair, OnePair, Commuting, ChangeCall, SameAnswer, call_mark, after_marks, EitherOrder, Merged, none_left, from_first, from_second, Each, AllCommuting}
use Rattle.mark_order.specs.RenameBack.{StoredName, RenameRestores}
use Rattle.mark_order.specs.MarkOrder.{MarkOrder}
use Rattle.mark_order.proofs.Found.{mark_by, run_is, left, found_left}
use Rattle.mark_order.proofs.Pairs.{found_one, left_by, swap_left, later-left, through, apart-found}
use Rattle.mark_order.proofs.RenameBack.{with_room, rename-back, named_one}

module _ (room : List ℕ → ℕ) (fill : List ℕ → List ℕ → List ℕ) where
  -- outcome, disk and list at return, from what the run gives
  abbrev pub gives : Result → List ℕ → List ℕ → Changed
  gives (refused_result r) d b = changed (refused r) d b
  gives (new_disk new ss) d b = changed (done (length ss) 0) new (fill b ss)

  abbrev pub layer : ChangeCall
  layer c d b = gives (run_change c d (room b)) d b

  gives_left : (x : Result) (d b : List ℕ) → (gives x d b).image ≡ left x d
  gives_left (refused_result r) d b = refl
  gives_left (new_disk new ss) d b = refl

  -- the slot that a mark's name finds on a disk, or the refusal; and the disk that the mark leaves, by that
  abbrev seeks : MarkCall → List ℕ → SlotLookup
  seeks t d = lookup (view d) t.name

  abbrev leaves : MarkCall → SlotLookup → List ℕ → List ℕ
  leaves t s d = left_by s t.sets (room t.list) d

  image-is : (t : MarkCall) (d : List ℕ) → (call_mark layer t d).image ≡ leaves t (seeks t d) d
  image-is t d =
      gives_left (run_change (mark t.sets t.name) d (room t.list)) d t.list
      ∙ ap (λ (x : Result). left x d) (run_is t.sets t.name d (room t.list))

  -- no mark moves what the name of another finds
  seeks_stays : (t u : MarkCall) (d : List ℕ) → seeks u (call_mark layer t d).image ≡ seeks u d
  seeks_stays t u d =
      ap (λ (x : List ℕ). seeks u x) (gives_left (run_change (mark t.sets t.name) d (room t.list)) d t.list)
      ∙ found_left t.sets t.name d (room t.list) u.name

  -- a second mark on what the first left
  second_is : (t u : MarkCall) (d : List ℕ)
      → (call_mark layer u (call_mark layer t d).image).image ≡ leaves u (seeks u d) (leaves t (seeks t d) d)
  second_is t u d =
      image-is u (call_mark layer t d).image
      ∙ ap₂ (λ (s : SlotLookup) (x : List ℕ). leaves u s x) (seeks_stays t u d) (image-is t d)

  -- ---- answers

  answer_by : (k : Mark) (s : SlotLookup) (d e b : List ℕ)
      → SameAnswer (gives (mark_by k e (room b) s) e b) (gives (mark_by k d (room b) s) d b)
  answer_by k (refused_lookup r) d e b = record { outcome = refl; list = refl }
  answer_by k (found_slot i) d e b = by (ltb (room b) 1) refl
    where
      by : (t : Bool) → ltb (room b) 1 ≡ t
          → SameAnswer (gives (mark_by k e (room b) (found_slot i)) e b) (gives (mark_by k d (room b) (found_slot i)) d b)
      by true w = rw w (record { outcome = refl; list = refl })
      by false w = rw w (record { outcome = refl; list = refl })

  -- on two disks on which its name finds the same
  answer_same : (t : MarkCall) (d e : List ℕ) → seeks t e ≡ seeks t d → SameAnswer (call_mark layer t e) (call_mark layer t d)
  answer_same t d e q =
      rw (run_is t.sets t.name e (room t.list), run_is t.sets t.name d (room t.list), q)
      (answer_by t.sets (seeks t d) d e t.list)

  after_seeks : (ts : List MarkCall) (u : MarkCall) (d : List ℕ) → seeks u (after_marks layer ts d) ≡ seeks u d
  unfolding after_marks
  after_seeks [] u d = refl
  after_seeks (t ∷ ts) u d = after_seeks ts u (call_mark layer t d).image ∙ seeks_stays t u d

  answers : (ts : List MarkCall) (t : MarkCall) (d : List ℕ) → SameAnswer (call_mark layer t (after_marks layer ts d)) (call_mark layer t d)
  answers ts t d = answer_same t d (after_marks layer ts d) (after_seeks ts t d)

  -- ---- either order

  swap_disk : (a b : MarkCall) → Commuting a b → (d : List ℕ)
      → (call_mark layer b (call_mark layer a d).image).image ≡ (call_mark layer a (call_mark layer b d).image).image
  swap_disk a b h d =
      second_is a b d
      ∙ swap_left (seeks a d) (seeks b d) a.sets b.sets (room a.list) (room b.list) d (apart-found d a b h)
      ∙ sym (second_is b a d)

  either : (a b : MarkCall) → Commuting a b → (d : List ℕ) → EitherOrder layer a b d
  unfolding after_marks
  either a b h d = record {
    disk = swap_disk a b h d;
    first = answer_same a d (call_mark layer b d).image (seeks_stays b a d);
    second = answer_same b d (call_mark layer a d).image (seeks_stays a b d);
  }

  -- ---- the later of a pair

  -- two disks of which the last mark of a row makes the same
  held_on : (ts : List MarkCall) (b : MarkCall) → ltb (room b.list) 1 ≡ false → (d e : List ℕ) → ((t : MarkCall) → seeks t d ≡ seeks t e)
      → leaves b (seeks b e) d ≡ leaves b (seeks b e) e → after_marks layer (ts ++ (b ∷ [])) d ≡ after_marks layer (ts ++ (b ∷ [])) e
  unfolding after_marks
  held_on [] b w d e f z = image-is b d ∙ ap (λ (s : SlotLookup). leaves b s d) (f b) ∙ z ∙ sym (image-is b e)
  held_on (t ∷ ts) b w d e f z =
      held_on ts b w (call_mark layer t d).image (call_mark layer t e).image (λ u. seeks_stays t u d ∙ f u ∙ sym (seeks_stays t u e))
      (ap₂ (λ (s : SlotLookup) (x : List ℕ). leaves b s x) (seeks_stays t b e)
      (image-is t d ∙ ap (λ (s : SlotLookup). leaves t s d) (f t))
      ∙ through (seeks b e) (seeks t e) t.sets b.sets (room t.list) (room b.list) d e w z
      ∙ sym (ap₂ (λ (s : SlotLookup) (x : List ℕ). leaves b s x) (seeks_stays t b e) (image-is t e)))

  later : (a b : MarkCall) (ts : List MarkCall) → MarksOneName a b → OnePair a b → 1 ≤ room b.list → (d : List ℕ)
      → after_marks layer (a ∷ (ts ++ (b ∷ []))) d ≡ after_marks layer (ts ++ (b ∷ [])) d
  unfolding after_marks
  later a b ts n p h d =
      let w : ltb (room b.list) 1 ≡ false = le-ltb (room b.list) 1 h in
      held_on ts b w (call_mark layer a d).image d (λ t. seeks_stays a t d)
      (ap (leaves b (seeks b d)) (image-is a d ∙ ap (λ (s : SlotLookup). leaves a s d) (found_one a b n d))
      ∙ later-left (seeks b d) a.sets b.sets (room a.list) (room b.list) d p w)

  -- ---- two phones

  -- a mark made before those that it may change places with
  past : (t : MarkCall) (xs : List MarkCall) → Each (λ x. Commuting x t) xs → (d : List ℕ)
      → after_marks layer xs (call_mark layer t d).image ≡ (call_mark layer t (after_marks layer xs d)).image
  unfolding after_marks
  past t [] h d = refl
  past t (x ∷ xs) h d = ap (after_marks layer xs) (sym (swap_disk x t h.0 d)) ∙ past t xs h.1 (call_mark layer x d).image

  -- of a list that is apart from another: from its first mark, and from the rest
  first_of_lem : (t : MarkCall) (xs ys : List MarkCall) → AllCommuting xs (t ∷ ys) → Each (λ x. Commuting x t) xs
  first_of_lem t [] ys h = tt
  first_of_lem t (x ∷ xs) ys h = (h.0.0, first_of_lem t xs ys h.1)

  rest_of : (t : MarkCall) (xs ys : List MarkCall) → AllCommuting xs (t ∷ ys) → AllCommuting xs ys
  rest_of t [] ys h = tt
  rest_of t (x ∷ xs) ys h = (h.0.1, rest_of t xs ys h.1)

  merge : (xs ys zs : List MarkCall) → AllCommuting xs ys → Merged xs ys zs → (d : List ℕ)
      → after_marks layer zs d ≡ after_marks layer ys (after_marks layer xs d)
  unfolding after_marks
  merge _ _ _ h none_left d = refl
  merge _ _ _ h (from_first t xs ys zs m) d = merge xs ys zs h.1 m (call_mark layer t d).image
  merge _ _ _ h (from_second t xs ys zs m) d =
      merge xs ys zs (rest_of t xs ys h) m (call_mark layer t d).image ∙ ap (after_marks layer ys) (past t xs (first_of_lem t xs ys h) d)

  -- ---- a rename taken back

  restores : (d n to old a b : List ℕ) (k m : ℕ) → (layer (rename n to) d a).outcome ≡ done k m → StoredName d n old → 1 ≤ room b
      → RenameRestores layer d n to old a b
  restores d n to old a b k m e o h = by (run_change (rename n to) d (room a)) refl e
    where
      by : (x : Result) → run_change (rename n to) d (room a) ≡ x → (gives x d a).outcome ≡ done k m → RenameRestores layer d n to old a b
      by (refused_result r) q w = let z : ◌≡◌ {A = ℕ} 0 1 = cc in absurd (omega arith)
      by (new_disk new ss) q w =
          let one : length ss ≡ 1 = named_one d n to old (room a) new ss q o in
          let x : run_change (rename to old) new (room b) ≡ new_disk d ss = rename-back d n to old (room a) new ss q o (room b) h in
          let y : run_change (rename n to) d (room b) ≡ new_disk new ss =
          with_room (rename n to) d (room a) (room b) new ss q (omega arith) in
          let z : layer (rename to old) (layer (rename n to) d a).image b ≡ gives (new_disk d ss) new b =
          ap (λ (y : List ℕ). layer (rename to old) y b) (ap (λ (y : Result). (gives y d a).image) q)
          ∙ ap (λ (y : Result). gives y new b) x in
          record {
            disk = ap (λ (c : Changed). c.image) z;
            accepted = ap (λ (c : Changed). c.outcome) z ∙ ap (λ (m : ℕ). done m 0) one;
            list = ap (λ (c : Changed). c.list) z ∙ sym (ap (λ (y : Result). (gives y d b).list) y);
          }

  -- ---- all of it

  module _ (Room : List ℕ → Type 0) (enough : (b : List ℕ) → Room b → 1 ≤ room b) where
    pub ordered : MarkOrder layer Room
    ordered = record {
      different = λ a b h. either a b (inl h);
      pairs = λ a b h. either a b (inr h);
      twice = λ a b ts n e h. later a b ts n (ap hide_pair e) (enough b.list h);
      later = λ a b ts n p h. later a b ts n p (enough b.list h);
      back = λ d n to old a b k f e o h. restores d n to old a b k f e o (enough b h);
      merged = λ xs ys zs ws h m w d. merge xs ys zs h m d ∙ sym (merge xs ys ws h w d);
      answers = answers;
    }
