-- Laws of steps: a disk cut after k of their sectors is the disk after the first k of them, and what is seen of it is the last commit among those.
use Prim.Native.Nat.{ℕ, zero, suc, ◌+◌, ◌*◌, ◌≤◌, ◌<◌}
use mathlib.Core.Path.{◌≡◌, refl, sym, ap, ◌∙◌}
use mathlib.Core.List.{List, [], ◌∷◌, ◌++◌}
use mathlib.Core.Bool.{Bool, true, false, ◌||◌, false≢true}
use mathlib.Core.Logic.{◌≢◌, ⊎_elim}
use mathlib.Core.Option.{Option, none, some}
use native.Mathlib.Omega.{arith}
use borrow.Author.Tests.{eqb-true}
use lib.Dec.{eqb}
use lib.ListN.{length, take, drop, length-append, take-append-drop}
use lib.Seq.{take-nil, take-append-le, take-append_seam}
use Rattle.buffers.specs.Bytes.{put}
use Rattle.buffers.proofs.Lists.{below_or_not, length-put, part_put_before, part_put_after}
use Rattle.steps.specs.Sectors.{sector, is_listed, Once, cut}
use Rattle.steps.specs.Steps.{Put, put_all, Step, InsideSector, AllInsideSector, apply, numbers, view_after, and_then, commits, last_view, StepsHold}
use Rattle.steps.proofs.Sectors.{listed_no, once-apart, sectors_ext, length_cut, cut-old, cut-new, cut_all}

-- ---- puts

pub put_all-long : (ps : List Put) (d : List ℕ) → length (put_all d ps) ≡ length d
unfolding put_all
put_all-long [] d = refl
put_all-long (p ∷ ps) d = put_all-long ps (put d p.place p.bytes) ∙ length-put d p.place p.bytes

-- what lies inside one sector leaves another as it was
pub put_other : (s : ℕ) (p : Put) (d : List ℕ) → InsideSector s p → (t : ℕ) → t ≢ s → sector (put d p.place p.bytes) t ≡ sector d t
put_other s p d w t q =
    ⊎_elim (λ (l : t < s). part_put_before d p.place p.bytes (t * 512) 512 (omega arith))
    (λ (l : s ≤ t).
    let m : s < t = omega arith in
    part_put_after d p.place p.bytes (t * 512) 512 (omega arith)) (below_or_not t s)

pub put_all-other : (s : ℕ) (ps : List Put) (d : List ℕ) → AllInsideSector s ps → (t : ℕ) → t ≢ s → sector (put_all d ps) t ≡ sector d t
unfolding put_all
put_all-other s [] d w t q = refl
put_all-other s (p ∷ ps) d w t q = put_all-other s ps (put d p.place p.bytes) w.1 t q ∙ put_other s p d w.0 t q

-- ---- steps

module _ {S : Type 0} where
  pub numbers-append : (xs ys : List (Step S)) → numbers (xs ++ ys) ≡ numbers xs ++ numbers ys
  unfolding numbers
  numbers-append [] ys = refl
  numbers-append (x ∷ xs) ys = ap (λ (l : List ℕ). x.at ∷ l) (numbers-append xs ys)

  pub numbers-take : (k : ℕ) (sts : List (Step S)) → numbers (take k sts) ≡ take k (numbers sts)
  unfolding numbers
  numbers-take zero sts = refl
  numbers-take (suc k) [] = refl
  numbers-take (suc k) (st ∷ sts) = ap (λ (l : List ℕ). st.at ∷ l) (numbers-take k sts)

  pub numbers-drop : (k : ℕ) (sts : List (Step S)) → numbers (drop k sts) ≡ drop k (numbers sts)
  unfolding numbers
  numbers-drop zero sts = refl
  numbers-drop (suc k) [] = refl
  numbers-drop (suc k) (st ∷ sts) = numbers-drop k sts

  pub length-numbers : (sts : List (Step S)) → length (numbers sts) ≡ length sts
  unfolding numbers
  length-numbers [] = refl
  length-numbers (st ∷ sts) = ap suc (length-numbers sts)

  pub apply-append : (xs ys : List (Step S)) (d : List ℕ) → apply d (xs ++ ys) ≡ apply (apply d xs) ys
  unfolding apply
  apply-append [] ys d = refl
  apply-append (x ∷ xs) ys d = apply-append xs ys (put_all d x.puts)

  pub apply_split : (k : ℕ) (sts : List (Step S)) (d : List ℕ) → apply d sts ≡ apply (apply d (take k sts)) (drop k sts)
  apply_split k sts d = ap (apply d) (sym (take-append-drop k sts)) ∙ apply-append (take k sts) (drop k sts) d

  more-append : (o : Option S) (ts us : List S) → and_then o (ts ++ us) ≡ and_then o ts ++ us
  more-append none ts us = refl
  more-append (some t) ts us = refl

  pub commits-join : (xs ys : List (Step S)) → commits (xs ++ ys) ≡ commits xs ++ commits ys
  unfolding commits
  commits-join [] ys = refl
  commits-join (x ∷ xs) ys = ap (and_then x.left) (commits-join xs ys) ∙ more-append x.left (commits xs) (commits ys)

  -- after quiet steps
  pub commits-append : (xs ys : List (Step S)) → commits xs ≡ [] → commits (xs ++ ys) ≡ commits ys
  commits-append xs ys e = commits-join xs ys ∙ ap (λ (l : List S). l ++ commits ys) e

  -- the first k steps commit the first so many
  pub commits-take : (k : ℕ) (sts : List (Step S)) → commits (take k sts) ≡ take (length (commits (take k sts))) (commits sts)
  commits-take k sts =
      sym
      (ap (λ (l : List S). take (length (commits (take k sts))) l) (ap commits (sym (take-append-drop k sts)) ∙ commits-join (take k sts) (drop k sts))
      ∙ take-append_seam (commits (take k sts)) (commits (drop k sts)))

  -- quiet steps and then one: before its end nothing is committed
  pub quiet_take : (qs : List (Step S)) (st : Step S) (k : ℕ) → commits qs ≡ [] → k < length (qs ++ (st ∷ [])) → commits (take k (qs ++ (st ∷ []))) ≡ []
  quiet_take qs st k e h =
      let m : k ≤ length qs = omega (arith, length-append qs (st ∷ [])) in
      ap commits (take-append-le k qs (st ∷ []) m) ∙ commits-take k qs ∙ ap (take (length (commits (take k qs)))) e ∙ take-nil (length (commits (take k qs)))

  last_of_more : (s : S) (o : Option S) (ts : List S) → last_view (view_after s o) ts ≡ last_view s (and_then o ts)
  unfolding last_view
  last_of_more s none ts = refl
  last_of_more s (some t) ts = refl

  pub goes_long : (sts : List (Step S)) (d : List ℕ) → length (apply d sts) ≡ length d
  unfolding apply
  goes_long [] d = refl
  goes_long (st ∷ sts) d = goes_long sts (put_all d st.puts) ∙ put_all-long st.puts d

-- ---- steps that do to a disk what they say

module _ {S : Type 0} (view : List ℕ → S) (Ok : S → Type 0) where
  pub goes_append : (xs ys : List (Step S)) (d : List ℕ) → StepsHold view Ok d xs → StepsHold view Ok (apply d xs) ys → StepsHold view Ok d (xs ++ ys)
  unfolding apply
  goes_append [] ys d g h = h
  goes_append (x ∷ xs) ys d g h = (g.0, goes_append xs ys (put_all d x.puts) g.1 h)

  pub goes_take : (k : ℕ) (sts : List (Step S)) (d : List ℕ) → StepsHold view Ok d sts → StepsHold view Ok d (take k sts)
  goes_take zero sts d g = tt
  goes_take (suc k) [] d g = tt
  goes_take (suc k) (st ∷ sts) d g = (g.0, goes_take k sts (put_all d st.puts) g.1)

  pub goes_drop : (k : ℕ) (sts : List (Step S)) (d : List ℕ) → StepsHold view Ok d sts → StepsHold view Ok (apply d (take k sts)) (drop k sts)
  unfolding apply
  goes_drop zero sts d g = g
  goes_drop (suc k) [] d g = tt
  goes_drop (suc k) (st ∷ sts) d g = goes_drop k sts (put_all d st.puts) g.1

  -- a sector that is not listed stays
  pub goes_other : (sts : List (Step S)) (d : List ℕ) → StepsHold view Ok d sts → (s : ℕ) → is_listed s (numbers sts) ≡ false → sector (apply d sts) s ≡ sector d s
  unfolding apply numbers
  goes_other [] d g s e = refl
  goes_other (st ∷ sts) d g s e =
      let c = listed_no s st.at (numbers sts) e in
      goes_other sts (put_all d st.puts) g.1 s c.1 ∙ put_all-other st.at st.puts d g.0.inside s c.0

  -- a sector that is listed is one of the disk's
  pub goes_there : (sts : List (Step S)) (d : List ℕ) → StepsHold view Ok d sts → (s : ℕ) → is_listed s (numbers sts) ≡ true → s * 512 + 512 ≤ length d
  unfolding numbers
  goes_there [] d g s e = absurd (false≢true e)
  goes_there (st ∷ sts) d g s e = by (eqb s st.at) refl e (goes_there sts (put_all d st.puts) g.1 s)
    where
      by : (t : Bool) → eqb s st.at ≡ t → (t || is_listed s (numbers sts)) ≡ true
          → (is_listed s (numbers sts) ≡ true → s * 512 + 512 ≤ length (put_all d st.puts)) → s * 512 + 512 ≤ length d
      by true q w f = rw (eqb-true s st.at q) g.0.there
      by false q w f = rw put_all-long at (f w)

  -- what is seen is the last commit, else what was seen before; and it is accepted
  pub goes_view : (sts : List (Step S)) (d : List ℕ) → StepsHold view Ok d sts → view (apply d sts) ≡ last_view (view d) (commits sts)
  unfolding apply commits last_view
  goes_view [] d g = refl
  goes_view (st ∷ sts) d g =
      goes_view sts (put_all d st.puts) g.1 ∙ ap (λ (s : S). last_view s (commits sts)) g.0.sees ∙ last_of_more (view d) st.left (commits sts)

  pub goes_ok : (sts : List (Step S)) (d : List ℕ) → StepsHold view Ok d sts → Ok (view d) → Ok (view (apply d sts))
  unfolding apply
  goes_ok [] d g o = o
  goes_ok (st ∷ sts) d g o = goes_ok sts (put_all d st.puts) g.1 (rw g.0.sees g.0.ok)

  -- THE LAW: a disk cut after k of the listed sectors is the disk after the first k steps
  pub cut-is : (sts : List (Step S)) (d : List ℕ) (k : ℕ) → StepsHold view Ok d sts → Once (numbers sts)
      → cut d (apply d sts) (numbers sts) k ≡ apply d (take k sts)
  cut-is sts d k g o =
      sectors_ext (cut d (apply d sts) (numbers sts) k) (apply d (take k sts)) (length_cut d (apply d sts) (numbers sts) k ∙ sym (goes_long (take k sts) d))
      (λ s. by s (is_listed s (take k (numbers sts))) refl)
    where
      by : (s : ℕ) (t : Bool) → is_listed s (take k (numbers sts)) ≡ t → sector (cut d (apply d sts) (numbers sts) k) s ≡ sector (apply d (take k sts)) s
      by s true e =
          cut-new d (apply d sts) (numbers sts) k (goes_long sts d) s e ∙ ap (λ (x : List ℕ). sector x s) (apply_split k sts d)
          ∙ goes_other (drop k sts) (apply d (take k sts)) (goes_drop k sts d g) s (rw numbers-drop (once-apart (numbers sts) k s o e))
      by s false e = cut-old d (apply d sts) (numbers sts) k s e ∙ sym (goes_other (take k sts) d (goes_take k sts d g) s (rw numbers-take e))

  -- what a disk e is that was cut after k of the steps' sectors
  pub record Cut (d : List ℕ) (sts : List (Step S)) (k : ℕ) (e : List ℕ) : Type 0 where
    pub long : length e ≡ length d
    pub sees : view e ≡ last_view (view d) (commits (take k sts))
    pub ok : Ok (view e)
    pub unlisted : (s : ℕ) → is_listed s (take k (numbers sts)) ≡ false → sector e s ≡ sector d s

  pub cut-sees : (sts : List (Step S)) (d : List ℕ) (k : ℕ) → StepsHold view Ok d sts → Once (numbers sts) → Ok (view d)
      → Cut d sts k (cut d (apply d sts) (numbers sts) k)
  cut-sees sts d k g o a =
      let h : StepsHold view Ok d (take k sts) = goes_take k sts d g in
      record {
        long = length_cut d (apply d sts) (numbers sts) k;
        sees = rw (cut-is sts d k g o) (goes_view (take k sts) d h);
        ok = rw (cut-is sts d k g o) (goes_ok (take k sts) d h a);
        unlisted = cut-old d (apply d sts) (numbers sts) k;
      }

  -- cut after the last
  pub cut-whole : (sts : List (Step S)) (d : List ℕ) → StepsHold view Ok d sts → cut d (apply d sts) (numbers sts) (length (numbers sts)) ≡ apply d sts
  cut-whole sts d g = cut_all d (apply d sts) (numbers sts) (goes_long sts d) (goes_other sts d g)
