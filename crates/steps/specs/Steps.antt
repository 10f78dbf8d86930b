-- A change as steps, in the order of writing: one sector each, with what is put there and what is then seen of the disk.
-- What is seen, and what of it is accepted, are parameters.
use Rattle.std.specs.Prelude.{ℕ, ◌+◌, ◌*◌, ◌≤◌, List, [], ◌∷◌, ◌≡◌, length}
use Rattle.std.proofs.Math.Option.{Option, none, some}
use Rattle.buffers.specs.Bytes.{put}

-- bytes at a place of the image
pub record Put : Type 0 where
  pub place : ℕ
  pub bytes : List ℕ

unfoldable pub put_all : List ℕ → List Put → List ℕ
put_all d [] = d
put_all d (p ∷ ps) = put_all (put d p.place p.bytes) ps

-- one sector; none: what is seen of the disk stays (quiet); some: what is seen after it (a commit)
pub record Step (S : Type 0) : Type 0 where
  pub at : ℕ
  pub puts : List Put
  pub left : Option S

-- the bytes lie inside sector s
pub record InsideSector (s : ℕ) (p : Put) : Type 0 where
  pub low : s * 512 ≤ p.place
  pub high : p.place + length p.bytes ≤ s * 512 + 512

abbrev pub AllInsideSector : ℕ → List Put → Type 0
AllInsideSector s [] = Unit {0}
AllInsideSector s (p ∷ ps) = InsideSector s p × AllInsideSector s ps

module _ {S : Type 0} where
  -- the disk after the steps
  unfoldable pub apply : List ℕ → List (Step S) → List ℕ
  apply d [] = d
  apply d (st ∷ sts) = apply (put_all d st.puts) sts

  -- their sector numbers, in order
  unfoldable pub numbers : List (Step S) → List ℕ
  numbers [] = []
  numbers (st ∷ sts) = st.at ∷ numbers sts

  -- what is seen after a step
  abbrev pub view_after : S → Option S → S
  view_after s none = s
  view_after s (some t) = t

  -- what the steps commit, in order
  abbrev pub and_then : Option S → List S → List S
  and_then none ts = ts
  and_then (some t) ts = t ∷ ts

  unfoldable pub commits : List (Step S) → List S
  commits [] = []
  commits (st ∷ sts) = and_then st.left (commits sts)

  -- the last of them, else what was seen before
  unfoldable pub last_view : S → List S → S
  last_view s [] = s
  last_view s (t ∷ ts) = last_view t ts

module _ {S : Type 0} (view : List ℕ → S) (Ok : S → Type 0) where
  -- a step does to a disk what it says: its sector is one of the disk's, its bytes lie in it, what is seen after it is what it
  -- left, and that is accepted
  pub record StepHolds (d : List ℕ) (st : Step S) : Type 0 where
    pub there : st.at * 512 + 512 ≤ length d
    pub inside : AllInsideSector st.at st.puts
    pub sees : view (put_all d st.puts) ≡ view_after (view d) st.left
    pub ok : Ok (view_after (view d) st.left)

  -- each step in its turn
  abbrev pub StepsHold : List ℕ → List (Step S) → Type 0
  StepsHold d [] = Unit {0}
  StepsHold d (st ∷ sts) = StepHolds d st × StepsHold (put_all d st.puts) sts
