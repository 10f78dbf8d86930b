-- What the writers of the lines promise: bytes put to a page at a place, and the place after them.
use Rattle.std.specs.Prelude.{ℕ, ◌+◌, min, ◌≡◌, List, length}
use Rattle.buffers.specs.Bytes.{put}

-- the text x is put to the page d at a: the page is then e, and the next place is r, the page's end at most
pub record Wrote (d : List ℕ) (a : ℕ) (x e : List ℕ) (r : ℕ) : Type 0 where
  pub page : e ≡ put d a x
  pub next : r ≡ min (a + length x) (length d)
