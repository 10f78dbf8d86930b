-- A list put to the front of a buffer, and how long it is.
use Rattle.std.specs.Prelude.{ℕ, ◌≡◌, List, length}
use Rattle.buffers.specs.Bytes.{put}

pub record PutInFront (buf l now : List ℕ) (r : ℕ) : Type 0 where
  pub long : r ≡ length l
  pub numbers : now ≡ put buf 0 l
