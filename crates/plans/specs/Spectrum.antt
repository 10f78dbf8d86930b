-- What a name of kinds 1 to 4 gives. Document 02: "Read their bodies and give that start as it stands".
use Rattle.std.specs.Prelude.{ℕ, ◌≤◌, ◌<◌, ◌≡◌, List, length}
use Rattle.buffers.specs.Bytes.{tab, put}
use Rattle.refusals.specs.Order.{refuse}
use Rattle.refusals.specs.Answers.{done, refused, out}
use Rattle.chains.specs.File.{File}
use Rattle.headers.specs.Header.{first_sector, header_length, header_start, body_byte}
use Rattle.files.specs.Calls.{reading, start_address}

-- a name that finds this file: "13 and 14 are not given for kinds 1 to 4, read or asked their start"
pub record SpectrumAnswers (d n : List ℕ) (f : File) : Type 0 where
  -- the bytes past the header's nine, as many as "length in bytes 1 and 2" of it says
  pub reads : (buf : List ℕ) → header_length (first_sector f) ≤ length buf
      → reading d n buf ≡ out (done (header_length (first_sector f)) 0) (put buf 0 (tab (header_length (first_sector f)) (body_byte f)))
  -- "a lent output buffer is too short"
  pub short : (buf : List ℕ) → length buf < header_length (first_sector f) → reading d n buf ≡ out (refused (refuse 20 0)) buf
  -- "start in 3 and 4", "as it stands"
  pub starts : start_address d n ≡ done (header_start (first_sector f)) 0
