-- What the functions over the map of erased slots are asked, and what they give.
use Rattle.std.specs.Prelude.{ℕ, ◌%◌, ◌≡◌, List, Result, Ok, Err, length}
use Rattle.std.proofs.Math.Option.{none}
use Rattle.buffers.specs.Bytes.{tab, put}
use Rattle.refusals.specs.Answers.{refusal_number}
use Rattle.refusals.specs.declared.Reason.{Reason}
use Rattle.directory.specs.Directory.{Directory}
use Rattle.disk.specs.Check.{check_disk}
use Rattle.nesting.specs.Steps.{not_erased}
use Rattle.erase_many.specs.ErasedMap.{name_answer, erased_with, erased_map, erased_map_answer}

-- "one byte a name with 0 for done": the number that it is refused with, or 0
abbrev pub number_or_done : {A : Type 0} → Result A Reason → ℕ
number_or_done (Ok x) = 0
number_or_done (Err r) = refusal_number r

-- one name answered: what the erase gives, and the map at return
pub record OneErased {A : Type 0} (v : Directory) (m n : List ℕ) (r : Result A Reason) (after : List ℕ) : Type 0 where
  pub number : number_or_done r ≡ name_answer (not_erased v m) n
  pub map : after ≡ erased_with v m n

-- all names answered: the answers to the front of a buffer, and the map at return
pub record AllErased (v : Directory) (ns : List ℕ) (many : ℕ) (buf now after : List ℕ) : Type 0 where
  pub answers : now ≡ put buf 0 (tab many (erased_map_answer v ns))
  pub map : after ≡ erased_map v ns many

-- an accepted disk, and a whole number of tens
pub record ErasesAllowed (d ns : List ℕ) : Type 0 where
  pub accepted : check_disk d ≡ none
  pub tens : length ns % 10 ≡ 0
