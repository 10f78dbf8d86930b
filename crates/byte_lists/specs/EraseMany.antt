-- Erasing many files with a list of bytes, two to a number.
use Rattle.std.specs.Prelude.{ℕ, ◌/◌, List, length}
use Rattle.buffers.specs.Bytes.{put}
use Rattle.refusals.specs.Answers.{done, refused}
use Rattle.plans.specs.Plan.{Result, refused_result, new_disk, Changed}
use Rattle.erase_many.specs.EraseMany.{answers_to, run_many, Erased, erased}
use Rattle.recordings.specs.Recording.{add_piece, close_recording}
use Rattle.operations.specs.Operations.{Operation, single_change, erase_names, record_piece, record_close, changed_of}
use Rattle.byte_lists.specs.Lists.{in_bytes, change_bytes_by, change_bytes}

-- "one byte a name": the answers are bytes as they stand; "The sector list", "two to a number, low byte first"
abbrev pub erase_many_bytes_by : Result → List ℕ → List ℕ → List ℕ → List ℕ → Erased
erase_many_bytes_by (refused_result r) d ns abuf b = erased (refused r) d abuf b
erase_many_bytes_by (new_disk new ss) d ns abuf b = erased (done (length ss) 0) new (put abuf 0 (answers_to d ns)) (put b 0 (in_bytes ss))

-- 20 where the list has not two bytes for each
unfoldable pub erase_many_bytes : List ℕ → List ℕ → List ℕ → List ℕ → Erased
erase_many_bytes d ns abuf b = erase_many_bytes_by (run_many ns d (length abuf) (length b / 2)) d ns abuf b

-- everything that can be asked for, with a list of bytes: outcome, image and list at return
abbrev pub operation_bytes : Operation → List ℕ → List ℕ → Changed
operation_bytes (single_change c) d b = change_bytes c d b
operation_bytes (erase_names ns abuf) d b = changed_of (erase_many_bytes d ns abuf b)
operation_bytes (record_piece r x) d b = change_bytes_by (add_piece r x d (length b / 2)) d b
operation_bytes (record_close r) d b = change_bytes_by (close_recording r d (length b / 2)) d b
