-- What the listing program writes, as a function of its input. The words of document 01 stand above what they define.
use Rattle.std.specs.Prelude.{ℕ, zero, suc, Bool, cond, not, ◌||◌, List, [], ◌++◌, eqb, ltb, length}
use Rattle.std.proofs.Math.Option.{none, some}
use Rattle.refusals.specs.Order.{Reply, ◌else◌, row}
use Rattle.refusals.specs.Answers.{Out, filled, done}
use Rattle.slots.specs.Slot.{hidden}
use Rattle.text_lines.specs.Lines.{line, free_line, refusal_line}
use Rattle.directory.specs.Places.{slot_count}
use Rattle.directory.specs.Directory.{fold_option, Directory, label_of, directory}
use Rattle.surveys.specs.Survey.{survey, free}

-- "One line for each live, unhidden slot": those among the first k
unfoldable pub lines : Directory → ℕ → List ℕ
lines v zero = []
lines v (suc k) = lines v k ++ fold_option [] (λ s. cond (hidden s) [] (line (suc k) s)) (v k)

-- "24 .. (in the listing program any n above 0)": of byte 255 of slot 1
unfoldable pub more_tracks : ℕ → Bool
more_tracks b = not (eqb b 0 || eqb b 255)

-- "Standard input: the first 40,960 bytes of an image (later bytes ignored). Refusals 2 to 9 only; shorter input is refused 1."; 24 after 1
unfoldable pub reply_to : List ℕ → Reply
reply_to d = row 1 0 (ltb (length d) 40960) else row 24 0 (more_tracks (label_of d 255)) else survey 0 (directory d)

-- "Then the free count."; with no track beyond four there are 80 slots
abbrev pub text_by : Reply → Directory → List ℕ
text_by (some r) v = refusal_line r
text_by none v = lines v (slot_count 0) ++ free_line (free 0 v)

unfoldable pub text : List ℕ → List ℕ
text d = text_by (reply_to d) (directory d)

-- the text put to the front of a buffer that is long enough, and its length; else 20, and nothing is written
unfoldable pub catalogue_of : List ℕ → List ℕ → Out
catalogue_of d buf = filled (row 20 0 (ltb (length buf) (length (text d)))) (done (length (text d)) 0) (text d) buf
