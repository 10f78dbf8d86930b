-- The raw sector call: its number and its part of an image, for numbers of any size.
-- The words of document 01 stand above what they define.
-- Assumes nothing.
use Rattle.std.specs.Prelude.{ℕ, Bool, cond, not, ◌&&◌, List, [], leb, eqb, length, take, drop}
use Rattle.std.specs.Prelude.{Result, Ok, Err}
use Rattle.geometry.specs.Disk.{image_size, is_sector, sector_place}
use Rattle.refusals.specs.Answers.{refusal_number}
use Rattle.refusals.specs.declared.Reason.{Reason}

-- "819,200 bytes."
abbrev pub is_image : List ℕ → Bool
is_image image = eqb (length image) image_size

-- "The raw sector call takes the images of drives 1 and 2 and a drive number"
abbrev pub is_drive : ℕ → Bool
is_drive d = leb 1 d && leb d 2

abbrev pub chosen : List ℕ → List ℕ → ℕ → List ℕ
chosen one two d = cond (eqb d 1) one two

-- "The raw sector call tests 1 (on both images) and then 21 alone, and checks no directory."
-- Number 1 is "the image is not 819,200 bytes", 21 "no such drive, track or sector", and 0 is for none.
unfoldable pub raw_refusal : List ℕ → List ℕ → ℕ → ℕ → ℕ → ℕ
raw_refusal one two d t s = cond (not (is_image one && is_image two)) 1 (cond (not (is_drive d && is_sector t s)) 21 0)

-- "and hands back those 512 bytes of the chosen drive's image uncopied; a refusal hands back an empty part"
unfoldable pub raw_sector : List ℕ → List ℕ → ℕ → ℕ → ℕ → List ℕ
raw_sector one two d t s = cond (eqb (raw_refusal one two d t s) 0) (take 512 (drop (sector_place t s) (chosen one two d))) []

-- the number that the code's answer has
abbrev pub raw_number : {A : Type 0} → Result A Reason → ℕ
raw_number (Ok _) = 0
raw_number (Err r) = refusal_number r
