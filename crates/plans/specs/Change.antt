-- The changes that can be asked for. The words of documents 01 and 02 stand above what they define.
use Rattle.std.specs.Prelude.{ℕ, ◌+◌, ◌*◌, ◌/◌, ◌%◌, Bool, true, not, ◌&&◌, List, [], ◌∷◌, eqb, leb, get_or}
use Rattle.names.specs.Name.{askable}

-- "Save takes kind, new name, start page, offset, execution bytes, kind information and body."
pub record SaveRequest : Type 0 where
  pub kind : ℕ
  pub name : List ℕ
  pub page : ℕ
  pub offset : ℕ
  pub exec : List ℕ
  pub info : List ℕ
  pub body : List ℕ

pub data Mark : Type 0 where
  hide show protect release : Mark

pub data Change : Type 0 where
  save : SaveRequest → Change
  erase : List ℕ → Change
  rename : List ℕ → List ℕ → Change
  mark : Mark → List ℕ → Change
  -- "Gather a scattered file."
  gather : List ℕ → Change

-- "Hide, show, protect, release set or clear one bit": of byte 0, bit 7 is hidden, bit 6 protected
abbrev pub marked_byte : Mark → ℕ → ℕ
marked_byte hide x = x % 128 + 128
marked_byte show x = x % 128
marked_byte protect x = x / 128 * 128 + 64 + x % 64
marked_byte release x = x / 128 * 128 + x % 64

abbrev pub between : ℕ → ℕ → ℕ → Bool
between lo x hi = leb lo x && leb x hi

abbrev pub all_between : ℕ → List ℕ → ℕ → Bool
all_between lo [] hi = true
all_between lo (x ∷ xs) hi = between lo x hi && all_between lo xs hi

-- "A new name keeps to that too and has every byte given 32 to 126 and the first not 32."
unfoldable pub usable : List ℕ → Bool
usable n = askable n && (all_between 32 n 126 && not (eqb (get_or n 0 0) 32))
