-- The length of a file's body.
use mathlib.Core.Path.{◌≡◌}
use mathlib.Core.Bool.{true, false}
use Rattle.slots.specs.Slot.{slot_fields, kind_of, spectrum, length_of}
use Rattle.chains.specs.File.{File}
use Rattle.headers.specs.Header.{header_length, first_sector, file_length}

pub length-header : (f : File) → spectrum (kind_of f.bytes) ≡ true → file_length f ≡ header_length (first_sector f)
unfolding file_length
length-header f e = rw e

pub length-slot : (f : File) → spectrum (kind_of f.bytes) ≡ false → file_length f ≡ length_of (slot_fields f.bytes)
unfolding file_length
length-slot f e = rw e
