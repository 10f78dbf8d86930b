-- A file of kinds 1 to 4 on an accepted disk: its body and its start are by its header.
use Prim.Native.Nat.{ℕ, ◌≤◌, ◌<◌}
use mathlib.Core.Path.{◌≡◌, ap, ap₂, ◌∙◌}
use mathlib.Core.Bool.{true, not}
use mathlib.Core.List.{List}
use mathlib.Core.Option.{none, some}
use borrow.Author.Tests.{lt-ltb}
use lib.Dec.{ltb}
use lib.ListN.{length}
use Rattle.buffers.specs.Bytes.{tab, put}
use Rattle.refusals.specs.Order.{refuse, Reply, ◌else◌, row}
use Rattle.refusals.specs.Answers.{done, refused, out}
use Rattle.slots.specs.Slot.{kind_of, spectrum, readable}
use Rattle.names.specs.Name.{askable}
use Rattle.slots.proofs.KindLaws.{spectrum-read}
use Rattle.chains.specs.File.{File}
use Rattle.headers.specs.Header.{first_sector, header_length, header_start, file_length, body_byte, body}
use Rattle.headers.proofs.Laws.{length-header}
use Rattle.disk.specs.View.{view}
use Rattle.disk.specs.Check.{check_disk}
use Rattle.disk.specs.Accepted.{Spectrum}
use Rattle.disk.proofs.Rows.{is-spectrum}
use Rattle.files.specs.Calls.{not_readable, start_out_of_range, read_reply, read_view, reading, start_reply, start_view, file_start, start_address}
use Rattle.plans.specs.Allowed.{NamedSlot}
use Rattle.plans.specs.Spectrum.{SpectrumAnswers}
use Rattle.plans.proofs.ReadBack.{named_here, file_named_lem, read_here}
use Rattle.plans.proofs.Exactly.{named_find}

module _ (d n : List ℕ) (ok : check_disk d ≡ none) (a : askable n ≡ true) (i : ℕ) (f : File) (w : NamedSlot d n i f) (s : Spectrum (kind_of f.bytes)) where
  is : spectrum (kind_of f.bytes) ≡ true
  is = is-spectrum (kind_of f.bytes) s

  abbrev len : ℕ
  len = header_length (first_sector f)

  long : file_length f ≡ len
  long = length-header f is

  bytes : body f ≡ tab len (body_byte f)
  unfolding body
  bytes = ap (λ (m : ℕ). tab m (body_byte f)) long

  reads : (buf : List ℕ) → len ≤ length buf → reading d n buf ≡ out (done len 0) (put buf 0 (tab len (body_byte f)))
  unfolding check_disk
  reads buf h =
      read_here (view d) ok n a i f (named_find d n ok i f w) w.here (spectrum-read (kind_of f.bytes) is) buf (rw long h)
      ∙ ap₂ (λ (m : ℕ) (x : List ℕ). out (done m 0) (put buf 0 x)) long bytes

  short : (buf : List ℕ) → length buf < len → reading d n buf ≡ out (refused (refuse 20 0)) buf
  unfolding check_disk read_view read_reply
  short buf h =
      let q : read_reply (view d) n (length buf) ≡ some (refuse 20 0) =
      named_here (view d) ok n a i f (named_find d n ok i f w) w.here (λ slot f. not_readable slot f else row 20 0 (ltb (length buf) (file_length f)))
      ∙ rw (spectrum-read (kind_of f.bytes) is, lt-ltb (length buf) (file_length f) (rw long h)) in
      rw q

  starts : start_address d n ≡ done (header_start (first_sector f)) 0
  unfolding check_disk start_view start_reply file_start
  starts =
      let q : start_reply (view d) n ≡ none =
      named_here (view d) ok n a i f (named_find d n ok i f w) w.here (λ slot f. not_readable slot f else start_out_of_range slot f)
      ∙ rw (spectrum-read (kind_of f.bytes) is, is) in
      rw (q, file_named_lem (view d) ok n a i f (named_find d n ok i f w) w.here, is)

  pub spectrum-answers : SpectrumAnswers d n f
  spectrum-answers = record { reads = reads; short = short; starts = starts }
