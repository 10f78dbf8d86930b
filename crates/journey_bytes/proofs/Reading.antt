-- A file read piece by piece through the C layer is the ledger's.
use Prim.Native.Nat.{ℕ, ◌%◌}
use mathlib.Core.Path.{◌≡◌, refl, sym, ap, ◌∙◌}
use mathlib.Core.List.{List}
use mathlib.Core.Option.{none, some, some-injective, some-ne-none}
use native.Mathlib.Omega.{arith}
use lib.ListN.{length, take}
use Rattle.refusals.specs.Order.{Refusal}
use Rattle.refusals.specs.Answers.{refused}
use Rattle.packing.specs.Packed.{packed, packed_at}
use Rattle.headers.specs.Header.{body}
use Rattle.disk.specs.View.{view}
use Rattle.disk.specs.Check.{check_disk}
use Rattle.files.specs.Calls.{file_named}
use Rattle.readers.specs.Opening.{FileOpening, opened_at, refused_opening, open_file}
use Rattle.readers.specs.Pieces.{total}
use Rattle.readers.specs.declared.Place.{Place}
use Rattle.journeys.specs.Ledger.{Ledger, entry_named, body_of, ledger_opens}
use Rattle.journeys.specs.Journey.{ledger_of}
use Rattle.journeys.specs.Answers.{begin_reply}
use Rattle.journeys.proofs.Reading.{opened, body-view}
use Rattle.varnucht.specs.Reading.{packed_opening}
use Rattle.varnucht.proofs.Reading.{AppReads, app_reads}
use Rattle.journey_bytes.specs.Got.{ReadsBytes}

-- an answer with a place has no refusal
no_refusal : (s v o : ℕ) → packed_at s v o % 256 ≡ 0
no_refusal s v o = omega arith

refused-is : (g : FileOpening) (r : Refusal) → begin_reply g ≡ some r → packed_opening g ≡ packed (refused r)
refused-is (opened_at p) r e = absurd (some-ne-none r (sym e))
refused-is (refused_opening s) r e = let z : s ≡ r = some-injective s r e in ap (λ (x : Refusal). packed (refused x)) z

place_of : (g : FileOpening) → begin_reply g ≡ none → (p : Place) × (g ≡ opened_at p)
place_of (opened_at p) e = (p, refl)
place_of (refused_opening r) e = absurd (some-ne-none r e)

module _ (d : List ℕ) (ok : check_disk d ≡ none) (n : List ℕ) where
  abbrev b : Ledger
  b = ledger_of (view d)

  -- where opening is not refused
  module _ (q : ledger_opens b n ≡ none) where
    found : (p : Place) × (open_file d n ≡ opened_at p)
    found = place_of (open_file d n) (opened d ok n ∙ q)

    app : AppReads d n (packed_opening (open_file d n))
    app = let p = found in
        app_reads d n (ap (λ (g : FileOpening). packed_opening g % 256) p.1 ∙ no_refusal p.0.sector p.0.left p.0.offset)

    body_of_lem : body (file_named (view d) n) ≡ body_of (entry_named b n)
    unfolding check_disk
    body_of_lem = let p = found in body-view (view d) ok n p.0 p.1

  pub reads_bytes : ReadsBytes d b n
  reads_bytes = record {
    refusal = λ r e. refused-is (open_file d n) r (opened d ok n ∙ e);
    long = λ q. (app q).long ∙ ap length (body_of_lem q);
    first = λ q rooms. (app q).first rooms ∙ ap (take (total rooms)) (body_of_lem q);
  }
