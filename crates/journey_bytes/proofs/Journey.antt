-- A whole journey, of what the app gets through the C layer.
use Prim.Native.Nat.{ℕ}
use mathlib.Core.Path.{◌≡◌, sym, subst}
use mathlib.Core.List.{List}
use mathlib.Core.Option.{none}
use Rattle.disk.specs.View.{view}
use Rattle.disk.specs.Check.{check_disk}
use Rattle.journeys.specs.Journey.{disk_after_journey, ledger_of}
use Rattle.journeys.proofs.Journey.{journey_ledger, journey}
use Rattle.journey_bytes.specs.Bytes.{ByteEvent, after_bytes, events_of, ledger_bytes}
use Rattle.journey_bytes.specs.Got.{BytesAnswer}
use Rattle.journey_bytes.proofs.Left.{after_is}
use Rattle.journey_bytes.proofs.Got.{bytes_answer}

-- M-113, of every accepted disk and every sequence of calls with their lent bytes: what the C layer answers on the disk that is left is what
-- the ledger says
pub journey_bytes : (es : List ByteEvent) (d : List ℕ) → check_disk d ≡ none → BytesAnswer (after_bytes es d) (ledger_bytes es d (ledger_of (view d)))
journey_bytes es d ok =
    subst (λ (x : List ℕ). BytesAnswer x (ledger_bytes es d (ledger_of (view d)))) (sym (after_is es d))
    (bytes_answer (disk_after_journey (events_of es) d) (ledger_bytes es d (ledger_of (view d))) (journey (events_of es) d ok) (journey_ledger (events_of es) d ok).1)
