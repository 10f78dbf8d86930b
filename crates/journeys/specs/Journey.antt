-- A journey: "From an accepted disk, take any sequence of changes, each run to its end or cut, the next starting from what was left." And
-- the ledger beside it, "that made exactly the changes whose last sector was written." (document 02, M-113)
use Rattle.std.specs.Prelude.{ℕ, ◌*◌, ◌/◌, ◌%◌, cond, List, [], ◌∷◌, leb, length, get_or}
use Rattle.std.proofs.Math.Option.{none, some}
use Rattle.buffers.specs.Bytes.{tab}
use Rattle.slots.specs.Slot.{count_of, first_of}
use Rattle.chains.specs.Chain.{chain_bit}
use Rattle.chains.specs.File.{File, sector_at}
use Rattle.directory.specs.Directory.{fold_option}
use Rattle.disk.specs.View.{View}
use Rattle.steps.specs.Sectors.{cut}
use Rattle.plans.specs.Saving.{lowest_slot, new_slot}
use Rattle.plans.specs.Gathering.{payload_of}
use Rattle.plans.specs.Plan.{Result, refused_result, new_disk}
use Rattle.plans.specs.Allowed.{sectors_taken}
use Rattle.recordings.specs.Recording.{Recording, chain_of}
use Rattle.erase_many.specs.EraseMany.{name_at, how_many}
use Rattle.operations.specs.Operations.{Operation, single_change, erase_names, record_piece, record_close, run_operation}
use Rattle.journeys.specs.Ledger.{LedgerEntry, Ledger, ledger_tracks, ledger_slots}
use Rattle.journeys.specs.Entered.{with_entry, ledger_after, ledger_after_erases, erased_in}

-- ---- the disk

-- what is asked, with a list of so many numbers, and how many of its sectors were written: as many as it names, or more, where it was run
-- to its end. The opening of a recording writes nothing. Nothing is asked of the recording of a piece or a close, so that what holds
-- here holds of those that were opened on this journey.
pub record Event : Type 0 where
  pub ask : Operation
  pub room : ℕ
  pub written : ℕ

-- what is left of a disk: a refused call leaves it as it was
abbrev pub disk_left_by : List ℕ → ℕ → Result → List ℕ
disk_left_by d k (refused_result r) = d
disk_left_by d k (new_disk new ss) = cut d new ss k

unfoldable pub disk_left : Event → List ℕ → List ℕ
disk_left e d = disk_left_by d e.written (run_operation e.ask d e.room)

unfoldable pub disk_after_journey : List Event → List ℕ → List ℕ
disk_after_journey [] d = d
disk_after_journey (e ∷ es) d = disk_after_journey es (disk_left e d)

-- ---- the ledger

-- of a disk: each live slot's bytes, its payload and its sectors along its links
abbrev pub entry_of_file : File → LedgerEntry
entry_of_file f = record { slot = f.bytes; payload = payload_of f; chain = tab (count_of f.bytes) (chain_bit f.sectors (first_of f.bytes)) }

unfoldable pub ledger_of : View → Ledger
ledger_of l = record { label = l.label; entry = λ i. fold_option none (λ f. some (entry_of_file f)) (l.files i) }

-- "and a recording .. at its close, as what its sectors then read": on the disk that is left
abbrev pub recorded_entry : Ledger → ℕ → Recording → List ℕ → LedgerEntry
recorded_entry b i r new = record {
  slot = new_slot b.label i r.request (chain_of r);
  payload = tab (510 * sectors_taken r.request) (λ k. get_or (sector_at new (get_or (chain_of r) (k / 510) 0)) (k % 510) 0);
  chain = chain_of r;
}

abbrev pub ledger_after_close : Recording → List ℕ → Ledger → Ledger
ledger_after_close r new b = fold_option b (λ i. with_entry b i (some (recorded_entry b i r new))) (lowest_slot (ledger_tracks b) (ledger_slots b))

-- what is entered of an accepted call that names ss, k of its sectors written and new left
abbrev pub entered_by : Operation → List ℕ → ℕ → List ℕ → Ledger → Ledger
entered_by (single_change c) ss k new b = cond (leb (length ss) k) (ledger_after c b) b
entered_by (erase_names ns abuf) ss k new b = erased_in b (ledger_after_erases b (name_at ns) (how_many ns)) k
entered_by (record_piece r x) ss k new b = b
entered_by (record_close r) ss k new b = cond (leb (length ss) k) (ledger_after_close r new b) b

abbrev pub entered_of : Event → Result → List ℕ → Ledger → Ledger
entered_of e (refused_result r) new b = b
entered_of e (new_disk d ss) new b = entered_by e.ask ss e.written new b

-- of the disk d it is asked only which calls are accepted and whether their last sector was written, and what a recording's sectors hold
unfoldable pub entered : Event → List ℕ → Ledger → Ledger
entered e d b = entered_of e (run_operation e.ask d e.room) (disk_left e d) b

unfoldable pub ledger : List Event → List ℕ → Ledger → Ledger
ledger [] d b = b
ledger (e ∷ es) d b = ledger es (disk_left e d) (entered e d b)
