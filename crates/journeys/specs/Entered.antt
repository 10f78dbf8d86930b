-- What each change refuses, and what it enters in the ledger: its own function for each, which knows neither plans nor steps nor the
-- view of a disk. The words of the documents stand above what they define.
use Rattle.std.specs.Prelude.{ℕ, zero, suc, ◌+◌, ◌*◌, ◌/◌, Bool, true, false, cond, not, ◌&&◌, ◌||◌, List, [], ◌∷◌, eqb, leb, ltb, length, get_or}
use Rattle.std.proofs.Math.Option.{Option, none, some}
use Rattle.buffers.specs.Bytes.{tab, put, any, count}
use Rattle.refusals.specs.Order.{refuse, Reply, ◌else◌, row}
use Rattle.slots.specs.Slot.{protected, carried, name_of, is_directory, count_of, first_of, sectors_for}
use Rattle.names.specs.Name.{askable, padded, same_bytes}
use Rattle.directory.specs.Places.{slots}
use Rattle.directory.specs.Directory.{fold_option}
use Rattle.directory.specs.Find.{find}
use Rattle.surveys.specs.Survey.{free}
use Rattle.trees.specs.Tree.{occupied}
use Rattle.plans.specs.Change.{SaveRequest, Change, save, erase, rename, mark, gather, marked_byte, between, usable}
use Rattle.plans.specs.Saving.{taken_bits, lowest_slot, stream, new_slot}
use Rattle.plans.specs.Gathering.{up_from, lowest_run, chain_fields}
use Rattle.journeys.specs.Ledger.{LedgerEntry, Ledger, ledger_tracks, ledger_slots, entry_at, entry_reply}

-- ---- what is refused: rows 12 to 19, 29 and 32, of the slots alone; 32 also of the order of the sectors

-- 16, at the slot that has the name
abbrev pub taken16 : Option ℕ → Reply
taken16 o = fold_option none (λ j. some (refuse 16 (suc j))) o

-- "A rename that alters only the case of its own name is allowed; a new name equal to the stored bytes stays refused."
abbrev pub other_than : ℕ → LedgerEntry → List ℕ → Option ℕ → Option ℕ
other_than i e new o = fold_option none (λ j. cond (eqb j i && not (same_bytes (name_of e.slot) (padded new))) none (some j)) o

-- a save's, of its arguments and the slots
unfoldable pub save_refuses : SaveRequest → Ledger → Reply
save_refuses w b =
    row 12 0 (not (usable w.name)) else row 13 0 (not (carried w.kind))
    else row 14 0 (not (leb w.page 31 && between 32768 w.offset 49151)) else taken16 (find (ledger_slots b) w.name)
    else row 18 0 (fold_option true (λ i. false) (lowest_slot (ledger_tracks b) (ledger_slots b)))
    else row 19 0 (ltb (free (ledger_tracks b) (ledger_slots b)) (sectors_for (length w.body)))

-- "A file already on consecutive bits in rising order is left": of another some sector is not as many bits above its first
unfoldable pub must_move : LedgerEntry → Bool
must_move e = any (count_of e.slot) (λ k. not (eqb (get_or e.chain k 0) (first_of e.slot + k)))

-- where it goes: "the lowest run of free map bits of its length that are consecutive"
abbrev pub run_for : Ledger → LedgerEntry → Option ℕ
run_for b e = lowest_run (ledger_tracks b) (ledger_slots b) (count_of e.slot)

unfoldable pub ledger_refuses : Change → Ledger → Reply
ledger_refuses (save w) b = save_refuses w b
ledger_refuses (erase n) b = entry_reply b n (λ i e. row 17 (suc i) (protected e.slot) else row 29 (suc i) (occupied (ledger_slots b) i e.slot))
ledger_refuses (rename n new) b =
    row 12 0 (not (askable n && usable new))
    else entry_reply b n (λ i e. taken16 (other_than i e new (find (ledger_slots b) new)) else row 17 (suc i) (protected e.slot))
ledger_refuses (mark m n) b = entry_reply b n (λ i e. none)
ledger_refuses (gather n) b =
    entry_reply b n (λ i e. row 13 (suc i) (is_directory e.slot) else row 32 0 (must_move e && fold_option true (λ first. false) (run_for b e)))

-- ---- what is entered

abbrev pub with_entry : Ledger → ℕ → Option LedgerEntry → Ledger
with_entry b i o = record { label = b.label; entry = λ j. cond (eqb j i) o (b.entry j) }

-- the entry that has the name, changed
abbrev pub at_name : Ledger → List ℕ → (LedgerEntry → Option LedgerEntry) → Ledger
at_name b n then = fold_option b (λ i. with_entry b i (then (entry_at b i))) (find (ledger_slots b) n)

-- other bytes from place o of the slot on; the file's bytes are kept
abbrev pub with_bytes : LedgerEntry → ℕ → List ℕ → LedgerEntry
with_bytes e o y = record { slot = put e.slot o y; payload = e.payload; chain = e.chain }

-- "the n lowest free map bits, rising, as chain"; header, body, and 0 up to the end of the last sector
abbrev pub saved : Ledger → ℕ → SaveRequest → LedgerEntry
saved b i w = record {
  slot = new_slot b.label i w (taken_bits (ledger_tracks b) (ledger_slots b) w);
  payload = tab (510 * sectors_for (length w.body)) (λ k. get_or (stream w) k 0);
  chain = taken_bits (ledger_tracks b) (ledger_slots b) w;
}

-- "Move one file, all its payload bytes in their order, .. chained rising; .. Only slot bytes 13 to 209 change."
abbrev pub moved_entry : List ℕ → LedgerEntry → LedgerEntry
moved_entry bits e = record { slot = put e.slot 13 (chain_fields bits); payload = e.payload; chain = bits }

abbrev pub gathered : Ledger → LedgerEntry → LedgerEntry
gathered b e = cond (must_move e) (fold_option e (λ first. moved_entry (up_from (count_of e.slot) first) e) (run_for b e)) e

unfoldable pub ledger_after : Change → Ledger → Ledger
ledger_after (save w) b = fold_option b (λ i. with_entry b i (some (saved b i w))) (lowest_slot (ledger_tracks b) (ledger_slots b))
ledger_after (erase n) b = at_name b n (λ e. none)
ledger_after (rename n new) b = at_name b n (λ e. some (with_bytes e 1 (padded new)))
ledger_after (mark m n) b = at_name b n (λ e. some (with_bytes e 0 (marked_byte m (get_or e.slot 0 0) ∷ [])))
ledger_after (gather n) b = at_name b n (λ e. some (gathered b e))

-- ---- an erase-many: "erase them in order"

-- after the first k names, each name its ten bytes; a refused one leaves all as it was
unfoldable pub ledger_after_erases : Ledger → (ℕ → List ℕ) → ℕ → Ledger
ledger_after_erases b name zero = b
ledger_after_erases b name (suc k) =
    fold_option (ledger_after (erase (name k)) (ledger_after_erases b name k)) (λ r. ledger_after_erases b name k) (ledger_refuses (erase (name k)) (ledger_after_erases b name k))

-- "The answers, one byte a name with 0 for done"
unfoldable pub answer_to : Ledger → (ℕ → List ℕ) → ℕ → ℕ
answer_to b name k = fold_option 0 (λ r. r.number) (ledger_refuses (erase (name k)) (ledger_after_erases b name k))

-- slot i has an entry in the one ledger and none in the other
unfoldable pub gone_from : Ledger → Ledger → ℕ → Bool
gone_from b c i = fold_option false (λ e. fold_option true (λ f. false) (c.entry i)) (b.entry i)

-- how many of the directory's sectors before the j-th have such a slot: slots 2j and 2j + 1 (from 0) lie in one
unfoldable pub sectors_before : (ℕ → Bool) → ℕ → ℕ
sectors_before gone j = count j (λ q. gone (2 * q) || gone (2 * q + 1))

-- "Erase-many enters it sector by sector": where k sectors were written, without the files erased in these
unfoldable pub erased_in : Ledger → Ledger → ℕ → Ledger
erased_in b c k = record {
  label = b.label;
  entry = λ i. cond (gone_from b c i && ltb (sectors_before (gone_from b c) (i / 2)) k) none (b.entry i);
}
