-- A file's header, its length and its body. The words of documents 01 and 02 stand above what they define.
use Rattle.std.specs.Prelude.{ℕ, ◌+◌, ◌*◌, ◌/◌, ◌%◌, Bool, not, cond, ◌&&◌, List, [], ◌∷◌, eqb, ltb, get_or}
use Rattle.buffers.specs.Bytes.{tab}
use Rattle.refusals.specs.Order.{Row, ◌when◌, Reply, rows}
use Rattle.slots.specs.Slot.{SlotFields, slot_fields, kind_of, carried, spectrum, directory_kind, length_of}
use Rattle.chains.specs.File.{File}
use Rattle.chains.specs.Chain.{broken, chain_bit}

-- "The first sector begins with nine bytes: kind; remainder (2) and offset (2), both low byte first; two unused; pages;
-- start page." "the header's first byte (whole), remainder (mod 16,384) or pages differ from the slot's kind, remainder, pages"
unfoldable pub header_differs : SlotFields → List ℕ → Bool
header_differs x h =
    not (eqb (get_or h 0 0) x.kind && (eqb ((get_or h 1 0 + 256 * get_or h 2 0) % 16384) x.remainder && eqb (get_or h 7 0) x.pages))

-- "Kinds 1 to 4 have the Plus D header: nine bytes, length in bytes 1 and 2, start in 3 and 4, low byte first." "the other
-- header bytes are not compared"
abbrev pub header_length : List ℕ → ℕ
header_length h = get_or h 1 0 + 256 * get_or h 2 0

abbrev pub header_start : List ℕ → ℕ
header_start h = get_or h 3 0 + 256 * get_or h 4 0

-- rows 10, 11 and 25 of a file with sectors
abbrev pub chain_rows : SlotFields → (ℕ → List ℕ) → List Row
chain_rows x sec =
    -- the chain is broken
    (10 when broken x sec)
    -- carried kind, and the header's first byte, remainder or pages differ from the slot's
    ∷ (11 when carried x.kind && header_differs x (sec x.first))
    -- kind 1 to 4, and "510 × count is below 9 + length"
    ∷ (25 when spectrum x.kind && ltb (510 * x.count) (9 + header_length (sec x.first)))
    ∷ []

-- of kind 21 none: "the chain pass skips it"
abbrev pub chain_pass_rows : SlotFields → (ℕ → List ℕ) → List Row
chain_pass_rows x sec = cond (directory_kind x.kind) [] (chain_rows x sec)

-- their reply at a slot
unfoldable pub chain_reply : ℕ → File → Reply
chain_reply slot f = rows slot (chain_rows (slot_fields f.bytes) f.sectors)

unfoldable pub chain_pass_reply : ℕ → File → Reply
chain_pass_reply slot f = rows slot (chain_pass_rows (slot_fields f.bytes) f.sectors)

-- the first sector of a file
abbrev pub first_sector : File → List ℕ
first_sector f = f.sectors (slot_fields f.bytes).first

-- "Body bytes follow, 510 payload bytes to a sector." Byte k of a body, past the nine of the header, along the links.
unfoldable pub body_byte : File → ℕ → ℕ
body_byte f k = get_or (f.sectors (chain_bit f.sectors (slot_fields f.bytes).first ((9 + k) / 510))) ((9 + k) % 510) 0

-- the length of a file's body: of kinds 1 to 4 the header's, else the slot's
unfoldable pub file_length : File → ℕ
file_length f = cond (spectrum (kind_of f.bytes)) (header_length (first_sector f)) (length_of (slot_fields f.bytes))

unfoldable pub body : File → List ℕ
body f = tab (file_length f) (body_byte f)
