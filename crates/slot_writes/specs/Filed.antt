-- The slot that a save writes, and the directory's part of it: the definitions of `plans` in the pieces that the code writes, for
-- numbers of any size. The words of documents 01 and 02 stand above what they define. Of a number that is too large for its byte
-- the remainder is written; a save has none.
use Rattle.std.specs.Prelude.{ℕ, suc, ◌/◌, ◌%◌, Bool, cond, ◌&&◌, List, [], ◌∷◌, eqb, ltb, replicate}
use Rattle.buffers.specs.Bytes.{part, put}
use Rattle.names.specs.Name.{padded}
use Rattle.directory.specs.Places.{slots, slot_at}
use Rattle.steps.specs.Steps.{Put, put_all}
use Rattle.plans.specs.Plan.{without_next_name, dir_sectors}
use Rattle.allocation.specs.declared.HeaderFields.{HeaderFields}
use Rattle.sector_writes.specs.declared.Link.{Link}

-- ---- the slot

abbrev pub field_put : ℕ → List ℕ → Put
field_put a x = record { place = a; bytes = x }

-- "11, 12 sector count, high byte first; 13, 14 first track and sector": of a chain of n sectors, the first at k
unfoldable pub chain_bytes : ℕ → Link → List ℕ
chain_bytes n k = n / 256 % 256 ∷ n % 256 ∷ k.track ∷ k.sector ∷ []

-- "236 start page in bits 0 to 4; 237, 238 offset, low byte first; 239 pages; 240, 241 length mod 16,384, low byte first"
unfoldable pub start_fields : HeaderFields → ℕ → List ℕ
start_fields s n = s.page % 256 ∷ s.offset % 256 ∷ s.offset / 256 % 256 ∷ n / 16384 % 256 ∷ n % 16384 % 256 ∷ n % 16384 / 256 ∷ []

-- the slot of a file of n bytes in a chain of c sectors, the first at k, whose map is m: "15 to 209 map;", "221 to 231 kind information;",
-- "242 to 244 execution bytes"; "Slot bytes not named above are 0, but byte 245 is 255"
unfoldable pub fresh_slot : HeaderFields → List ℕ → List ℕ → List ℕ → ℕ → ℕ → Link → List ℕ → List ℕ
fresh_slot s name exec info n c k m =
    put_all (replicate 256 0)
    (field_put 0 (s.kind % 256 ∷ []) ∷ field_put 1 (part 0 10 (padded name)) ∷ field_put 11 (chain_bytes c k) ∷ field_put 15 (part 0 195 m) ∷ field_put 221 (part 0 11 info)
    ∷ field_put 236 (start_fields s n) ∷ field_put 242 (part 0 3 exec) ∷ field_put 245 (255 ∷ []) ∷ [])

-- "a save into slot 1 now keeps bytes 210 to 219, 252, 253 and 255.": the slot s at slot i of a disk d
unfoldable pub kept_slot : List ℕ → ℕ → List ℕ → List ℕ
kept_slot d i s =
    cond (eqb i 0) (put_all s (field_put 210 (part 210 10 d) ∷ field_put 252 (part 252 2 d) ∷ field_put 255 (part 255 1 d) ∷ [])) s

-- the slot that is written at slot i of a disk d
unfoldable pub slot_of : List ℕ → ℕ → HeaderFields → List ℕ → List ℕ → List ℕ → ℕ → ℕ → Link → List ℕ → List ℕ
slot_of d i s name exec info n c k m = kept_slot d i (fresh_slot s name exec info n c k m)

-- ---- the directory's part; old: whether an old name stands behind slot i

-- "and a next slot exists": nothing stands behind the last slot
unfoldable pub has_next_name : Bool → ℕ → Bool
has_next_name old i = ltb (suc i) slots && old

-- the sectors that are written, in their order; none where there is no slot i
unfoldable pub directory_sectors : Bool → ℕ → List ℕ
directory_sectors old i = cond (ltb i slots) (dir_sectors (has_next_name old i) i) []

-- no old name behind slot i, and then the slot s there
unfoldable pub slot_written : Bool → ℕ → List ℕ → List ℕ → List ℕ
slot_written old i s d = cond (ltb i slots) (put (without_next_name (has_next_name old i) i d) (slot_at i) s) d
