-- The starred points of document 01 in one table: what the library's definitions give, and what the document says.
use Rattle.std.specs.Prelude.{ℕ, ◌≡◌, List, [], ◌∷◌}
use Rattle.geometry.specs.Disk.{bit_of, sector_place, bit_place}
use Rattle.slots.specs.Slot.{sectors_for}
use Rattle.directory.specs.Places.{slot_at}
use Rattle.files.specs.Calls.{address}

pub record Point : Type 0 where
  pub gives : ℕ
  pub says : ℕ

infix 20 ◌says◌
abbrev pub ◌says◌ : ℕ → ℕ → Point
g says s = record { gives = g; says = s }

-- Slots are counted from 0 in `slot_at`, so slot n is `slot_at` of the number before n.
abbrev pub starred : List Point
starred =
    -- "Track 4 sector 1: bit 0, place 40,960."
    (bit_of 4 1 says 0)
    ∷ (sector_place 4 1 says 40960)
    ∷ (bit_place 0 says 40960)
    -- "Track 79 sector 10: bit 759, place 813,568."
    ∷ (bit_of 79 10 says 759)
    ∷ (sector_place 79 10 says 813568)
    ∷ (bit_place 759 says 813568)
    -- "Track 128 sector 1: bit 760, place 5,120."
    ∷ (bit_of 128 1 says 760)
    ∷ (sector_place 128 1 says 5120)
    ∷ (bit_place 760 says 5120)
    -- "Track 207 sector 10: bit 1,559, place 818,688."
    ∷ (bit_of 207 10 says 1559)
    ∷ (sector_place 207 10 says 818688)
    ∷ (bit_place 1559 says 818688)
    -- "Slot 20 at 4,864; slot 21 at 10,240; slot 80 at 35,584."
    ∷ (slot_at 19 says 4864)
    ∷ (slot_at 20 says 10240)
    ∷ (slot_at 79 says 35584)
    -- "Sectors for bodies: 0 takes 1; 501 takes 1; 502 takes 2; 10,000 takes 20; 795,591 takes 1,560;"
    ∷ (sectors_for 0 says 1)
    ∷ (sectors_for 501 says 1)
    ∷ (sectors_for 502 says 2)
    ∷ (sectors_for 10000 says 20)
    ∷ (sectors_for 795591 says 1560)
    -- "Page 29, offset 32,768: 491,520."
    ∷ (address 29 32768 says 491520)
    ∷ []

-- each point is as the document says
abbrev pub Every : List Point → Type 0
Every [] = Unit {0}
Every (p ∷ ps) = (p.gives ≡ p.says) × Every ps
