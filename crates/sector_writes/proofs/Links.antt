-- The header of a save, and the links of a chain.
use Prim.Native.Nat.{ℕ, ◌+◌, ◌*◌, ◌/◌, ◌%◌, ◌≤◌, ◌<◌}
use mathlib.Core.Path.{◌≡◌, sym, ap, ap₂, ◌∙◌}
use mathlib.Core.List.{List, ◌∷◌, ◌++◌}
use mathlib.Core.Logic.{⊎_elim}
use borrow.Author.Tests.{lt-ltb, le-ltb}
use native.Mathlib.Numerals.{add-one}
use native.Mathlib.Omega.{arith}
use lib.ListN.{length, get_or, drop, drop_of_length-le}
use lib.Seq.{drop-cons}
use Rattle.buffers.proofs.Lists.{below_or_not}
use Rattle.geometry.specs.Disk.{image_size, bit_number, place_or_end, track_of, sector_of, address_of}
use Rattle.std.specs.Prelude.{Some, None}
use Rattle.geometry.specs.declared.Address.{Address}
use Rattle.geometry.proofs.Laws.{number_small, place_or_end_lem, place_end, place_inside, address-sector, address_data}
use Rattle.geometry.proofs.Tests.{data_bounds}
use Rattle.plans.specs.Change.{SaveRequest}
use Rattle.plans.specs.Saving.{stream}
use Rattle.sector_writes.specs.declared.Link.{Link}
use Rattle.sector_writes.specs.Sector.{header_fields_of, FieldsFit, header, link_address, link_to_bit, link_to_next}

-- ---- the header

-- a number that fits a byte
pub one_byte : (n : ℕ) → n < 256 → n % 256 ≡ n
one_byte n h = omega arith

-- the high byte of a number that fits two, and the pages of a length that fits
pub high_byte : (n : ℕ) → n < 65536 → n / 256 % 256 ≡ n / 256
high_byte n h = let q : n / 256 < 256 = omega arith in one_byte (n / 256) q

pub page-byte : (n : ℕ) → n < 4194304 → n / 16384 % 256 ≡ n / 16384
page-byte n h = let q : n / 16384 < 256 = omega arith in one_byte (n / 16384) q

-- what is written of a request is its header and its body
pub stream-is : (w : SaveRequest) → FieldsFit (header_fields_of w) (length w.body) → header (header_fields_of w) (length w.body) ++ w.body ≡ stream w
unfolding header stream
stream-is w p =
    rw (one_byte w.kind p.kind, one_byte w.page p.page, high_byte w.offset p.offset, page-byte (length w.body) p.pages)

-- ---- a chain and its links

-- what is left of a chain from sector j on
pub from : (bs : List ℕ) (j : ℕ) → j < length bs → drop j bs ≡ get_or bs j 0 ∷ drop (j + 1) bs
from bs j h = drop-cons bs j 0 h ∙ ap (λ (n : ℕ). get_or bs j 0 ∷ drop n bs) (sym (add-one j))

-- a track and a sector are bytes
pub link_small : (a : Address) (b : ℕ) → address_of b ≡ Some a → (a.track < 208) × (a.sector ≤ 10)
link_small a b e =
    let k = address-sector a.track a.sector b e in
    let d = data_bounds (track_of b) (sector_of b) (address_data b k.small) in
    (omega arith, omega arith)

-- the link of a map bit
pub link_bit : (b : ℕ) → b < 1560 → link_to_bit b ≡ link_address (track_of b) (sector_of b)
unfolding link_to_bit
link_bit b h = rw (lt-ltb b 1560 h)

pub link_some : (b : ℕ) (a : Address) → address_of b ≡ Some a → link_address a.track a.sector ≡ link_to_bit b
link_some b a e = let k = address-sector a.track a.sector b e in sym (link_bit b k.small ∙ ap₂ link_address k.track k.sector)

-- a map bit has an address
no_bit : (b : ℕ) → b < 1560 → address_of b ≡ None → ⊥
unfolding address_of
no_bit b h e =
    let there : Address = record { track = track_of b; sector = sector_of b } in
    let f : Some there ≡ None = sym (rw (lt-ltb b 1560 h)) ∙ e in
    let z : ◌≡◌ {A = ℕ} 0 1 = cc in omega arith

pub link_none : (b : ℕ) → address_of b ≡ None → link_address 0 0 ≡ link_to_bit b
unfolding link_to_bit
link_none b e =
    ⊎_elim (λ (h : b < 1560). absurd (no_bit b h e)) (λ (h : 1560 ≤ b). sym (rw (le-ltb b 1560 h))) (below_or_not b 1560)

-- the link to sector j of a chain; past its end there is none
pub to_none : (bs : List ℕ) (j : ℕ) → length bs ≤ j → link_address 0 0 ≡ link_to_next (drop j bs)
unfolding link_to_next
to_none bs j h = rw (drop_of_length-le bs h)

pub to_some : (bs : List ℕ) (j : ℕ) → j < length bs → get_or bs j 0 < 1560 → (r : Link) → r ≡ link_to_bit (get_or bs j 0) → r ≡ link_to_next (drop j bs)
unfolding link_to_next
to_some bs j h l r e = e ∙ link_bit (get_or bs j 0) l ∙ sym (rw (from bs j h))

-- a map bit's place is in the image or at its end
pub end_le : (b p : ℕ) → p ≡ place_or_end b → p ≤ image_size
end_le b p e =
    ⊎_elim (λ (h : b < 1560). omega (arith, place_or_end_lem b h, place_inside b h)) (λ (h : 1560 ≤ b). omega (arith, place_end b h)) (below_or_not b 1560)

-- the number of a map bit's sector, of its place
pub number-of : (b n : ℕ) → b < 1560 → n ≡ place_or_end b / 512 → n ≡ bit_number b
number-of b n h e = omega (arith, place_or_end_lem b h)
