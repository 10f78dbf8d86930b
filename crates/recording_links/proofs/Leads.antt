-- Whether a sector leads to the next, as the code reads it.
use Prim.Native.Nat.{ℕ, ◌+◌, ◌<◌}
use mathlib.Core.Path.{◌≡◌, sym, ap, ap₂, ◌∙◌}
use mathlib.Core.Bool.{Bool, true, false, ◌&&◌}
use mathlib.Core.List.{List}
use native.Mathlib.Omega.{arith}
use borrow.Author.Tests.{eq-eqb, ne_eqb}
use lib.Dec.{eqb}
use lib.ListN.{get_or}
use Rattle.buffers.proofs.Lists.{part_at}
use Rattle.geometry.specs.Disk.{bit_place, place_or_end}
use Rattle.geometry.proofs.Laws.{place_or_end_lem}
use Rattle.chains.specs.File.{sector_at}
use Rattle.sector_writes.specs.declared.Link.{Link}
use Rattle.sector_writes.specs.Sector.{link_to_bit}
use Rattle.sector_writes.proofs.Links.{link_bit}
use Rattle.recordings.specs.Recording.{leads_to}

-- the sector of bit b begins at `at`, and k is the link to bit c
module _ (d : List ℕ) (b c at : ℕ) (h : b < 1560) (l : c < 1560) (p : at ≡ place_or_end b) (k : Link) (q : k ≡ link_to_bit c) where
  byte-is : (i : ℕ) → i < 512 → (x : ℕ) → x ≡ get_or d (at + i) 0 → get_or (sector_at d b) i 0 ≡ x
  byte-is i m x e = part_at (bit_place b) 512 d i m ∙ ap (λ (a : ℕ). get_or d (a + i) 0) (sym (p ∙ place_or_end_lem b h)) ∙ sym e

  module _ (x : ℕ) (e : x ≡ get_or d (at + 510) 0) where
    track-is : (t : Bool) → eqb x k.track ≡ t → leads_to (sector_at d b) c ≡ (t && eqb (get_or (sector_at d b) 511 0) k.sector)
    track-is t f =
        let g : link_to_bit c ≡ k = sym q in
        ap₂ ◌&&◌ (ap₂ eqb (byte-is 510 (omega arith) x e) (ap (λ (k : Link). k.track) (sym (link_bit c l) ∙ g)) ∙ f)
        (ap (eqb (get_or (sector_at d b) 511 0)) (ap (λ (k : Link). k.sector) (sym (link_bit c l) ∙ g)))

    pub leads_not : (x ≡ k.track → ⊥) → false ≡ leads_to (sector_at d b) c
    leads_not f = sym (track-is false (ne_eqb x k.track f))

    pub leads_so : x ≡ k.track → (y : ℕ) → y ≡ get_or d (at + 511) 0 → eqb y k.sector ≡ leads_to (sector_at d b) c
    leads_so f y g = ap (λ (z : ℕ). eqb z k.sector) (sym (byte-is 511 (omega arith) y g)) ∙ sym (track-is true (eq-eqb x k.track f))
