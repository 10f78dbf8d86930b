-- Two disks with one view get one answer from every call that reads.
use Prim.Native.Nat.{ℕ}
use mathlib.Core.Path.{◌≡◌, ap}
use mathlib.Core.List.{List}
use Rattle.disk.specs.View.{View, view}
use Rattle.files.specs.Calls.{start_view, start_address, read_view, reading, list_view, listing}

pub same_view : (d e : List ℕ) → view d ≡ view e → (n buf : List ℕ) → (listing d buf ≡ listing e buf) × (reading d n buf ≡ reading e n buf) × (start_address d n ≡ start_address e n)
same_view d e q n buf = (ap (λ (l : View). list_view l buf) q, ap (λ (l : View). read_view l n buf) q, ap (λ (l : View). start_view l n) q)
