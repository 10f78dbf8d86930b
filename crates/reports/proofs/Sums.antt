-- Laws of the report over a list: reports add up in any order, and the numbers of each add up.
use Prim.Native.Nat.{ℕ, ◌+◌}
use mathlib.Core.Path.{◌≡◌, refl, sym, ap, ◌∙◌}
use mathlib.Core.List.{List, [], ◌∷◌, ◌++◌}
use native.Mathlib.Nat.{add_comm}
use native.Mathlib.Omega.{arith}
use Rattle.disk.specs.View.{view}
use Rattle.reports.specs.Numbers.{Numbers, empty, plus, over, report_of}
use Rattle.reports.specs.Totals.{Disks, Reordered, none_left, same_first, swapped, then_again}

-- ---- reports add up in any order

pub plus_comm : (a b : Numbers) → plus a b ≡ plus b a
unfolding plus
plus_comm a b = λ q. record {
  accepted = add_comm a.accepted b.accepted q;
  refused = λ r. add_comm (a.refused r) (b.refused r) q;
  kinds = λ k. add_comm (a.kinds k) (b.kinds k) q;
  sectors = add_comm a.sectors b.sectors q;
  free = add_comm a.free b.free q;
  classes = λ c. add_comm (a.classes c) (b.classes c) q;
}

assoc : (a b c : ℕ) → (a + b) + c ≡ a + (b + c)
assoc a b c = omega arith

pub plus_assoc : (a b c : Numbers) → plus (plus a b) c ≡ plus a (plus b c)
unfolding plus
plus_assoc a b c = λ q. record {
  accepted = assoc a.accepted b.accepted c.accepted q;
  refused = λ r. assoc (a.refused r) (b.refused r) (c.refused r) q;
  kinds = λ k. assoc (a.kinds k) (b.kinds k) (c.kinds k) q;
  sectors = assoc a.sectors b.sectors c.sectors q;
  free = assoc a.free b.free c.free q;
  classes = λ k. assoc (a.classes k) (b.classes k) (c.classes k) q;
}

nothing : (a : ℕ) → 0 + a ≡ a
nothing a = omega arith

pub plus-empty : (a : Numbers) → plus empty a ≡ a
unfolding plus empty
plus-empty a = λ q. record {
  accepted = nothing a.accepted q;
  refused = λ r. nothing (a.refused r) q;
  kinds = λ k. nothing (a.kinds k) q;
  sectors = nothing a.sectors q;
  free = nothing a.free q;
  classes = λ c. nothing (a.classes c) q;
}

-- "the join is the report over both lists"
pub over-both : (ds es : Disks) → over (ds ++ es) ≡ plus (over ds) (over es)
unfolding over
over-both [] es = sym (plus-empty (over es))
over-both (d ∷ ds) es = ap (plus (report_of (view d))) (over-both ds es) ∙ sym (plus_assoc (report_of (view d)) (over ds) (over es))

-- "in either order"
pub over_either : (ds es : Disks) → over (ds ++ es) ≡ over (es ++ ds)
over_either ds es = over-both ds es ∙ plus_comm (over ds) (over es) ∙ sym (over-both es ds)

-- the order of the disks does not matter
pub over_reordered : {ds es : Disks} → Reordered ds es → over ds ≡ over es
unfolding over
over_reordered none_left = refl
over_reordered (same_first d ds es w) = ap (plus (report_of (view d))) (over_reordered w)
over_reordered (swapped d e ds) =
    sym (plus_assoc (report_of (view d)) (report_of (view e)) (over ds))
    ∙ ap (λ (a : Numbers). plus a (over ds)) (plus_comm (report_of (view d)) (report_of (view e)))
    ∙ plus_assoc (report_of (view e)) (report_of (view d)) (over ds)
over_reordered (then_again ds es fs v w) = over_reordered v ∙ over_reordered w

-- one disk more
pub over_one : (ds : Disks) (d : List ℕ) → over (ds ++ (d ∷ [])) ≡ plus (over ds) (report_of (view d))
unfolding over
over_one ds d = over-both ds (d ∷ []) ∙ ap (plus (over ds)) (plus_comm (report_of (view d)) empty ∙ plus-empty (report_of (view d)))
