-- Whether a slot has a name: by its bytes, and in a search.
use Prim.Native.Nat.{ℕ, ◌<◌}
use mathlib.Core.Path.{◌≡◌, refl, sym, ap, ◌∙◌}
use mathlib.Core.Bool.{Bool, true, false, cond, ◌&&◌}
use mathlib.Core.List.{List}
use mathlib.Core.Option.{Option, none, some}
use Rattle.names.specs.Name.{same_name, padded}
use Rattle.slots.specs.Slot.{is_live, name_of, is_named}
use Rattle.directory.specs.Directory.{fold_option, slots_read, directory, slot_or}
use Rattle.directory.specs.Find.{match_at}
use Rattle.directory.proofs.Live.{met_live, met_dead}

-- whether slot j is live and has the name n
abbrev pub named : List ℕ → List ℕ → ℕ → Bool
named d n j = fold_option false (λ t. same_name (name_of t) n) (directory d j)

module _ (d n : List ℕ) (j : ℕ) where
  -- by the bytes of a slot that is read
  pub named_read : j < slots_read d → {s : List ℕ} {r : Bool} → s ≡ slot_or d j → r ≡ is_named s n → r ≡ named d n j
  unfolding is_named
  named_read h {s} e q = q ∙ by (is_live s) refl
    where
      by : (t : Bool) → is_live s ≡ t → (t && same_name (name_of s) n) ≡ named d n j
      by true p = sym (ap (fold_option false (λ t. same_name (name_of t) n)) (met_live d j e refl h p))
      by false p = sym (ap (fold_option false (λ t. same_name (name_of t) n)) (met_dead d j e refl p))

  -- a hit of a search, by the same test
  pub hit_named : (m : List ℕ) → n ≡ padded m → {t : Bool} → named d n j ≡ t → match_at (directory d) m j ≡ cond t (some j) none
  hit_named m e {t} q = by (directory d j) (ap (λ (x : List ℕ). named d x j) (sym e) ∙ q)
    where
      by : (o : Option (List ℕ)) → fold_option false (λ s. same_name (name_of s) (padded m)) o ≡ t
          → fold_option none (λ s. cond (same_name (name_of s) (padded m)) (some j) none) o ≡ cond t (some j) none
      by none p = rw (← p)
      by (some s) p = rw p
