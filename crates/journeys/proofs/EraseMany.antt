-- What an erase-many that was cut anywhere leaves of a disk is what the ledger enters for the sectors written.
use Prim.Native.Nat.{ℕ, zero, suc, ◌+◌, ◌-◌, ◌*◌, ◌/◌, ◌≤◌, ◌<◌}
use mathlib.Core.Path.{◌≡◌, refl, sym, ap, ap₂, ◌∙◌, fun_ext}
use mathlib.Core.Bool.{Bool, true, false, cond, ◌&&◌, true≢false}
use mathlib.Core.List.{List, ◌∷◌}
use mathlib.Core.Logic.{⊎_elim}
use mathlib.Core.Option.{Option, none, some}
use native.Mathlib.Nat.{eq-or-lt_of_le}
use native.Mathlib.Omega.{arith}
use borrow.Author.Tests.{eq-eqb, ne_eqb, lt-ltb, le-ltb}
use lib.Dec.{eqb, ltb}
use lib.ListN.{take}
use Rattle.buffers.specs.Bytes.{count}
use Rattle.buffers.proofs.Lists.{below_or_not}
use Rattle.directory.specs.Places.{slots, dir_sector}
use Rattle.steps.specs.Sectors.{is_listed}
use Rattle.chains.specs.File.{File}
use Rattle.directory.specs.Directory.{fold_option}
use Rattle.disk.specs.View.{view}
use Rattle.disk.specs.Check.{check_disk}
use Rattle.steps.specs.Sectors.{cut}
use Rattle.plans.proofs.Frame.{holds}
use Rattle.erase_many.specs.EraseMany.{is_erased, touches, sectors_from, sectors_with, pairs, erased_all, sectors_of_all}
use Rattle.erase_many.specs.EraseManyCut.{CutLeaves}
use Rattle.erase_many.proofs.Listed.{dir_same, dir_rises, in_pair}
use Rattle.erase_many.proofs.EraseManyCut.{erase_many-cut}
use Rattle.journeys.specs.Ledger.{LedgerEntry, Ledger}
use Rattle.journeys.specs.Entered.{gone_from, sectors_before, erased_in}
use Rattle.journeys.specs.Journey.{ledger_of}
use Rattle.journeys.proofs.Entering.{entered-is}

count_up : (p : ℕ → Bool) (j n : ℕ) → count j p ≤ count (j + n) p
unfolding count
count_up p j zero = omega (arith, ap (λ (m : ℕ). count m p) (plain j))
  where
    plain : (j : ℕ) → j + 0 ≡ j
    plain j = omega arith
count_up p j (suc n) = omega (arith, count_up p j n, ap (λ (m : ℕ). count m p) (shift j n))
  where
    shift : (j n : ℕ) → j + suc n ≡ suc (j + n)
    shift j n = omega arith

one_up : (x k : ℕ) → ltb x k ≡ ltb (suc x) (suc k)
one_up x k =
    ⊎_elim (λ (h : x < k). lt-ltb x k h ∙ sym (lt-ltb (suc x) (suc k) (omega arith))) (λ (h : k ≤ x). le-ltb x k h ∙ sym (le-ltb (suc x) (suc k) (omega arith))) (below_or_not x k)

-- the sector of pair q is among the first k exactly where fewer than k sectors before it have such a slot
rank : (e : ℕ → Bool) (n j q : ℕ) → j ≤ q → q < j + n → touches e q ≡ true → (c : ℕ) → count q (touches e) ≡ count j (touches e) + c
    → (k : ℕ) → is_listed (dir_sector (2 * q)) (take k (sectors_from n j e)) ≡ ltb c k
unfolding sectors_from count
rank e zero j q l h t c m k = absurd (omega arith)
rank e (suc n) j q l h t c m k = ⊎_elim (λ (z : j ≡ q). here z k) (λ (z : j < q). later z (λ c m k. rank e n (suc j) q z (omega arith) t c m k) (touches e j) refl k) (eq-or-lt_of_le l)
  where
    here : j ≡ q → (k : ℕ) → is_listed (dir_sector (2 * q)) (take k (cond (touches e j) (dir_sector (2 * j) ∷ sectors_from n (suc j) e) (sectors_from n (suc j) e))) ≡ ltb c k
    here z k =
        let y : c ≡ 0 = omega (arith, ap (λ (x : ℕ). count x (touches e)) z) in
        rw (ap (touches e) z ∙ t, y) (at k)
      where
        at : (k : ℕ) → is_listed (dir_sector (2 * q)) (take k (dir_sector (2 * j) ∷ sectors_from n (suc j) e)) ≡ ltb 0 k
        at zero = refl
        at (suc k) = rw (eq-eqb (dir_sector (2 * q)) (dir_sector (2 * j)) (ap (λ (x : ℕ). dir_sector (2 * x)) (sym z)), lt-ltb 0 (suc k) (omega arith)) refl

    later : j < q
        → ((c : ℕ) → count q (touches e) ≡ count (suc j) (touches e) + c → (k : ℕ) → is_listed (dir_sector (2 * q)) (take k (sectors_from n (suc j) e)) ≡ ltb c k)
        → (u : Bool) → touches e j ≡ u → (k : ℕ)
        → is_listed (dir_sector (2 * q)) (take k (cond u (dir_sector (2 * j) ∷ sectors_from n (suc j) e) (sectors_from n (suc j) e))) ≡ ltb c k
    later z rest false w k = rest c (omega (arith, m, one w)) k
      where
        one : touches e j ≡ false → count (suc j) (touches e) ≡ count j (touches e)
        one w = rw w (omega arith)
    later z rest true w zero = sym (le-ltb c 0 (omega arith))
    later z rest true w (suc k) = by c (omega (arith, m, one w, up)) refl
      where
        one : touches e j ≡ true → count (suc j) (touches e) ≡ count j (touches e) + 1
        one w = rw w refl

        gap : suc j + (q - suc j) ≡ q
        gap = omega arith

        up : count (suc j) (touches e) ≤ count q (touches e)
        up = omega (arith, count_up (touches e) (suc j) (q - suc j), ap (λ (x : ℕ). count x (touches e)) gap)

        apart : eqb (dir_sector (2 * q)) (dir_sector (2 * j)) ≡ false
        apart = ne_eqb (dir_sector (2 * q)) (dir_sector (2 * j)) (λ (y : dir_sector (2 * q) ≡ dir_sector (2 * j)). absurd (omega (arith, dir_rises (2 * j) (2 * q) (omega arith))))

        by : (x : ℕ) → 1 ≤ x → c ≡ x → is_listed (dir_sector (2 * q)) (take (suc k) (dir_sector (2 * j) ∷ sectors_from n (suc j) e)) ≡ ltb c (suc k)
        by zero a y = absurd (omega arith)
        by (suc x) a y = rw apart (rest x (omega (arith, m, one w)) k ∙ one_up x k ∙ sym (ap (λ (c : ℕ). ltb c (suc k)) y))

-- ---- what a cut leaves

gone_alike : (old new : List ℕ) → gone_from (ledger_of (view old)) (ledger_of (view new)) ≡ is_erased old new
unfolding gone_from is_erased ledger_of
gone_alike old new = fun_ext (λ i. by ((view old).files i) ((view new).files i))
  where
    by : (o n : Option File) → fold_option false (λ e. fold_option true (λ f. false) (entered-is n)) (entered-is o) ≡ fold_option false (λ f. fold_option true (λ g. false) n) o
    by none n = refl
    by (some f) none = refl
    by (some f) (some g) = refl

-- a slot that is gone held a file
gone-small : (old new : List ℕ) (i : ℕ) → is_erased old new i ≡ true → i < slots
unfolding is_erased
gone-small old new i e = by ((view old).files i) refl e
  where
    by : (o : Option File) → (view old).files i ≡ o → fold_option false (λ f. fold_option true (λ g. false) ((view new).files i)) o ≡ true → i < slots
    by none q w = absurd (true≢false (sym w))
    by (some f) q w = (holds old i f q).here

module _ (e : ℕ → Bool) where
  -- the sector of a slot that is meant
  among : (i : ℕ) → i < slots → e i ≡ true → (k : ℕ) → is_listed (dir_sector i) (take k (sectors_with e)) ≡ ltb (sectors_before e (i / 2)) k
  unfolding sectors_before count
  among i h m k =
      ap (λ (s : ℕ). is_listed s (take k (sectors_with e))) (dir_same i (2 * (i / 2)) (omega arith))
      ∙ rank e pairs 0 (i / 2) (omega arith) (omega arith) (in_pair e i m) (count (i / 2) (touches e)) (omega arith) k

  both : (i : ℕ) → (e i ≡ true → i < slots) → (k : ℕ) → (e i && is_listed (dir_sector i) (take k (sectors_with e))) ≡ (e i && ltb (sectors_before e (i / 2)) k)
  both i s k = by (e i) refl
    where
      by : (t : Bool) → e i ≡ t → (t && is_listed (dir_sector i) (take k (sectors_with e))) ≡ (t && ltb (sectors_before e (i / 2)) k)
      by false q = refl
      by true q = among i (s q) q k

pub cut-entered : (d : List ℕ) → check_disk d ≡ none → (ns : List ℕ) (k : ℕ)
    → ledger_of (view (cut d (erased_all d ns) (sectors_of_all d ns) k)) ≡ erased_in (ledger_of (view d)) (ledger_of (view (erased_all d ns))) k
unfolding ledger_of erased_in view
cut-entered d ok ns k =
    ap₂ {C = Ledger} (λ (l : ℕ → ℕ) (g : ℕ → Option LedgerEntry). record { label = l; entry = g }) w.label
    (fun_ext (λ i. at i))
  where
    all : List ℕ
    all = erased_all d ns

    w : CutLeaves d (erased_all d ns) (sectors_of_all d ns) k
    w = erase_many-cut d ok ns k

    inside : (t : Bool) (o : Option File) → entered-is (cond t none o) ≡ cond t none (entered-is o)
    inside true o = refl
    inside false o = refl

    at : (i : ℕ) → entered-is ((view (cut d (erased_all d ns) (sectors_of_all d ns) k)).files i)
        ≡ cond (gone_from (ledger_of (view d)) (ledger_of (view (erased_all d ns))) i && ltb (sectors_before (gone_from (ledger_of (view d)) (ledger_of (view (erased_all d ns)))) (i / 2)) k) none (entered-is ((view d).files i))
    at i =
        ap entered-is (w.files i) ∙ inside (is_erased d (erased_all d ns) i && is_listed (dir_sector i) (take k (sectors_of_all d ns))) ((view d).files i)
        ∙ ap (λ (t : Bool). cond t none (entered-is ((view d).files i)))
        (both (is_erased d (erased_all d ns)) i (gone-small d (erased_all d ns) i) k
        ∙ ap (λ (e : ℕ → Bool). e i && ltb (sectors_before e (i / 2)) k) (sym (gone_alike d (erased_all d ns))))
