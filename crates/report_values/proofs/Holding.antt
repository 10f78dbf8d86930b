-- What the app's bytes hold after a call: the report over one disk more, or over both lists.
use Prim.Native.Nat.{ℕ, ◌+◌, ◌*◌, ◌/◌, ◌%◌, ◌^◌, ◌≤◌, ◌<◌}
use mathlib.Core.Path.{◌≡◌, refl, sym, ap, ◌∙◌, subst}
use mathlib.Core.List.{List, [], ◌∷◌, ◌++◌}
use native.Mathlib.Omega.{arith}
use lib.ListN.{length, get_or, length-append, replicate, length-replicate}
use Rattle.buffers.specs.Bytes.{tab, word, put}
use Rattle.buffers.proofs.Lists.{length-put, put_in, put-after, tab_of}
use Rattle.refusals.specs.Order.{refuse}
use Rattle.refusals.specs.Answers.{done, refused, out}
use Rattle.reports.specs.Numbers.{over, report_numbers}
use Rattle.reports.specs.Totals.{Disks}
use Rattle.reports.proofs.Totals.{made_none, add-over, add_full, join-over, join_full, length_listed, listed_small}
use Rattle.report_bytes.specs.Bytes.{report_numbers_in, four_bytes_each, add_disk_bytes, join_reports_bytes}
use Rattle.report_bytes.proofs.Fours.{length_fours}
use Rattle.report_bytes.proofs.Raising.{four_at, four_of_lem}
use Rattle.report_bytes.proofs.Kept.{adding_bytes, joining_bytes}
use Rattle.report_values.specs.Holding.{HoldsReport, ReportLeft}

-- numbers below 2^32 are read back
pub read_back : (b ns : List ℕ) → 496 ≤ length b → length ns ≡ 111 → ((k : ℕ) → get_or ns k 0 < 2 ^ 32) → report_numbers_in (put b 0 (four_bytes_each ns)) ≡ ns
unfolding report_numbers_in word
read_back b ns h l small = sym (tab_of 111 _ ns l (λ k m. number k m))
  where
    c : List ℕ
    c = put b 0 (four_bytes_each ns)

    front : (i : ℕ) → i ≡ 0 + i
    front i = omega arith

    there : (i : ℕ) → i < 444 → get_or c i 0 ≡ get_or (four_bytes_each ns) i 0
    there i m = ap (λ (j : ℕ). get_or c j 0) (front i) ∙ put_in b 0 (four_bytes_each ns) i (omega (arith, length_fours ns)) (omega arith)

    number : (k : ℕ) → k < 111 → get_or ns k 0 ≡ get_or c (4 * k + 0) 0 + 256 * (get_or c (4 * k + 1) 0 + 256 * (get_or c (4 * k + 2) 0 + 256 * (get_or c (4 * k + 3) 0 + 256 * 0)))
    number k m =
        let w = four_at ns k (omega arith) in
        let a : get_or c (4 * k + 0) 0 ≡ get_or ns k 0 % 256 = ap (λ (i : ℕ). get_or c i 0) (plain (4 * k)) ∙ there (4 * k) (omega arith) ∙ w.first in
        let e : get_or c (4 * k + 1) 0 ≡ get_or ns k 0 / 256 % 256 = there (4 * k + 1) (omega arith) ∙ w.second in
        let f : get_or c (4 * k + 2) 0 ≡ get_or ns k 0 / 65536 % 256 = there (4 * k + 2) (omega arith) ∙ w.third in
        let g : get_or c (4 * k + 3) 0 ≡ get_or ns k 0 / 16777216 % 256 = there (4 * k + 3) (omega arith) ∙ w.fourth in
        four_of_lem (get_or ns k 0) (small k) ∙ rw (a, e, f, g)
      where
        plain : (n : ℕ) → n + 0 ≡ n
        plain n = omega arith

-- ---- what a call leaves

leaves : (ds : Disks) (b : List ℕ) → length ds ≤ 65535 → 496 ≤ length b → ReportLeft ds b (out (done (length ds) 0) (put b 0 (four_bytes_each (report_numbers (over ds)))))
leaves ds b few h = record {
  disks = refl;
  holds = record { room = rw (length-put b 0 (four_bytes_each (report_numbers (over ds)))) h; made = record { few = few; is = read_back b (report_numbers (over ds)) h (length_listed (over ds)) (listed_small ds few) } };
  long = length-put b 0 (four_bytes_each (report_numbers (over ds)));
  rest = λ i l. put-after b 0 (four_bytes_each (report_numbers (over ds))) i (omega (arith, length_fours (report_numbers (over ds)), length_listed (over ds)));
}

pub add_held : (ds : Disks) (d b : List ℕ) → HoldsReport ds b → length ds < 65535 → ReportLeft (ds ++ (d ∷ [])) b (add_disk_bytes b d)
add_held ds d b w h =
    let es = ds ++ (d ∷ []) in
    let e : length es ≡ length ds + 1 = length-append ds (d ∷ []) in
    subst (ReportLeft es b)
    (ap (λ (n : ℕ). out (done n 0) (put b 0 (four_bytes_each (report_numbers (over es))))) e
    ∙ adding_bytes b d w.room (done (length ds + 1) 0) (report_numbers (over es)) (sym (add-over ds d (report_numbers_in b) w.made h)))
    (leaves es b (omega arith) w.room)

pub join_held : (ds es : Disks) (b other : List ℕ) → HoldsReport ds b → HoldsReport es other → length ds + length es ≤ 65535 → ReportLeft (ds ++ es) b (join_reports_bytes b other)
join_held ds es b other v w h =
    let e : length (ds ++ es) ≡ length ds + length es = length-append ds es in
    subst (ReportLeft (ds ++ es) b)
    (ap (λ (n : ℕ). out (done n 0) (put b 0 (four_bytes_each (report_numbers (over (ds ++ es)))))) e
    ∙ joining_bytes b other v.room w.room (done (length ds + length es) 0) (report_numbers (over (ds ++ es))) (sym (join-over ds es (report_numbers_in b) (report_numbers_in other) v.made w.made h)))
    (leaves (ds ++ es) b (omega arith) v.room)

-- 31: the bytes stay
pub add_held_full : (ds : Disks) (d b : List ℕ) → HoldsReport ds b → length ds ≡ 65535 → add_disk_bytes b d ≡ out (refused (refuse 31 0)) b
add_held_full ds d b w h = sym (adding_bytes b d w.room (refused (refuse 31 0)) (report_numbers_in b) (sym (add_full ds d (report_numbers_in b) w.made h)))

pub join_held_full : (ds es : Disks) (b other : List ℕ) → HoldsReport ds b → HoldsReport es other → 65535 < length ds + length es → join_reports_bytes b other ≡ out (refused (refuse 31 0)) b
join_held_full ds es b other v w h =
    sym (joining_bytes b other v.room w.room (refused (refuse 31 0)) (report_numbers_in b) (sym (join_full ds es (report_numbers_in b) (report_numbers_in other) v.made w.made h)))

-- "All zero is the empty report."
pub none_held : HoldsReport [] (replicate 496 0)
unfolding report_numbers_in tab word
none_held = record { room = rw (length-replicate {A = ℕ} 496 0) (omega arith); made = made_none }
