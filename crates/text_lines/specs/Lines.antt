-- The lines that the listing program writes. The words of document 01 stand above what they define.
use Rattle.std.specs.Prelude.{ℕ, zero, suc, ◌+◌, ◌/◌, ◌%◌, cond, ◌&&◌, List, [], ◌∷◌, ◌++◌, leb, ltb, get_or}
use Rattle.buffers.specs.Bytes.{tab}
use Rattle.refusals.specs.Order.{Refusal}
use Rattle.slots.specs.Slot.{is_live, hidden, protected, kind_of, count_of, name_of}

-- a number in decimal digits, k of them at most
unfoldable pub digits : ℕ → ℕ → List ℕ
digits zero n = []
digits (suc k) n = cond (ltb n 10) ((48 + n) ∷ []) (digits k (n / 10) ++ ((48 + n % 10) ∷ []))

-- no number that is written has more than four
unfoldable pub decimal : ℕ → List ℕ
decimal n = digits 4 n

-- "ten name characters (outside 32 to 126 as `?`)"
unfoldable pub shown : ℕ → ℕ
shown b = cond (leb 32 b && leb b 126) b 63

-- "slot, `*` if protected else `-`, ten name characters .. count, kind." "Each line ends in byte 10."
unfoldable pub line : ℕ → List ℕ → List ℕ
line number s =
    decimal number ++ (32 ∷ cond (protected s) 42 45 ∷ 32 ∷ tab 10 (λ k. shown (get_or (name_of s) k 0))) ++ (32 ∷ decimal (count_of s))
    ++ (32 ∷ decimal (kind_of s)) ++ (10 ∷ [])

-- the line of a slot's bytes where they are live and not hidden, and none of others
unfoldable pub slot_line : ℕ → List ℕ → List ℕ
slot_line number s = cond (is_live s) (cond (hidden s) [] (line number s)) []

-- "free 1538"
unfoldable pub free_line : ℕ → List ℕ
free_line n = (102 ∷ 114 ∷ 101 ∷ 101 ∷ 32 ∷ []) ++ decimal n ++ (10 ∷ [])

-- "A refusal prints only `refused R slot S`."
unfoldable pub refusal_line : Refusal → List ℕ
refusal_line r =
    (114 ∷ 101 ∷ 102 ∷ 117 ∷ 115 ∷ 101 ∷ 100 ∷ 32 ∷ []) ++ decimal r.number ++ (32 ∷ 115 ∷ 108 ∷ 111 ∷ 116 ∷ 32 ∷ [])
    ++ decimal r.slot ++ (10 ∷ [])
