-- However the asking is cut: pieces one after another are one piece, of any image and any three numbers.
use Prim.Native.Nat.{ℕ, ◌+◌, ◌-◌, min}
use mathlib.Core.Path.{◌≡◌, sym, ap, ◌∙◌}
use mathlib.Core.Bool.{false}
use mathlib.Core.List.{List, [], ◌∷◌, ◌++◌}
use mathlib.Core.Logic.{⊎_elim}
use native.Mathlib.Nat.{add-zero}
use native.Mathlib.Omega.{arith}
use Rattle.buffers.specs.Bytes.{tab}
use Rattle.buffers.proofs.Lists.{tab_cong, tab-add}
use Rattle.readers.specs.declared.Position.{Position}
use Rattle.readers.specs.declared.Place.{Place}
use Rattle.readers.specs.Positions.{is_byte, byte_at, position_after}
use Rattle.readers.specs.Pieces.{position_at, bytes_coming, bytes_came, next_bytes, place_after, next_place, joined, place_past, total, PlaceInRange}
use Rattle.readers.proofs.Positions.{further_add, stuck, coming_le, coming_add, none_come, all_or_ended}
use Rattle.readers.proofs.PositionAt.{settled, after-after, after_none}

-- ---- two pieces

-- of `left` bytes first as many as a buffer of a bytes takes, and then b more
coming_cut : (d : List ℕ) (q : Position) (left a b : ℕ)
    → bytes_coming d q (min left (a + b)) ≡ bytes_coming d q (min left a) + bytes_coming d (position_after d q (bytes_coming d q (min left a))) (min (left - bytes_coming d q (min left a)) b)
coming_cut d q left a b = ⊎_elim whole short (all_or_ended d q (min left a))
  where
    whole : bytes_coming d q (min left a) ≡ min left a
        → bytes_coming d q (min left (a + b)) ≡ bytes_coming d q (min left a) + bytes_coming d (position_after d q (bytes_coming d q (min left a))) (min (left - bytes_coming d q (min left a)) b)
    whole e =
        let m : min left (a + b) ≡ min left a + min (left - min left a) b = omega arith in
        ap (bytes_coming d q) m ∙ coming_add d q (min left a) (min (left - min left a) b)
        ∙ ap (λ (c : ℕ). bytes_coming d q (min left a) + bytes_coming d (position_after d q c) (min (left - c) b)) (sym e)

    short : is_byte (position_after d q (bytes_coming d q (min left a))) ≡ false
        → bytes_coming d q (min left (a + b)) ≡ bytes_coming d q (min left a) + bytes_coming d (position_after d q (bytes_coming d q (min left a))) (min (left - bytes_coming d q (min left a)) b)
    short f =
        let c = bytes_coming d q (min left a) in
        let m : min left (a + b) ≡ min left a + (min left (a + b) - min left a) = omega arith in
        let s : min left a ≡ c + (min left a - c) = omega (arith, coming_le d q (min left a)) in
        let z : position_after d q (min left a) ≡ position_after d q c = ap (position_after d q) s ∙ further_add d q c (min left a - c) ∙ stuck d (position_after d q c) f (min left a - c) in
        ap (bytes_coming d q) m ∙ coming_add d q (min left a) (min left (a + b) - min left a)
        ∙ ap (λ (k : ℕ). c + k) (ap (λ (p : Position). bytes_coming d p (min left (a + b) - min left a)) z ∙ none_come d (position_after d q c) f (min left (a + b) - min left a)
        ∙ sym (none_come d (position_after d q c) f (min (left - c) b)))

module _ (d : List ℕ) (p : Place) (a b : ℕ) where
  pub cut-came : bytes_came d p (a + b) ≡ bytes_came d p a + bytes_came d (next_place d p a) b
  unfolding bytes_came place_after
  cut-came = coming_cut d (position_at d p) p.left a b ∙ ap (λ (q : Position). bytes_came d p a + bytes_coming d q (min (p.left - bytes_came d p a) b)) (sym (settled d p (bytes_came d p a)))

  pub cut-place : next_place d (next_place d p a) b ≡ next_place d p (a + b)
  cut-place = after-after d p (bytes_came d p a) (bytes_came d (next_place d p a) b) ∙ ap (place_after d p) (sym cut-came)

  pub cut-bytes : next_bytes d p (a + b) ≡ next_bytes d p a ++ next_bytes d (next_place d p a) b
  unfolding next_bytes
  cut-bytes =
      let byte : ℕ → ℕ = λ k. byte_at d (position_after d (position_at d p) k) in
      let c = bytes_came d p a in
      let m = bytes_came d (next_place d p a) b in
      ap (λ (k : ℕ). tab k byte) cut-came ∙ tab-add c m byte
      ∙ ap (λ (l : List ℕ). tab c byte ++ l)
      (tab_cong m (λ j. byte (c + j)) (λ j. byte_at d (position_after d (position_at d (next_place d p a)) j))
      (λ j l. ap (byte_at d) (further_add d (position_at d p) c j ∙ ap (λ (q : Position). position_after d q j) (sym (settled d p c)))))

-- ---- any number of pieces

-- into no room nothing comes
pub none_came : (d : List ℕ) (p : Place) → bytes_came d p 0 ≡ 0
unfolding bytes_came
none_came d p = omega (arith, coming_le d (position_at d p) (min p.left 0))

no_bytes : (d : List ℕ) (p : Place) → [] ≡ next_bytes d p 0
unfolding next_bytes tab
no_bytes d p = ap (λ (c : ℕ). tab c (λ k. byte_at d (position_after d (position_at d p) k))) (sym (none_came d p))

pub joined_one : (d : List ℕ) (rooms : List ℕ) (p : Place) → joined d p rooms ≡ next_bytes d p (total rooms)
unfolding joined total
joined_one d [] p = no_bytes d p
joined_one d (room ∷ rooms) p =
    ap (λ (l : List ℕ). next_bytes d p room ++ l) (joined_one d rooms (next_place d p room)) ∙ sym (cut-bytes d p room (total rooms))

pub past_one : (d : List ℕ) (rooms : List ℕ) (p : Place) (room : ℕ) → place_past d p (room ∷ rooms) ≡ next_place d p (total (room ∷ rooms))
unfolding place_past total
past_one d [] p room = ap (next_place d p) (sym (add-zero room))
past_one d (more ∷ rooms) p room = past_one d rooms (next_place d p room) more ∙ cut-place d p room (total (more ∷ rooms))

-- with none at all too, of numbers that can be a reader's
pub past_all : (d : List ℕ) (rooms : List ℕ) (p : Place) → PlaceInRange d p → place_past d p rooms ≡ next_place d p (total rooms)
unfolding place_past total
past_all d [] p w = sym (ap (place_after d p) (none_came d p) ∙ after_none d p w)
past_all d (room ∷ rooms) p w = past_one d rooms p room
