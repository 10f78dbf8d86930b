-- Marks in a row, and two lists of marks merged. The words of document 02 stand above what they define.
use Rattle.std.specs.Prelude.{ℕ, ◌≡◌, Bool, true, false, List, [], ◌∷◌, ◌⊎◌}
use Rattle.names.specs.Name.{Same, askable, padded}
use Rattle.plans.specs.Change.{Mark, hide, show, protect, release, Change, mark}
use Rattle.plans.specs.Plan.{Changed}

-- a mark of a name, and the list that is lent for its sector
pub record MarkCall : Type 0 where
  pub sets : Mark
  pub name : List ℕ
  pub list : List ℕ

-- ---- two marks

-- "on different names": they are not the same name, capitals or not
abbrev pub Different : MarkCall → MarkCall → Type 0
Different a b = Same (padded a.name) (padded b.name) → ⊥

-- "on one name": the same, capitals or not. Filled with 32, no bytes at all look like a name of spaces, but they are no name.
pub record MarksOneName (a b : MarkCall) : Type 0 where
  pub same : Same (padded a.name) (padded b.name)
  pub asked : askable a.name ≡ askable b.name

-- "the hide pair and the protect pair"
abbrev pub hide_pair : Mark → Bool
hide_pair hide = true
hide_pair show = true
hide_pair protect = false
hide_pair release = false

-- both of the hide pair, or both of the protect pair
abbrev pub OnePair : MarkCall → MarkCall → Type 0
OnePair a b = hide_pair a.sets ≡ hide_pair b.sets

-- two marks that may change places
abbrev pub Commuting : MarkCall → MarkCall → Type 0
Commuting a b = Different a b ⊎ (OnePair a b → ⊥)

abbrev pub Each : (MarkCall → Type 0) → List MarkCall → Type 0
Each P [] = Unit {0}
Each P (t ∷ ts) = P t × Each P ts

-- each of one list with each of the other, as lists on different names are
abbrev pub AllCommuting : List MarkCall → List MarkCall → Type 0
AllCommuting xs ys = Each (λ x. Each (Commuting x) ys) xs

-- ---- marks in a row

-- a call: of a change, a disk and a list it gives outcome, disk and list at return
abbrev pub ChangeCall : Type 0
ChangeCall = Change → List ℕ → List ℕ → Changed

-- how many or the refusal with its slot, and the list at return
pub record SameAnswer (x y : Changed) : Type 0 where
  pub outcome : x.outcome ≡ y.outcome
  pub list : x.list ≡ y.list

module _ (call : ChangeCall) where
  abbrev pub call_mark : MarkCall → List ℕ → Changed
  call_mark t d = call (mark t.sets t.name) d t.list

  -- the disk that marks in a row leave, accepted or refused, each made on what the ones before it left
  unfoldable pub after_marks : List MarkCall → List ℕ → List ℕ
  after_marks [] d = d
  after_marks (t ∷ ts) d = after_marks ts (call_mark t d).image

  -- "give the same disk in either order", byte for byte; and each answers after the other what it answers alone, so that what is
  -- accepted in one order is accepted in the other, and what is refused is refused in both, with the other done
  pub record EitherOrder (a b : MarkCall) (d : List ℕ) : Type 0 where
    pub disk : after_marks (a ∷ b ∷ []) d ≡ after_marks (b ∷ a ∷ []) d
    pub first : SameAnswer (call_mark a (call_mark b d).image) (call_mark a d)
    pub second : SameAnswer (call_mark b (call_mark a d).image) (call_mark b d)

-- ---- two phones

-- "The app merges marks made on two phones.": zs has the marks of xs and those of ys, each in their order
pub data Merged : List MarkCall → List MarkCall → List MarkCall → Type 0 where
  none_left : Merged [] [] []
  from_first : (t : MarkCall) (xs ys zs : List MarkCall) → Merged xs ys zs → Merged (t ∷ xs) ys (t ∷ zs)
  from_second : (t : MarkCall) (xs ys zs : List MarkCall) → Merged xs ys zs → Merged xs (t ∷ ys) (t ∷ zs)
