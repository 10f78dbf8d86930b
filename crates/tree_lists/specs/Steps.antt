-- What the steps of the listing are entered with, and what they put.
use Rattle.std.specs.Prelude.{ℕ, ◌+◌, ◌≤◌, ◌<◌, ◌≡◌, List, Result, length, IfOk}
use Rattle.std.proofs.Math.Option.{none}
use Rattle.buffers.specs.Bytes.{put}
use Rattle.refusals.specs.Answers.{reply_of}
use Rattle.refusals.specs.declared.Refused.{Refused}
use Rattle.directory.specs.Directory.{Directory, directory}
use Rattle.siblings.specs.Links.{links_of}
use Rattle.trees.specs.Tree.{tree_reply, directories, beneath}
use Rattle.tree_lists.specs.Call.{name_reply, asked_code}

-- what is asked for by a name: 12, 13 and 15 of it, and else a directory's code
pub record CodeAsked (v : Directory) (n : List ℕ) (r : Result ℕ Refused) : Type 0 where
  pub reply : reply_of r ≡ name_reply v n
  pub code : IfOk r (λ (c : ℕ). (c ≡ asked_code v n) × (c < 256))

-- a directory by its code, where what is to be put at a place keeps within 65,535
pub record FillRoom (d : List ℕ) (left code from : ℕ) : Type 0 where
  pub coded : code < 256
  pub room : from + length (beneath left (directory d) code) ≤ 65535

-- where none of 26 to 28 holds: the links of the slots, and the number of directories
pub record LinkedTree (d links : List ℕ) (m : ℕ) : Type 0 where
  pub none : tree_reply (directory d) ≡ none
  pub linked : links ≡ links_of (directory d)
  pub number : m ≡ directories (directory d)

-- a list put at a place of a buffer, and the place after it
pub record ListPut (buf : List ℕ) (at : ℕ) (l : List ℕ) (now : List ℕ) (r : ℕ) : Type 0 where
  pub place : r ≡ at + length l
  pub numbers : now ≡ put buf at l
