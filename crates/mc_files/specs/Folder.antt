-- The folder of a source of files: the path by which it is asked for, and the one by which its files are
-- opened.
use Rattle.std.specs.Prelude.{◌≡◌, ℕ, Bool, List, Option, Some, IfSome}

-- a path that is known stays the same
abbrev pub StaysKnown : Option (List ℕ) → Option (List ℕ) → Type 0
StaysKnown old new = IfSome old (λ path. new ≡ Some path)

-- what contracts see of a source whose files are those of a folder
pub record FolderState : Type 0 where
  -- the folder's path, which is empty for the current directory
  pub folder : List ℕ
  -- that path without links, as it was when the first file was asked for, once one was
  pub real_path : Option (List ℕ)
  -- whether a file is open
  pub is_open : Bool
  -- how many calls failed
  pub failed : ℕ
