-- What a reader gave and a writer took, where their bytes are known.
use Rattle.std.specs.Prelude.{◌≡◌, ◌≢◌, ℕ, ◌<◌, ◌≤◌, List, [], ◌++◌, length, IfSome}
use Rattle.std.specs.declared.option.Option.{Option}
use Rattle.std.specs.Io.KnownBytes.{Appends, Consumes}

-- the reader gave so many bytes
pub record Gave (old new : Option (List ℕ)) (count : ℕ) : Type 0 where
  pub bytes : List ℕ
  pub given : Consumes old new bytes
  pub many : length bytes ≡ count

-- it gave no more than so many bytes
pub record GaveAtMost (old new : Option (List ℕ)) (most : ℕ) : Type 0 where
  pub bytes : List ℕ
  pub given : Consumes old new bytes
  pub within : length bytes ≤ most

-- it gave so many bytes, and they were appended
pub record GaveInto (old new : Option (List ℕ)) (count : ℕ) (before now : List ℕ) : Type 0 where
  pub bytes : List ℕ
  pub given : Consumes old new bytes
  pub many : length bytes ≡ count
  pub appended : now ≡ before ++ bytes

-- it gave bytes
pub record GaveSome (old new : Option (List ℕ)) : Type 0 where
  pub bytes : List ℕ
  pub given : Consumes old new bytes
  pub some : bytes ≢ []

-- more bytes than the limit are held, where that is told
abbrev pub HoldsMore : Option (List ℕ) → ℕ → Type 0
HoldsMore held limit = IfSome held (λ bytes. limit < length bytes)

-- the writer took these bytes, from their front, up to the rest
pub record TookUpTo (rest : List ℕ) (old new : Option (List ℕ)) (bytes : List ℕ) : Type 0 where
  pub front : List ℕ
  pub parts : bytes ≡ front ++ rest
  pub appended : Appends old new front

-- the writer took a part of these bytes, from their front, and not all of them
pub record AppendsCut (old new : Option (List ℕ)) (bytes : List ℕ) : Type 0 where
  pub rest : List ℕ
  pub some_left : rest ≢ []
  pub took : TookUpTo rest old new bytes
