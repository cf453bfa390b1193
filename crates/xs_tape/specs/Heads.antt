-- Heads of records, and where a crash may have cut a record.
use Rattle.std.specs.Prelude.{◌≡◌, ◌≢◌, ◌⊎◌, ℕ, ◌^◌, ◌<◌, List, [], ◌++◌, length, decimal}
use Rattle.xs_resp.specs.Line.{crlf, line}
use Rattle.xs_resp.specs.Grammar.{spelling}
use Rattle.xs_tape.specs.Records.{CanBeSpelled, with_size}

-- these bytes begin with the head of a record: the line with the number of its words, the line with the number of
-- digits of its first word, and the first word, which is the size of the words after it
pub record HasHead (bytes : List ℕ) (size : ℕ) (behind : List ℕ) : Type 0 where
  pub count : ℕ
  pub digits : ℕ
  pub count_small : count < 2 ^ 64
  pub digits_small : digits < 2 ^ 64
  pub size_small : size < 2 ^ 64
  pub whole : bytes ≡ line 42 count ++ (line 36 digits ++ (decimal size ++ (crlf ++ behind)))

-- a record may have been cut after these bytes: they are fewer than the longest head has, or begin with a head whose
-- size is more than the bytes after it
abbrev pub MayBeCut : List ℕ → Type 0
MayBeCut part =
    (length part < 32) ⊎ ((size : ℕ) × (behind : List ℕ) × HasHead part size behind × (length behind < size))

-- these bytes are a beginning of a record, but not all of it
pub record IsCut (part : List ℕ) : Type 0 where
  pub words : List (List ℕ)
  pub more : List ℕ
  pub spelled : CanBeSpelled (with_size words)
  pub whole : spelling (with_size words) ≡ part ++ more
  pub some : more ≢ []
