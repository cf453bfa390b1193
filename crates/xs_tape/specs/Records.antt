-- The records of a log: requests as RESP spells them (RESP protocol specification, version 2). The first word is the
-- size of the words after it. The second of these is the checksum of the others, and each of them is escaped.
use Rattle.std.specs.Prelude.{◌≡◌, ℕ, ◌≤◌, List, ◌∷◌, ◌++◌, length, take, map, decimal, Ok, None}
use Rattle.std.specs.List.{flat_map, concat, AllByRecursion}
use mathlib.Core.List.{IsPrefix}
use Rattle.xs_resp.specs.declared.header.Part.TheVariants.{Count}
use Rattle.xs_resp.specs.HeaderPart.{limit}
use Rattle.xs_resp.specs.Reading.{request}
use Rattle.xs_resp.specs.Grammar.{sent_words, spelling, AreSizes}
use Rattle.xs_tape.specs.Checksum.{crc32c}
use Rattle.xs_tape.specs.Crash.{HasNoZero}
use Rattle.xs_tape.specs.Escape.{escaped}

-- words with their checksum after the first
abbrev pub with_checksum : List ℕ → List (List ℕ) → List (List ℕ)
with_checksum first rest = first ∷ decimal (crc32c (concat (first ∷ rest))) ∷ rest

-- words with their size in front: the number of their bytes as they are sent
abbrev pub with_size : List (List ℕ) → List (List ℕ)
with_size words = decimal (length (sent_words words)) ∷ words

-- the words of a record, as a log has them
abbrev pub record_words : List ℕ → List (List ℕ) → List (List ℕ)
record_words first rest = with_size (map escaped (with_checksum first rest))

-- a record, as a log has it
abbrev pub record_text : List ℕ → List (List ℕ) → List ℕ
record_text first rest = spelling (record_words first rest)

-- words that RESP can spell as a request
pub record CanBeSpelled (words : List (List ℕ)) : Type 0 where
  pub number : length words ≤ limit Count
  pub sizes : AreSizes words

-- words that a log may have: RESP can spell them, and none of their bytes is zero
pub record CanBeLogged (words : List (List ℕ)) : Type 0 where
  pub spelled : CanBeSpelled words
  pub no_zero : AllByRecursion HasNoZero words

-- requests, one after the other
abbrev pub spellings : List (List (List ℕ)) → List ℕ
spellings requests = flat_map spelling requests

-- these bytes are these requests, and after them a part of one, or nothing
pub record AreRequests (bytes : List ℕ) (requests : List (List (List ℕ))) (part : List ℕ) : Type 0 where
  pub whole : bytes ≡ spellings requests ++ part
  pub spelled : AllByRecursion CanBeSpelled requests
  pub unfinished : request part ≡ Ok None

-- these requests are the first of those that were written: each that is complete in these bytes
pub record AreTheFirst
    (written : List (List (List ℕ))) (bytes : List ℕ) (requests : List (List (List ℕ))) : Type 0 where
  pub within : length requests ≤ length written
  pub first : requests ≡ take (length requests) written
  pub all : (n : ℕ) → n ≤ length written → IsPrefix (spellings (take n written)) bytes → n ≤ length requests
