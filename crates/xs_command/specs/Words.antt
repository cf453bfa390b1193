-- Reading words from left to right, with the first fault.
use Rattle.std.specs.Prelude.{◌≡◌, ℕ, Bool, ◌||◌, List, [], ◌∷◌, codes, if◌then◌else◌, Option, Some, None, Result, Ok}
use Rattle.std.specs.Prelude.{Err}
use Rattle.std.specs.Str.{str_eq_ignore_ascii_case}
use Rattle.xs_stream.specs.declared.id.Id.{Id}
use Rattle.xs_stream.specs.IdText.{parse_id}
use Rattle.xs_stream.specs.RangeText.{low_end, high_end}
use Rattle.xs_resp.specs.declared.fault.Fault.{Fault}
use Rattle.xs_resp.specs.declared.fault.Fault.TheVariants.{Syntax, NotInteger, BadId}
use Rattle.xs_command.specs.declared.refusal.Refusal.{Refusal}
use Rattle.xs_command.specs.declared.refusal.Refusal.TheVariants.{Said, Memory}
use Rattle.xs_command.specs.declared.integer.Integer.{Integer}
use Rattle.xs_command.specs.declared.integer.Integer.TheVariants.{Negative, Natural}
use Rattle.xs_command.specs.Integer.{integer_of}

-- the meaning of all the words: a value or a fault
abbrev pub Reading : Type 0 → Type 0
Reading A = List (List ℕ) → Result A Fault

-- the meaning of the first words: a value and the words after it, or a fault
abbrev pub Part : Type 0 → Type 0
Part A = Reading (A × List (List ℕ))

-- a part that was read, and what comes next
abbrev pub and_then : {A B : Type 0} → Result (A × List (List ℕ)) Fault → (A → Reading B) → Result B Fault
and_then (Ok x) next = next x.0 x.1
and_then (Err fault) next = Err fault

infixl 10 ◌>>=◌
abbrev pub ◌>>=◌ : {A B : Type 0} → Part A → (A → Reading B) → Reading B
(part >>= next) words = and_then (part words) next

-- this value, without reading a word
abbrev pub value : {A : Type 0} → A → Part A
value x words = Ok (x, words)

-- the meaning of a word, or the fault of a word without one
abbrev pub or_fault : {A : Type 0} → Option A → Fault → Part A
or_fault (Some x) fault words = Ok (x, words)
or_fault None fault words = Err fault

-- a refusal for memory is always allowed; any other carries the fault that is read
abbrev pub Fails : {A : Type 0} → Refusal → Result A Fault → Type 0
Fails Memory read = Unit {0}
Fails (Said fault) read = read ≡ Err fault

-- a function returns what is read, unless memory runs out
abbrev pub Gives : {A : Type 0} → Result A Refusal → Result A Fault → Type 0
Gives (Ok x) read = read ≡ Ok x
Gives (Err refusal) read = Fails refusal read

-- the word is this name, in upper or lower case
unfoldable pub is_word : List ℕ → List ℕ → Bool
is_word name word = str_eq_ignore_ascii_case word name

-- the next word
unfoldable pub word : Part (List ℕ)
word [] = Err Syntax
word (w ∷ words) = Ok (w, words)

-- the words after `=` or `~`, if they begin with one
unfoldable pub behind_sign : List (List ℕ) → List (List ℕ)
behind_sign [] = []
behind_sign (w ∷ words) = if is_word (codes "=") w || is_word (codes "~") w then words else w ∷ words

-- the next word, an integer
unfoldable pub integer : Part Integer
integer = do
  w ← word
  or_fault (integer_of w) NotInteger

-- a number of at least 0
abbrev pub not_negative : Integer → Option ℕ
not_negative Negative = None
not_negative (Natural n) = Some n

-- the next word, an integer of at least 0
unfoldable pub natural : Part ℕ
natural = do
  n ← integer
  or_fault (not_negative n) NotInteger

-- the next word, an id; a missing sequence is 0
unfoldable pub id_of_word : Part Id
id_of_word = do
  w ← word
  or_fault (parse_id w 0) BadId

-- the next word, the low end of a range
unfoldable pub low : Part Id
low = do
  w ← word
  or_fault (low_end w) BadId

-- the next word, the high end of a range
unfoldable pub high : Part Id
high = do
  w ← word
  or_fault (high_end w) BadId
