-- XPENDING.
use Rattle.std.specs.Prelude.{ℕ, ◌||◌, ◌==◌, List, [], ◌∷◌, length, codes, Option, Some, None, Ok, Err, if◌then◌else◌}
use Rattle.xs_resp.specs.declared.fault.Fault.TheVariants.{Syntax}
use Rattle.xs_command.specs.declared.command.Command.{Command}
use Rattle.xs_command.specs.declared.command.Command.TheVariants as command
use Rattle.xs_command.specs.Integer.{at_least_zero}
use Rattle.xs_command.specs.Words.{Reading, Part, ◌>>=◌, is_word, word, integer, low, high}
use Rattle.xs_command.specs.Syntax.{only}

-- a word that may be left out
unfoldable pub optional : Part (Option (List ℕ))
optional [] = Ok (None, [])
optional (w ∷ words) = Ok (Some w, words)

-- low high count [consumer]
unfoldable pub pending_rows : List ℕ → List ℕ → ℕ → Reading Command
pending_rows key group min_idle = do
  low ← low
  high ← high
  count ← integer
  consumer ← optional
  only (command.PendingRows (record {
    key = key;
    group = group;
    min_idle = min_idle;
    range = record { low = low; high = high };
    limit = at_least_zero count;
    consumer = consumer;
  })) Syntax

-- the words after IDLE: ms low high count [consumer]
unfoldable pub idle_rows : List ℕ → List ℕ → Reading Command
idle_rows key group = do
  idle ← integer
  pending_rows key group (at_least_zero idle)

-- n or m words; any other number is a syntax error
abbrev pub with_word_count : ℕ → ℕ → Reading Command → Reading Command
with_word_count n m rows words = if length words == n || length words == m then rows words else Err Syntax

-- the long form, which begins with this word; the number of words is checked first
abbrev pub long_form : List ℕ → List ℕ → List ℕ → Reading Command
long_form key group first words =
    if is_word (codes "idle") first then with_word_count 4 5 (idle_rows key group) words
    else with_word_count 3 4 (pending_rows key group 0) (first ∷ words)

-- the short form if there are no more words, else the long form
unfoldable pub form : List ℕ → List ℕ → Reading Command
form key group [] = Ok (command.Pending key group)
form key group (first ∷ words) = long_form key group first words

-- XPENDING key group, and nothing or: [IDLE ms] low high count [consumer]
unfoldable pub xpending : Reading Command
xpending = do
  key ← word
  group ← word
  form key group
