-- Which reads find nothing, and how long a command may wait, by examples; as a real Redis 7.0 replies to the same
-- lines: the null array, or another reply. (XREADGROUP; XREAD, "Blocking for data".)
use Rattle.std.specs.Prelude.{◌≡◌, ℕ, Bool, true, false, List, [], ◌∷◌, codes, Option, Some, None, Result, Ok, Err}
use Rattle.xs_bytes.specs.SortedMap.{empty}
use Rattle.xs_keys.specs.Terms.{Command, ReadGroup, Fault}
use Rattle.xs_command.specs.Read.{command_of_words}
use Rattle.xs_command.specs.Examples.{line}
use Rattle.xs_keys.specs.Content.{Content}
use Rattle.xs_keys.specs.PlayedLines.{reply_and_content}
use Rattle.xs_keys.specs.ExamplesJob.{two_and, read_by_c}
use Rattle.xs_keys.specs.Waiting.{block_of, finds_nothing, IsAnsweredNull, IsAnsweredOtherwise}

-- the command of these words
abbrev pub said : List ℕ → Result Command Fault
said words = command_of_words (line words)

-- the content after these lines, all at one moment
abbrev pub content_behind : Content → List (List ℕ) → Content
content_behind content [] = content
content_behind content (words ∷ lines) = content_behind (reply_and_content content 5 (said words)).1 lines

abbrev pub read_finds_nothing : Content → Result Command Fault → Option Bool
read_finds_nothing content (Ok (ReadGroup read)) = Some (finds_nothing content read)
read_finds_nothing content _ = None

-- whether the read of some words finds nothing after these lines
abbrev pub nothing_behind : List (List ℕ) → List ℕ → Option Bool
nothing_behind lines words = read_finds_nothing (content_behind empty lines) (said words)

-- after two entries of the key s, its group g from the beginning on, and these lines
abbrev pub nothing_in_two : List (List ℕ) → List ℕ → Option Bool
nothing_in_two lines words = nothing_behind (two_and lines) words

-- the key t without an entry, and with a group of the same name
abbrev pub empty_t : List ℕ
empty_t = codes "XGROUP CREATE t g 0 MKSTREAM"

pub record NothingNew : Type 0 where
  -- above the cursor
  pub all_are_new : nothing_in_two [] read_by_c ≡ Some false
  pub one_is_new : nothing_in_two (codes "XREADGROUP GROUP g c COUNT 1 STREAMS s >" ∷ []) read_by_c ≡ Some false
  pub none_is_new : nothing_in_two (read_by_c ∷ []) (codes "XREADGROUP GROUP g d STREAMS s >") ≡ Some true
  pub one_added_later : nothing_in_two (read_by_c ∷ codes "XADD s 3-0 f v" ∷ []) read_by_c ≡ Some false
  pub read_with_noack : nothing_in_two (codes "XREADGROUP GROUP g c NOACK STREAMS s >" ∷ []) read_by_c ≡ Some true
  pub with_a_count : nothing_in_two [] (codes "XREADGROUP GROUP g c COUNT 1 STREAMS s >") ≡ Some false
  pub none_with_a_count : nothing_in_two (read_by_c ∷ []) (codes "XREADGROUP GROUP g c COUNT 1 STREAMS s >") ≡ Some true
  pub its_own_are_not_new : nothing_in_two (read_by_c ∷ []) read_by_c ≡ Some true
  pub new_to_another_group :
      nothing_in_two (codes "XGROUP CREATE s h 0" ∷ read_by_c ∷ []) (codes "XREADGROUP GROUP h c STREAMS s >")
      ≡ Some false
  -- what was settled or claimed isn't new again
  pub acknowledged : nothing_in_two (read_by_c ∷ codes "XACK s g 1-0 2-0" ∷ []) read_by_c ≡ Some true
  pub its_consumer_left : nothing_in_two (read_by_c ∷ codes "XGROUP DELCONSUMER s g c" ∷ []) read_by_c ≡ Some true
  pub claimed : nothing_in_two (read_by_c ∷ codes "XCLAIM s g d 0 1-0" ∷ []) read_by_c ≡ Some true
  -- what has left the stream
  pub all_deleted : nothing_in_two (codes "XDEL s 1-0 2-0" ∷ []) read_by_c ≡ Some true
  pub one_deleted : nothing_in_two (codes "XDEL s 1-0" ∷ []) read_by_c ≡ Some false
  pub all_trimmed : nothing_in_two (codes "XTRIM s MAXLEN 0" ∷ []) read_by_c ≡ Some true
  -- the start of the group
  pub without_an_entry : nothing_in_two (empty_t ∷ []) (codes "XREADGROUP GROUP g c STREAMS t >") ≡ Some true
  pub from_the_top :
      nothing_in_two (codes "XGROUP CREATE s h $" ∷ []) (codes "XREADGROUP GROUP h c STREAMS s >") ≡ Some true
  pub from_above_the_top :
      nothing_in_two (codes "XGROUP CREATE s h 9" ∷ codes "XADD s 3-0 f v" ∷ [])
      (codes "XREADGROUP GROUP h c STREAMS s >") ≡ Some true
  -- several streams
  pub new_in_the_second : nothing_in_two (empty_t ∷ []) (codes "XREADGROUP GROUP g c STREAMS t s > >") ≡ Some false
  pub new_in_the_first : nothing_in_two (empty_t ∷ []) (codes "XREADGROUP GROUP g c STREAMS s t > >") ≡ Some false
  pub new_in_neither :
      nothing_in_two (empty_t ∷ read_by_c ∷ []) (codes "XREADGROUP GROUP g c STREAMS s t > >") ≡ Some true
  -- own entries are returned at once
  pub own_entries : nothing_in_two (read_by_c ∷ []) (codes "XREADGROUP GROUP g c STREAMS s 0") ≡ Some false
  pub no_own_entries : nothing_in_two (read_by_c ∷ []) (codes "XREADGROUP GROUP g d STREAMS s 0") ≡ Some false
  pub new_ones_and_own : nothing_in_two (empty_t ∷ []) (codes "XREADGROUP GROUP g d STREAMS t s > 0") ≡ Some false
  pub own_and_new_ones :
      nothing_in_two (empty_t ∷ read_by_c ∷ []) (codes "XREADGROUP GROUP g d STREAMS s t 0 >") ≡ Some false
  -- a missing key or group is an error
  pub no_key : nothing_in_two [] (codes "XREADGROUP GROUP g c STREAMS u >") ≡ Some false
  pub no_group : nothing_in_two (read_by_c ∷ []) (codes "XREADGROUP GROUP h c STREAMS s >") ≡ Some false
  pub no_second_key : nothing_in_two (empty_t ∷ []) (codes "XREADGROUP GROUP g c STREAMS t u > >") ≡ Some false
  pub no_first_key : nothing_in_two (empty_t ∷ []) (codes "XREADGROUP GROUP g c STREAMS u t > >") ≡ Some false
  pub group_of_another_key :
      nothing_in_two (empty_t ∷ codes "XGROUP CREATE t h 0" ∷ []) (codes "XREADGROUP GROUP h c STREAMS t s > >")
      ≡ Some false
  pub group_destroyed : nothing_in_two (read_by_c ∷ codes "XGROUP DESTROY s g" ∷ []) read_by_c ≡ Some false

-- whether a relation is true of the command of some words and the content after two entries, their group and these
-- lines
abbrev pub holds_of : Content → Result Command Fault → (Content → Command → Type 0) → Type 0
holds_of content (Ok command) Says = Says content command
holds_of content (Err fault) Says = ⊥

abbrev pub HoldsInTwo : (Content → Command → Type 0) → List (List ℕ) → List ℕ → Type 0
HoldsInTwo Says lines words = holds_of (content_behind empty (two_and lines)) (said words) Says

pub record NullReplies : Type 0 where
  pub nothing_new : HoldsInTwo IsAnsweredNull (read_by_c ∷ []) (codes "XREADGROUP GROUP g d STREAMS s >")
  pub nothing_new_with_block :
      HoldsInTwo IsAnsweredNull (read_by_c ∷ []) (codes "XREADGROUP GROUP g d BLOCK 9 STREAMS s >")
  pub deleted : HoldsInTwo IsAnsweredNull (codes "XDEL s 1-0 2-0" ∷ []) read_by_c
  pub nothing_new_in_two :
      HoldsInTwo IsAnsweredNull (empty_t ∷ read_by_c ∷ []) (codes "XREADGROUP GROUP g c STREAMS s t > >")
  pub not_with_new_ones : HoldsInTwo IsAnsweredNull [] read_by_c → ⊥
  pub not_without_a_group : HoldsInTwo IsAnsweredNull [] (codes "XREADGROUP GROUP h c STREAMS s >") → ⊥
  pub new_ones : HoldsInTwo IsAnsweredOtherwise [] read_by_c
  pub own_entries : HoldsInTwo IsAnsweredOtherwise [] (codes "XREADGROUP GROUP g c STREAMS s 0")
  pub no_key : HoldsInTwo IsAnsweredOtherwise [] (codes "XREADGROUP GROUP g c STREAMS u >")
  pub no_group : HoldsInTwo IsAnsweredOtherwise [] (codes "XREADGROUP GROUP h c STREAMS s >")
  pub not_with_nothing_new : HoldsInTwo IsAnsweredOtherwise (read_by_c ∷ []) read_by_c → ⊥

-- how long the command of some words may wait
abbrev pub block_of_said : Result Command Fault → Option (Option ℕ)
block_of_said (Ok command) = Some (block_of command)
block_of_said (Err fault) = None

abbrev pub waits : List ℕ → Option (Option ℕ)
waits words = block_of_said (said words)

pub record Blocks : Type 0 where
  pub not_without_block : waits read_by_c ≡ Some None
  pub some_milliseconds : waits (codes "XREADGROUP GROUP g c BLOCK 7 STREAMS s >") ≡ Some (Some 7)
  pub for_as_long_as_it_takes : waits (codes "XREADGROUP GROUP g c BLOCK 0 STREAMS s >") ≡ Some (Some 0)
  pub the_last_one_counts : waits (codes "XREADGROUP GROUP g c BLOCK 7 BLOCK 9 STREAMS s >") ≡ Some (Some 9)
  pub not_below_zero : waits (codes "XREADGROUP GROUP g c BLOCK -1 STREAMS s >") ≡ None
  pub no_other_command : waits (codes "XPENDING s g") ≡ Some None
