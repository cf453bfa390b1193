-- What removes an entry from its stream, what may begin a job, and what creates a group, by examples; as a real Redis
-- 7.0 lists entries and groups after such lines. (Redis, XADD, XDEL, XTRIM, XGROUP CREATE and DEL.)
use Rattle.std.specs.Prelude.{◌≡◌, ℕ, Bool, true, false, List, [], ◌∷◌, codes, Option, Some, None}
use Rattle.xs_stream.specs.declared.id.Id.{Id}
use Rattle.xs_stream.specs.Examples.{at}
use Rattle.xs_keys.specs.Event.{History, event_command}
use Rattle.xs_command.specs.declared.command.Command.{Command}
use Rattle.xs_command.specs.Read.{command_of_words}
use Rattle.xs_command.specs.Examples.{line}
use Rattle.xs_keys.specs.Life.{StreamEvent}
use Rattle.xs_keys.specs.ExamplesHistory.{event}
use Rattle.xs_keys.specs.Effect.{may_begin_job}
use Rattle.xs_keys.specs.Presence.{may_remove_entry, has_to_remove, has_to_create}

-- whether a test is true of the first command
abbrev pub of_first : History → (Command → Bool) → Bool
of_first [] holds = false
of_first (e ∷ es) holds = holds (event_command e)

-- whether a test is true of the command of these words
abbrev pub of_words : List ℕ → (Command → Bool) → Bool
of_words words holds = of_first (event 5 (command_of_words (line words))) holds

-- the words may remove the entry 1-0 from the stream s of these ids, and have to
abbrev pub may_remove : List ℕ → List Id → Bool
may_remove words present = of_words words (λ command. may_remove_entry command (codes "s") present (at 1 0))

abbrev pub must_remove : List ℕ → List Id → Bool
must_remove words present = of_words words (λ command. has_to_remove command (codes "s") present (at 1 0))

abbrev pub two : List Id
two = at 1 0 ∷ at 2 0 ∷ []

pub record Removals : Type 0 where
  pub deleted : must_remove (codes "XDEL s 3-0 1-0") two ≡ true
  pub another_is_deleted : may_remove (codes "XDEL s 2-0") two ≡ false
  pub deleted_elsewhere : may_remove (codes "XDEL t 1-0") two ≡ false
  pub trimmed : must_remove (codes "XTRIM s MAXLEN 1") two ≡ true
  pub trimmed_below : must_remove (codes "XTRIM s MINID 2") two ≡ true
  pub within_its_length : may_remove (codes "XTRIM s MAXLEN 2") two ≡ false
  pub at_its_bound : may_remove (codes "XTRIM s MINID 1") two ≡ false
  pub trimmed_elsewhere : may_remove (codes "XTRIM t MAXLEN 0") two ≡ false
  pub trimmed_behind_an_addition : may_remove (codes "XADD s MAXLEN 2 3-0 f v") two ≡ true
  pub within_the_length_of_an_addition : may_remove (codes "XADD s MAXLEN 3 3-0 f v") two ≡ false
  pub below_the_bound_of_an_addition : may_remove (codes "XADD s MINID 2 3-0 f v") two ≡ true
  pub at_the_bound_of_an_addition : may_remove (codes "XADD s MINID 1 3-0 f v") two ≡ false
  pub above_the_bound_of_an_addition : may_remove (codes "XADD s MINID 0-5 3-0 f v") two ≡ false
  pub by_an_addition_that_may_be_refused : must_remove (codes "XADD s MAXLEN 2 3-0 f v") two ≡ false
  pub added_without_a_trim : may_remove (codes "XADD s 3-0 f v") two ≡ false
  pub with_its_key : must_remove (codes "DEL t s") two ≡ true
  pub with_another_key : may_remove (codes "DEL t") two ≡ false
  pub acknowledged : may_remove (codes "XACK s g 1-0") two ≡ false
  pub read_with_noack : may_remove (codes "XREADGROUP GROUP g c NOACK STREAMS s >") two ≡ false
  pub its_group_is_destroyed : may_remove (codes "XGROUP DESTROY s g") two ≡ false

-- the words may begin a job in the stream s for its group g
abbrev pub may_begin : List ℕ → Bool
may_begin words = of_words words (λ command. may_begin_job command (codes "s") (codes "g"))

pub record Beginnings : Type 0 where
  pub added : may_begin (codes "XADD s * f v") ≡ true
  pub added_if_it_is_there : may_begin (codes "XADD s NOMKSTREAM MAXLEN 0 * f v") ≡ true
  pub added_elsewhere : may_begin (codes "XADD t * f v") ≡ false
  pub group_created : may_begin (codes "XGROUP CREATE s g $") ≡ true
  pub another_group_created : may_begin (codes "XGROUP CREATE s h 0") ≡ false
  pub group_created_elsewhere : may_begin (codes "XGROUP CREATE t g 0 MKSTREAM") ≡ false
  pub ping : may_begin (codes "PING s") ≡ false
  pub quit : may_begin (codes "QUIT") ≡ false
  pub xdel : may_begin (codes "XDEL s 1") ≡ false
  pub xtrim : may_begin (codes "XTRIM s MAXLEN 1") ≡ false
  pub xlen : may_begin (codes "XLEN s") ≡ false
  pub xrange : may_begin (codes "XRANGE s - +") ≡ false
  pub xgroup_destroy : may_begin (codes "XGROUP DESTROY s g") ≡ false
  pub xgroup_createconsumer : may_begin (codes "XGROUP CREATECONSUMER s g c") ≡ false
  pub xgroup_delconsumer : may_begin (codes "XGROUP DELCONSUMER s g c") ≡ false
  pub xreadgroup : may_begin (codes "XREADGROUP GROUP g c STREAMS s >") ≡ false
  pub xack : may_begin (codes "XACK s g 1") ≡ false
  pub xpending : may_begin (codes "XPENDING s g") ≡ false
  pub xpending_rows : may_begin (codes "XPENDING s g - + 1") ≡ false
  pub xclaim : may_begin (codes "XCLAIM s g c 0 1") ≡ false
  pub xautoclaim : may_begin (codes "XAUTOCLAIM s g c 0 0") ≡ false
  pub del : may_begin (codes "DEL s") ≡ false

abbrev pub must_create : List ℕ → Option (List StreamEvent) → Bool
must_create words stream = of_words words (λ command. has_to_create command (codes "s") (codes "g") stream)

pub record Creations : Type 0 where
  pub in_a_stream : must_create (codes "XGROUP CREATE s g $") (Some []) ≡ true
  pub with_its_stream : must_create (codes "XGROUP CREATE s g 0 MKSTREAM") None ≡ true
  pub not_without_a_stream : must_create (codes "XGROUP CREATE s g 0") None ≡ false
  pub not_another_group : must_create (codes "XGROUP CREATE s h 0") (Some []) ≡ false
  pub not_elsewhere : must_create (codes "XGROUP CREATE t g 0") (Some []) ≡ false
