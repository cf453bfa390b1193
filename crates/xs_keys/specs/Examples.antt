-- What clients see, by the Redis documentation of streams and of each command: computed examples.
use Rattle.std.specs.Prelude.{[], ◌∷◌, codes}
use Rattle.xs_resp.specs.declared.fault.Fault.TheVariants.{Arity, BadId, Busy, Exhausted, NoGroup, NoKey, NotInteger}
use Rattle.xs_resp.specs.declared.fault.Fault.TheVariants.{SmallId, Syntax, UnknownCommand, Unsupported, ZeroId}
use Rattle.xs_keys.specs.Terms.{Simple, Pong, Error, Int, NullBulk, NullArray}
use Rattle.xs_keys.specs.ReplyParts.{array}
use Rattle.xs_keys.specs.PlayedLines.{IsPlayed, at, ok, name, number, id, entry, gone, stream, row}

pub record Streams : Type 0 where
  -- the stored run of the program
  pub stored_ids : IsPlayed (
      at 1000 (codes "XADD s * f v") (id 1000 0) ∷
      at 1000 (codes "XADD s * f v") (id 1000 1) ∷
      [])
  -- the moment goes back
  pub the_moment_goes_back : IsPlayed (
      at 1000 (codes "XADD s * f v") (id 1000 0) ∷
      at 1000 (codes "XADD s * f v") (id 1000 1) ∷
      at 900 (codes "XADD s * f v") (id 1000 2) ∷
      at 900 (codes "XLEN s") (Int 3) ∷
      at 900 (codes "XRANGE s - + COUNT 1") (array (entry 1000 0 ∷ [])) ∷
      [])
  -- only a sequence, the zero id, a stream that may not be created
  pub sequences_and_the_zero_id : IsPlayed (
      at 5 (codes "XADD t 0-* f v") (id 0 1) ∷
      at 5 (codes "XADD u 0-0 f v") (Error ZeroId) ∷
      at 5 (codes "XADD u NOMKSTREAM * f v") NullBulk ∷
      at 5 (codes "XLEN u") (Int 0) ∷
      at 5 (codes "XADD u NOMKSTREAM MAXLEN 5 * f v") NullBulk ∷
      at 5 (codes "XADD v 5-* f v") (id 5 0) ∷
      [])
  -- the greatest id
  pub the_greatest_id : IsPlayed (
      at 5 (codes "XADD s 18446744073709551615-18446744073709551615 f v")
      (id 18446744073709551615 18446744073709551615) ∷
      at 5 (codes "XADD s * f v") (Error Exhausted) ∷
      at 5 (codes "XADD s 1-1 f v") (Error Exhausted) ∷
      [])
  -- the last sequence of a millisecond
  pub the_last_sequence : IsPlayed (
      at 1 (codes "XADD s 5-18446744073709551615 f v") (id 5 18446744073709551615) ∷
      at 1 (codes "XADD s 5-* f v") (Error SmallId) ∷
      at 5 (codes "XADD s * f v") (id 6 0) ∷
      at 5 (codes "XADD s 6 f v") (Error SmallId) ∷
      at 5 (codes "XADD s 6-* f v") (id 6 1) ∷
      [])
  -- ranges
  pub ranges : IsPlayed (
      at 1 (codes "XADD s 1-0 f v") (id 1 0) ∷
      at 1 (codes "XADD s 1-1 f v") (id 1 1) ∷
      at 1 (codes "XADD s 2-0 f v") (id 2 0) ∷
      at 1 (codes "XRANGE s 1 1") (array (entry 1 0 ∷ entry 1 1 ∷ [])) ∷
      at 1 (codes "XRANGE s (1-0 +") (array (entry 1 1 ∷ entry 2 0 ∷ [])) ∷
      at 1 (codes "XREVRANGE s + - COUNT 1") (array (entry 2 0 ∷ [])) ∷
      at 1 (codes "XRANGE s - (0-0") (Error BadId) ∷
      at 1 (codes "XRANGE s - + COUNT 0") (array []) ∷
      at 1 (codes "XRANGE nokey - +") (array []) ∷
      [])
  -- trimming
  pub trimming : IsPlayed (
      at 1 (codes "XADD s 1-0 f v") (id 1 0) ∷
      at 1 (codes "XADD s 2-0 f v") (id 2 0) ∷
      at 1 (codes "XADD s 3-0 f v") (id 3 0) ∷
      at 1 (codes "XADD s 4-0 f v") (id 4 0) ∷
      at 1 (codes "XGROUP CREATE s g 0") ok ∷
      at 2 (codes "XTRIM s MAXLEN ~ 3") (Int 1) ∷
      at 2 (codes "XTRIM s MINID 3") (Int 1) ∷
      at 2 (codes "XLEN s") (Int 2) ∷
      at 2 (codes "XTRIM nokey MAXLEN 0") (Int 0) ∷
      at 2 (codes "XTRIM s MAXLEN -1") (Error NotInteger) ∷
      [])

pub record Words : Type 0 where
  -- words
  pub words : IsPlayed (
      at 1 (codes "FOO") (Error UnknownCommand) ∷
      at 1 (codes "XADD s") (Error Arity) ∷
      at 1 (codes "XADD s * f v g") (Error Arity) ∷
      at 1 (codes "XADD s MAXLEN 1 MINID 1 * f v") (Error Syntax) ∷
      at 1 (codes "XADD s MAXLEN 1 MAXLEN 1 * f v") (Error Syntax) ∷
      at 1 (codes "XADD s MAXLEN x * f v") (Error NotInteger) ∷
      at 1 (codes "XADD s MAXLEN ~ 1 LIMIT 5 * f v") (Error Unsupported) ∷
      at 1 (codes "XADD s 1-x f v") (Error BadId) ∷
      at 1 (codes "XREADGROUP GROUP g c BLOCK 0 STREAMS s >") (Error NoGroup) ∷
      at 1 (codes "XREADGROUP GROUP g c BLOCK -1 STREAMS s >") (Error NotInteger) ∷
      at 1 (codes "XREADGROUP GROUP g c STREAMS s $") (Error BadId) ∷
      at 1 (codes "XGROUP SETID s g 0") (Error Unsupported) ∷
      at 1 (codes "XPENDING s g -") (Error Syntax) ∷
      at 1 (codes "xlen s") (Int 0) ∷
      [])
  -- the first faults of words
  pub first_faults : IsPlayed (
      at 1 (codes "FOO") (Error UnknownCommand) ∷
      at 1 (codes "XADD s") (Error Arity) ∷
      at 1 (codes "XADD s 1-x f v") (Error BadId) ∷
      at 1 (codes "XRANGE s - + COUNT x") (Error NotInteger) ∷
      [])
  -- more words
  pub more_words : IsPlayed (
      at 1 (codes "XGROUP") (Error Arity) ∷
      at 1 (codes "XGROUP HELP") (Error UnknownCommand) ∷
      at 1 (codes "XLEN") (Error Arity) ∷
      at 1 (codes "XADD s +5 f v") (Error BadId) ∷
      at 1 (codes "XADD s MAXLEN 1 LIMIT 5 1-x f v") (Error Unsupported) ∷
      at 1 (codes "XRANGE s - + COUNT") (Error Syntax) ∷
      at 1 (codes "XPENDING s g IDLE x - +") (Error Syntax) ∷
      at 1 (codes "XPENDING s g IDLE x - + 1") (Error NotInteger) ∷
      at 1 (codes "XCLAIM s g c x y") (Error NotInteger) ∷
      at 1 (codes "XCLAIM s g c 0 JUSTID") (Error BadId) ∷
      at 1 (codes "XAUTOCLAIM s g c 0 (+") (Error BadId) ∷
      at 1 (codes "XAUTOCLAIM s g c 0 0 COUNT 0") (Error NotInteger) ∷
      at 1 (codes "XREADGROUP GROUP g c STREAMS s t >") (Error Syntax) ∷
      at 1 (codes "XREADGROUP STREAMS a b c > > >") (Error Syntax) ∷
      at 1 (codes "DEL s") (Int 0) ∷
      [])

pub record Deliveries : Type 0 where
  -- adds first and trims then; the top stays
  pub adds_first_and_trims_then : IsPlayed (
      at 10 (codes "XGROUP CREATE s g $ MKSTREAM") ok ∷
      at 10 (codes "XADD s MAXLEN 0 * f v") (id 10 0) ∷
      at 10 (codes "XLEN s") (Int 0) ∷
      at 10 (codes "XREADGROUP GROUP g c STREAMS s >") NullArray ∷
      at 10 (codes "XADD s * f v") (id 10 1) ∷
      at 10 (codes "XREADGROUP GROUP g c STREAMS s >") (array (stream (codes "s") (entry 10 1 ∷ []) ∷ [])) ∷
      at 10 (codes "XADD s MINID 12 11-0 f v") (id 11 0) ∷
      at 10 (codes "XLEN s") (Int 0) ∷
      [])
  -- a deleted entry is skipped at its turn
  pub a_deleted_entry_is_passed_over : IsPlayed (
      at 1 (codes "XADD s 1-0 f v") (id 1 0) ∷
      at 1 (codes "XADD s 2-0 f v") (id 2 0) ∷
      at 1 (codes "XADD s 3-0 f v") (id 3 0) ∷
      at 1 (codes "XGROUP CREATE s g 0") ok ∷
      at 2 (codes "XDEL s 2-0") (Int 1) ∷
      at 2 (codes "XDEL s 2-0") (Int 0) ∷
      at 2 (codes "XREADGROUP GROUP g c COUNT 1 STREAMS s >") (array (stream (codes "s") (entry 1 0 ∷ []) ∷ [])) ∷
      at 2 (codes "XREADGROUP GROUP g c COUNT 1 STREAMS s >") (array (stream (codes "s") (entry 3 0 ∷ []) ∷ [])) ∷
      at 2 (codes "XREADGROUP GROUP g c COUNT 1 STREAMS s >") NullArray ∷
      [])
  -- the start of a group
  pub where_a_group_starts : IsPlayed (
      at 1 (codes "XADD s 1-0 f v") (id 1 0) ∷
      at 1 (codes "XADD s 2-0 f v") (id 2 0) ∷
      at 1 (codes "XADD s 3-0 f v") (id 3 0) ∷
      at 1 (codes "XGROUP CREATE s g 0") ok ∷
      at 2 (codes "XGROUP CREATE s h 2-0") ok ∷
      at 2 (codes "XGROUP CREATE s k $") ok ∷
      at 2 (codes "XREADGROUP GROUP h c STREAMS s >") (array (stream (codes "s") (entry 3 0 ∷ []) ∷ [])) ∷
      at 2 (codes "XREADGROUP GROUP k c STREAMS s >") NullArray ∷
      at 2 (codes "XREADGROUP GROUP z c STREAMS s >") (Error NoGroup) ∷
      [])
  -- a group may start above the top
  pub a_group_starts_above_the_top : IsPlayed (
      at 1 (codes "XADD s 1-0 f v") (id 1 0) ∷
      at 1 (codes "XGROUP CREATE s g 9") ok ∷
      at 2 (codes "XADD s 5-0 f v") (id 5 0) ∷
      at 2 (codes "XREADGROUP GROUP g c STREAMS s >") NullArray ∷
      at 2 (codes "XADD s 9-1 f v") (id 9 1) ∷
      at 2 (codes "XREADGROUP GROUP g c STREAMS s >") (array (stream (codes "s") (entry 9 1 ∷ []) ∷ [])) ∷
      [])
  -- a consumer's own pending entries, one of them deleted
  pub own_pending_entries : IsPlayed (
      at 1 (codes "XADD s 1-0 f v") (id 1 0) ∷
      at 1 (codes "XADD s 2-0 f v") (id 2 0) ∷
      at 1 (codes "XGROUP CREATE s g 0") ok ∷
      at 100 (codes "XREADGROUP GROUP g c STREAMS s >") (array (stream (codes "s") (entry 1 0 ∷ entry 2 0 ∷ []) ∷ [])) ∷
      at 100 (codes "XDEL s 1-0") (Int 1) ∷
      at 150 (codes "XREADGROUP GROUP g c STREAMS s 0") (array (stream (codes "s") (gone 1 0 ∷ entry 2 0 ∷ []) ∷ [])) ∷
      at 160 (codes "XPENDING s g - + 10")
      (array (row (id 1 0) (codes "c") 60 1 ∷ row (id 2 0) (codes "c") 10 2 ∷ [])) ∷
      at 160 (codes "XREADGROUP GROUP g d STREAMS s 0") (array (stream (codes "s") [] ∷ [])) ∷
      [])
  -- acknowledgement
  pub acknowledgement : IsPlayed (
      at 1 (codes "XADD s 1-0 f v") (id 1 0) ∷
      at 1 (codes "XGROUP CREATE s g 0") ok ∷
      at 2 (codes "XREADGROUP GROUP g c STREAMS s >") (array (stream (codes "s") (entry 1 0 ∷ []) ∷ [])) ∷
      at 3 (codes "XACK s g 1-0 1-0") (Int 1) ∷
      at 3 (codes "XACK s g 1-0") (Int 0) ∷
      at 3 (codes "XACK s z 1-0") (Int 0) ∷
      at 3 (codes "XACK nokey g 1-0") (Int 0) ∷
      at 3 (codes "XACK s g x") (Error BadId) ∷
      [])
  -- of a deleted entry, in a stream where none is left
  pub a_deleted_entry_is_acknowledged : IsPlayed (
      at 1 (codes "XADD s 1-0 f v") (id 1 0) ∷
      at 1 (codes "XGROUP CREATE s g 0") ok ∷
      at 100 (codes "XREADGROUP GROUP g c STREAMS s >") (array (stream (codes "s") (entry 1 0 ∷ []) ∷ [])) ∷
      at 100 (codes "XDEL s 1-0") (Int 1) ∷
      at 110 (codes "XREADGROUP GROUP g c STREAMS s >") NullArray ∷
      at 160 (codes "XPENDING s g - + 9") (array (row (id 1 0) (codes "c") 60 1 ∷ [])) ∷
      at 160 (codes "XACK s g 1-0") (Int 1) ∷
      at 160 (codes "XPENDING s g - + 9") (array []) ∷
      [])
  -- two consumers of a group
  pub two_consumers : IsPlayed (
      at 1 (codes "XADD s 1-0 f v") (id 1 0) ∷
      at 1 (codes "XADD s 2-0 f v") (id 2 0) ∷
      at 1 (codes "XGROUP CREATE s g 0") ok ∷
      at 2 (codes "XREADGROUP GROUP g c COUNT 1 STREAMS s >") (array (stream (codes "s") (entry 1 0 ∷ []) ∷ [])) ∷
      at 2 (codes "XREADGROUP GROUP g d STREAMS s >") (array (stream (codes "s") (entry 2 0 ∷ []) ∷ [])) ∷
      at 2 (codes "XREADGROUP GROUP g d STREAMS s >") NullArray ∷
      at 2 (codes "XADD s 3-0 f v") (id 3 0) ∷
      at 2 (codes "XREADGROUP GROUP g d STREAMS s >") (array (stream (codes "s") (entry 3 0 ∷ []) ∷ [])) ∷
      at 2 (codes "XACK s g 1-0 3-0") (Int 2) ∷
      [])

pub record Claims : Type 0 where
  -- claims by id
  pub claims_by_id : IsPlayed (
      at 1 (codes "XADD s 1-0 f v") (id 1 0) ∷
      at 1 (codes "XADD s 2-0 f v") (id 2 0) ∷
      at 1 (codes "XGROUP CREATE s g 0") ok ∷
      at 100 (codes "XREADGROUP GROUP g c STREAMS s >") (array (stream (codes "s") (entry 1 0 ∷ entry 2 0 ∷ []) ∷ [])) ∷
      at 149 (codes "XCLAIM s g d 50 1-0") (array []) ∷
      at 150 (codes "XCLAIM s g d 50 1-0 1-0") (array (entry 1 0 ∷ [])) ∷
      at 160 (codes "XCLAIM s g c 0 1-0 JUSTID") (array (id 1 0 ∷ [])) ∷
      at 160 (codes "XPENDING s g - + 10") (array (row (id 1 0) (codes "c") 0 2 ∷ row (id 2 0) (codes "c") 60 1 ∷ [])) ∷
      at 160 (codes "XDEL s 2-0") (Int 1) ∷
      at 160 (codes "XCLAIM s g d 1000 2-0 9-0") (array []) ∷
      at 160 (codes "XPENDING s g")
      (array (Int 1 ∷ id 1 0 ∷ id 1 0 ∷ array (array (name (codes "c") ∷ number 1 ∷ []) ∷ []) ∷ [])) ∷
      [])
  -- claims by a scan
  pub claims_by_a_scan : IsPlayed (
      at 1 (codes "XADD s 1-0 f v") (id 1 0) ∷
      at 1 (codes "XADD s 2-0 f v") (id 2 0) ∷
      at 1 (codes "XADD s 3-0 f v") (id 3 0) ∷
      at 1 (codes "XADD s 4-0 f v") (id 4 0) ∷
      at 1 (codes "XADD s 5-0 f v") (id 5 0) ∷
      at 1 (codes "XADD s 6-0 f v") (id 6 0) ∷
      at 1 (codes "XADD s 7-0 f v") (id 7 0) ∷
      at 1 (codes "XADD s 8-0 f v") (id 8 0) ∷
      at 1 (codes "XADD s 9-0 f v") (id 9 0) ∷
      at 1 (codes "XADD s 10-0 f v") (id 10 0) ∷
      at 1 (codes "XADD s 11-0 f v") (id 11 0) ∷
      at 1 (codes "XGROUP CREATE s g 0") ok ∷
      at 100 (codes "XREADGROUP GROUP g c STREAMS s >")
      (array (stream (codes "s") (entry 1 0 ∷ entry 2 0 ∷ entry 3 0 ∷ entry 4 0 ∷ entry 5 0 ∷ entry 6 0 ∷
      entry 7 0 ∷ entry 8 0 ∷ entry 9 0 ∷ entry 10 0 ∷ entry 11 0 ∷ []) ∷ [])) ∷
      at 100 (codes "XAUTOCLAIM s g d 10 0-0 COUNT 1") (array (id 11 0 ∷ array [] ∷ array [] ∷ [])) ∷
      at 100 (codes "XAUTOCLAIM s g d 10 11-0 COUNT 1") (array (id 0 0 ∷ array [] ∷ array [] ∷ [])) ∷
      at 110 (codes "XDEL s 1-0") (Int 1) ∷
      at 110 (codes "XAUTOCLAIM s g d 10 - COUNT 2")
      (array (id 3 0 ∷ array (entry 2 0 ∷ []) ∷ array (id 1 0 ∷ []) ∷ [])) ∷
      at 110 (codes "XAUTOCLAIM s g d 10 (2-0 COUNT 1 JUSTID") (array (id 4 0 ∷ array (id 3 0 ∷ []) ∷ array [] ∷ [])) ∷
      [])
  -- the time and the count of a claim
  pub time_and_count_of_a_claim : IsPlayed (
      at 1 (codes "XADD s 1-0 f v") (id 1 0) ∷
      at 1 (codes "XGROUP CREATE s g 0") ok ∷
      at 100 (codes "XREADGROUP GROUP g c STREAMS s >") (array (stream (codes "s") (entry 1 0 ∷ []) ∷ [])) ∷
      at 200 (codes "XCLAIM s g d 0 1-0 TIME 150 RETRYCOUNT 3") (array (entry 1 0 ∷ [])) ∷
      at 210 (codes "XPENDING s g - + 10") (array (row (id 1 0) (codes "d") 60 3 ∷ [])) ∷
      at 220 (codes "XCLAIM s g d 0 1-0 TIME 999") (array (entry 1 0 ∷ [])) ∷
      at 230 (codes "XPENDING s g - + 10") (array (row (id 1 0) (codes "d") 10 4 ∷ [])) ∷
      at 230 (codes "XCLAIM s g c 0 1-0 IDLE 5 TIME 100 JUSTID") (array (id 1 0 ∷ [])) ∷
      at 230 (codes "XPENDING s g - + 10") (array (row (id 1 0) (codes "c") 130 4 ∷ [])) ∷
      at 230 (codes "XCLAIM s g c 0 1-0 TIME 100 IDLE 5 JUSTID") (array (id 1 0 ∷ [])) ∷
      at 230 (codes "XPENDING s g - + 10") (array (row (id 1 0) (codes "c") 5 4 ∷ [])) ∷
      at 230 (codes "XCLAIM s g c -7 1-0 IDLE -1 JUSTID") (array (id 1 0 ∷ [])) ∷
      at 230 (codes "XPENDING s g - + 10") (array (row (id 1 0) (codes "c") 0 4 ∷ [])) ∷
      at 230 (codes "XCLAIM z g c 0 1-0") (Error NoGroup) ∷
      at 230 (codes "XAUTOCLAIM s z c 0 0") (Error NoGroup) ∷
      [])
  -- a scan begins at its start
  pub a_scan_begins_at_its_start : IsPlayed (
      at 1 (codes "XADD s 1-0 f v") (id 1 0) ∷
      at 1 (codes "XADD s 2-0 f v") (id 2 0) ∷
      at 1 (codes "XGROUP CREATE s g 0") ok ∷
      at 100 (codes "XREADGROUP GROUP g c STREAMS s >") (array (stream (codes "s") (entry 1 0 ∷ entry 2 0 ∷ []) ∷ [])) ∷
      at 110 (codes "XAUTOCLAIM s g d 10 2-0") (array (id 0 0 ∷ array (entry 2 0 ∷ []) ∷ array [] ∷ [])) ∷
      [])
  -- JUSTID reports only ids, and takes no entry that is gone
  pub claims_of_gone_entries_by_their_ids : IsPlayed (
      at 1 (codes "XADD s 1-0 f v") (id 1 0) ∷
      at 1 (codes "XADD s 2-0 f v") (id 2 0) ∷
      at 1 (codes "XADD s 3-0 f v") (id 3 0) ∷
      at 1 (codes "XGROUP CREATE s g 0") ok ∷
      at 1 (codes "XREADGROUP GROUP g c STREAMS s >")
      (array (stream (codes "s") (entry 1 0 ∷ entry 2 0 ∷ entry 3 0 ∷ []) ∷ [])) ∷
      at 1 (codes "XDEL s 1-0 2-0") (Int 2) ∷
      at 1 (codes "XCLAIM s g d 0 1-0 3-0 JUSTID") (array (id 3 0 ∷ [])) ∷
      at 1 (codes "XAUTOCLAIM s g d 0 0 COUNT 1 JUSTID") (array (id 3 0 ∷ array [] ∷ array (id 2 0 ∷ []) ∷ [])) ∷
      at 1 (codes "XPENDING s g")
      (array (Int 1 ∷ id 3 0 ∷ id 3 0 ∷ array (array (name (codes "d") ∷ number 1 ∷ []) ∷ []) ∷ [])) ∷
      [])

pub record Lives : Type 0 where
  -- a consumer is removed
  pub a_consumer_is_removed : IsPlayed (
      at 1 (codes "XADD s 1-0 f v") (id 1 0) ∷
      at 1 (codes "XADD s 2-0 f v") (id 2 0) ∷
      at 1 (codes "XGROUP CREATE s g 0") ok ∷
      at 2 (codes "XREADGROUP GROUP g c STREAMS s >") (array (stream (codes "s") (entry 1 0 ∷ entry 2 0 ∷ []) ∷ [])) ∷
      at 3 (codes "XGROUP DELCONSUMER s g c") (Int 2) ∷
      at 3 (codes "XACK s g 1-0 2-0") (Int 0) ∷
      at 3 (codes "XREADGROUP GROUP g d STREAMS s >") NullArray ∷
      at 3 (codes "XGROUP DELCONSUMER s g c") (Int 0) ∷
      at 3 (codes "XGROUP CREATECONSUMER s g d") (Int 0) ∷
      at 3 (codes "XGROUP CREATECONSUMER s g e") (Int 1) ∷
      at 3 (codes "XGROUP CREATECONSUMER s g e") (Int 0) ∷
      at 3 (codes "XGROUP CREATECONSUMER s z e") (Error NoGroup) ∷
      at 4 (codes "XCLAIM s g d 0 1-0") (array []) ∷
      [])
  -- another life of a group
  pub another_life_of_a_group : IsPlayed (
      at 1 (codes "XADD s 1-0 f v") (id 1 0) ∷
      at 1 (codes "XGROUP CREATE s g 0") ok ∷
      at 2 (codes "XREADGROUP GROUP g c STREAMS s >") (array (stream (codes "s") (entry 1 0 ∷ []) ∷ [])) ∷
      at 3 (codes "XGROUP DESTROY s g") (Int 1) ∷
      at 3 (codes "XGROUP DESTROY s g") (Int 0) ∷
      at 3 (codes "XREADGROUP GROUP g c STREAMS s >") (Error NoGroup) ∷
      at 3 (codes "XGROUP CREATE s g 0") ok ∷
      at 3 (codes "XREADGROUP GROUP g c STREAMS s >") (array (stream (codes "s") (entry 1 0 ∷ []) ∷ [])) ∷
      at 3 (codes "XGROUP CREATE s g 0") (Error Busy) ∷
      at 3 (codes "XGROUP CREATE nokey g 0") (Error NoKey) ∷
      at 3 (codes "XGROUP DESTROY nokey g") (Error NoKey) ∷
      [])
  -- a key's life ends
  pub a_key_s_life_ends : IsPlayed (
      at 1 (codes "XADD s 5-0 f v") (id 5 0) ∷
      at 1 (codes "XGROUP CREATE s g 0") ok ∷
      at 1 (codes "DEL s s t") (Int 1) ∷
      at 1 (codes "XREADGROUP GROUP g c STREAMS s >") (Error NoGroup) ∷
      at 1 (codes "XADD s * f v") (id 1 0) ∷
      [])
  -- a key is deleted with its groups
  pub a_key_goes_with_its_groups : IsPlayed (
      at 1 (codes "XADD s 1-0 f v") (id 1 0) ∷
      at 1 (codes "XGROUP CREATE s g 0") ok ∷
      at 2 (codes "XREADGROUP GROUP g c STREAMS s >") (array (stream (codes "s") (entry 1 0 ∷ []) ∷ [])) ∷
      at 3 (codes "DEL s") (Int 1) ∷
      at 3 (codes "DEL s") (Int 0) ∷
      at 3 (codes "XACK s g 1-0") (Int 0) ∷
      at 3 (codes "XPENDING s g") (Error NoGroup) ∷
      at 3 (codes "XLEN s") (Int 0) ∷
      at 3 (codes "XGROUP DESTROY s g") (Error NoKey) ∷
      at 3 (codes "DEL") (Error Arity) ∷
      [])
  -- a group that exists already is unchanged
  pub a_group_stays : IsPlayed (
      at 1 (codes "XADD s 1-0 f v") (id 1 0) ∷
      at 1 (codes "XGROUP CREATE s g 0") ok ∷
      at 2 (codes "XREADGROUP GROUP g c STREAMS s >") (array (stream (codes "s") (entry 1 0 ∷ []) ∷ [])) ∷
      at 3 (codes "XGROUP CREATE s g 0 MKSTREAM") (Error Busy) ∷
      at 3 (codes "XREADGROUP GROUP g d STREAMS s >") NullArray ∷
      at 3 (codes "XACK s g 1-0") (Int 1) ∷
      [])

-- what is left after the last one of something is removed
pub record Remains : Type 0 where
  -- a stream stays without an entry, with its top
  pub a_stream_without_an_entry : IsPlayed (
      at 1 (codes "XADD s 5-0 f v") (id 5 0) ∷
      at 1 (codes "XDEL s 5-0") (Int 1) ∷
      at 1 (codes "XRANGE s - +") (array []) ∷
      at 1 (codes "XADD s NOMKSTREAM 5-0 f v") (Error SmallId) ∷
      at 1 (codes "XGROUP CREATE s g $") ok ∷
      at 1 (codes "XADD s NOMKSTREAM 6-0 f v") (id 6 0) ∷
      at 1 (codes "XTRIM s MAXLEN 0") (Int 1) ∷
      at 1 (codes "XADD s NOMKSTREAM 6-0 f v") (Error SmallId) ∷
      at 1 (codes "XREADGROUP GROUP g c STREAMS s >") NullArray ∷
      at 1 (codes "XTRIM s MINID 9") (Int 0) ∷
      at 1 (codes "DEL s") (Int 1) ∷
      [])
  pub a_stream_that_an_addition_trims : IsPlayed (
      at 1 (codes "XADD s MAXLEN 0 5-0 f v") (id 5 0) ∷
      at 1 (codes "XLEN s") (Int 0) ∷
      at 1 (codes "XADD s NOMKSTREAM 5-0 f v") (Error SmallId) ∷
      at 1 (codes "XGROUP CREATE s g 0") ok ∷
      at 1 (codes "DEL s") (Int 1) ∷
      [])
  -- and without a group
  pub a_stream_without_a_group : IsPlayed (
      at 1 (codes "XGROUP CREATE s g $ MKSTREAM") ok ∷
      at 1 (codes "XGROUP DESTROY s g") (Int 1) ∷
      at 1 (codes "XGROUP DESTROY s g") (Int 0) ∷
      at 1 (codes "XADD s NOMKSTREAM 1-0 f v") (id 1 0) ∷
      at 1 (codes "XGROUP CREATE s g 0") ok ∷
      at 1 (codes "XGROUP DESTROY s g") (Int 1) ∷
      at 1 (codes "XRANGE s - +") (array (entry 1 0 ∷ [])) ∷
      at 1 (codes "XDEL s 1-0") (Int 1) ∷
      at 1 (codes "DEL s") (Int 1) ∷
      at 1 (codes "DEL s") (Int 0) ∷
      [])
  -- a group stays without a consumer, with its cursor
  pub a_group_without_a_consumer : IsPlayed (
      at 1 (codes "XADD s 1-0 f v") (id 1 0) ∷
      at 1 (codes "XGROUP CREATE s g 0") ok ∷
      at 2 (codes "XREADGROUP GROUP g c STREAMS s >") (array (stream (codes "s") (entry 1 0 ∷ []) ∷ [])) ∷
      at 2 (codes "XGROUP DELCONSUMER s g c") (Int 1) ∷
      at 2 (codes "XGROUP DELCONSUMER s g c") (Int 0) ∷
      at 2 (codes "XPENDING s g") (array (Int 0 ∷ NullBulk ∷ NullBulk ∷ NullArray ∷ [])) ∷
      at 2 (codes "XGROUP CREATE s g 0") (Error Busy) ∷
      at 2 (codes "XREADGROUP GROUP g d STREAMS s >") NullArray ∷
      at 2 (codes "XGROUP DESTROY s g") (Int 1) ∷
      [])
  -- a consumer stays without a pending entry
  pub a_consumer_without_a_row : IsPlayed (
      at 1 (codes "XADD s 1-0 f v") (id 1 0) ∷
      at 1 (codes "XADD s 2-0 f v") (id 2 0) ∷
      at 1 (codes "XGROUP CREATE s g 0") ok ∷
      at 2 (codes "XREADGROUP GROUP g c COUNT 1 STREAMS s >") (array (stream (codes "s") (entry 1 0 ∷ []) ∷ [])) ∷
      at 2 (codes "XACK s g 1-0") (Int 1) ∷
      at 2 (codes "XGROUP CREATECONSUMER s g c") (Int 0) ∷
      at 2 (codes "XREADGROUP GROUP g d COUNT 1 STREAMS s >") (array (stream (codes "s") (entry 2 0 ∷ []) ∷ [])) ∷
      at 2 (codes "XCLAIM s g c 0 2-0 JUSTID") (array (id 2 0 ∷ [])) ∷
      at 2 (codes "XGROUP CREATECONSUMER s g d") (Int 0) ∷
      at 2 (codes "XDEL s 2-0") (Int 1) ∷
      at 2 (codes "XAUTOCLAIM s g d 0 0") (array (id 0 0 ∷ array [] ∷ array (id 2 0 ∷ []) ∷ [])) ∷
      at 2 (codes "XGROUP CREATECONSUMER s g c") (Int 0) ∷
      at 2 (codes "XGROUP CREATE s g 0") (Error Busy) ∷
      [])
  -- the others stay
  pub the_other_group : IsPlayed (
      at 1 (codes "XADD s 1-0 f v") (id 1 0) ∷
      at 1 (codes "XGROUP CREATE s g 0") ok ∷
      at 1 (codes "XGROUP CREATE s h 0") ok ∷
      at 2 (codes "XREADGROUP GROUP h c STREAMS s >") (array (stream (codes "s") (entry 1 0 ∷ []) ∷ [])) ∷
      at 2 (codes "XGROUP DESTROY s g") (Int 1) ∷
      at 2 (codes "XPENDING s g") (Error NoGroup) ∷
      at 2 (codes "XACK s h 1-0") (Int 1) ∷
      [])
  pub the_other_consumer : IsPlayed (
      at 1 (codes "XADD s 1-0 f v") (id 1 0) ∷
      at 1 (codes "XADD s 2-0 f v") (id 2 0) ∷
      at 1 (codes "XGROUP CREATE s g 0") ok ∷
      at 2 (codes "XREADGROUP GROUP g c COUNT 1 STREAMS s >") (array (stream (codes "s") (entry 1 0 ∷ []) ∷ [])) ∷
      at 2 (codes "XREADGROUP GROUP g d STREAMS s >") (array (stream (codes "s") (entry 2 0 ∷ []) ∷ [])) ∷
      at 2 (codes "XGROUP DELCONSUMER s g c") (Int 1) ∷
      at 2 (codes "XPENDING s g")
      (array (Int 1 ∷ id 2 0 ∷ id 2 0 ∷ array (array (name (codes "d") ∷ number 1 ∷ []) ∷ []) ∷ [])) ∷
      at 2 (codes "XGROUP CREATECONSUMER s g d") (Int 0) ∷
      at 2 (codes "XGROUP CREATECONSUMER s g c") (Int 1) ∷
      [])
  -- a command for a missing key doesn't create it
  pub no_key_by_an_ask : IsPlayed (
      at 1 (codes "XDEL s 1") (Int 0) ∷
      at 1 (codes "XTRIM s MAXLEN 0") (Int 0) ∷
      at 1 (codes "XACK s g 1") (Int 0) ∷
      at 1 (codes "XREADGROUP GROUP g c STREAMS s >") (Error NoGroup) ∷
      at 1 (codes "XCLAIM s g c 0 1") (Error NoGroup) ∷
      at 1 (codes "XAUTOCLAIM s g c 0 0") (Error NoGroup) ∷
      at 1 (codes "XPENDING s g") (Error NoGroup) ∷
      at 1 (codes "XGROUP DELCONSUMER s g c") (Error NoKey) ∷
      at 1 (codes "XLEN s") (Int 0) ∷
      at 1 (codes "DEL s") (Int 0) ∷
      [])

pub record Reads : Type 0 where
  -- delivery without pending
  pub delivery_without_pending : IsPlayed (
      at 1 (codes "XADD s 1-0 f v") (id 1 0) ∷
      at 1 (codes "XADD s 2-0 f v") (id 2 0) ∷
      at 1 (codes "XGROUP CREATE s g 0") ok ∷
      at 2 (codes "XREADGROUP GROUP g c COUNT 1 NOACK STREAMS s >") (array (stream (codes "s") (entry 1 0 ∷ []) ∷ [])) ∷
      at 2 (codes "XPENDING s g") (array (Int 0 ∷ NullBulk ∷ NullBulk ∷ NullArray ∷ [])) ∷
      at 2 (codes "XREADGROUP GROUP g c COUNT 0 STREAMS s >") (array (stream (codes "s") (entry 2 0 ∷ []) ∷ [])) ∷
      [])
  -- a read of several streams is one event
  pub a_read_of_several_streams : IsPlayed (
      at 1 (codes "XADD s 1-0 f v") (id 1 0) ∷
      at 1 (codes "XGROUP CREATE s g 0") ok ∷
      at 1 (codes "XGROUP CREATE t g 0 MKSTREAM") ok ∷
      at 2 (codes "XREADGROUP GROUP g c STREAMS s u > >") (Error NoGroup) ∷
      at 2 (codes "XREADGROUP GROUP g c STREAMS s t > 0")
      (array (stream (codes "s") (entry 1 0 ∷ []) ∷ stream (codes "t") [] ∷ [])) ∷
      at 2 (codes "XREADGROUP GROUP g c STREAMS s t > >") NullArray ∷
      at 2 (codes "XREADGROUP GROUP g c STREAMS s s > >") (Error Unsupported) ∷
      [])
  -- several streams, each with its own count
  pub each_stream_has_its_count : IsPlayed (
      at 1 (codes "XADD s 1-0 f v") (id 1 0) ∷
      at 1 (codes "XADD s 2-0 f v") (id 2 0) ∷
      at 1 (codes "XGROUP CREATE s g 0") ok ∷
      at 1 (codes "XGROUP CREATE t g 0 MKSTREAM") ok ∷
      at 1 (codes "XADD t 7-0 f v") (id 7 0) ∷
      at 2 (codes "XREADGROUP GROUP g c COUNT 1 STREAMS t s > >")
      (array (stream (codes "t") (entry 7 0 ∷ []) ∷ stream (codes "s") (entry 1 0 ∷ []) ∷ [])) ∷
      at 2 (codes "XREADGROUP GROUP g c STREAMS t s > >") (array (stream (codes "s") (entry 2 0 ∷ []) ∷ [])) ∷
      at 2 (codes "XREADGROUP GROUP g c STREAMS t s 0 z") (Error BadId) ∷
      [])

pub record Reports : Type 0 where
  -- pending, the short form
  pub pending_in_short : IsPlayed (
      at 1 (codes "XADD s 1-0 f v") (id 1 0) ∷
      at 1 (codes "XADD s 2-0 f v") (id 2 0) ∷
      at 1 (codes "XADD s 3-0 f v") (id 3 0) ∷
      at 1 (codes "XGROUP CREATE s g 0") ok ∷
      at 2 (codes "XREADGROUP GROUP g b COUNT 2 STREAMS s >")
      (array (stream (codes "s") (entry 1 0 ∷ entry 2 0 ∷ []) ∷ [])) ∷
      at 2 (codes "XREADGROUP GROUP g a STREAMS s >") (array (stream (codes "s") (entry 3 0 ∷ []) ∷ [])) ∷
      at 2 (codes "XPENDING s g")
      (array (Int 3 ∷ id 1 0 ∷ id 3 0 ∷ array (array (name (codes "a") ∷ number 1 ∷ []) ∷
      array (name (codes "b") ∷ number 2 ∷ []) ∷ []) ∷ [])) ∷
      [])
  -- pending, the long form
  pub pending_in_rows : IsPlayed (
      at 1 (codes "XADD s 1-0 f v") (id 1 0) ∷
      at 1 (codes "XADD s 2-0 f v") (id 2 0) ∷
      at 1 (codes "XADD s 3-0 f v") (id 3 0) ∷
      at 1 (codes "XGROUP CREATE s g 0") ok ∷
      at 100 (codes "XREADGROUP GROUP g b COUNT 2 STREAMS s >")
      (array (stream (codes "s") (entry 1 0 ∷ entry 2 0 ∷ []) ∷ [])) ∷
      at 140 (codes "XREADGROUP GROUP g a STREAMS s >") (array (stream (codes "s") (entry 3 0 ∷ []) ∷ [])) ∷
      at 150 (codes "XPENDING s g IDLE 50 - + 10")
      (array (row (id 1 0) (codes "b") 50 1 ∷ row (id 2 0) (codes "b") 50 1 ∷ [])) ∷
      at 150 (codes "XPENDING s g - + 10 a") (array (row (id 3 0) (codes "a") 10 1 ∷ [])) ∷
      at 150 (codes "XPENDING s g - + 10 z") (array []) ∷
      at 150 (codes "XPENDING s g - + 0") (array []) ∷
      at 150 (codes "XPENDING s g (1-0 2 10") (array (row (id 2 0) (codes "b") 50 1 ∷ [])) ∷
      at 90 (codes "XPENDING s g - + 1 b") (array (row (id 1 0) (codes "b") 0 1 ∷ [])) ∷
      at 160 (codes "XREADGROUP GROUP g b COUNT 1 STREAMS s 1-0") (array (stream (codes "s") (entry 2 0 ∷ []) ∷ [])) ∷
      at 160 (codes "XPENDING z g") (Error NoGroup) ∷
      at 160 (codes "XGROUP CREATECONSUMER z g c") (Error NoKey) ∷
      [])
  -- COUNT counts the rows that are idle for long enough
  pub first_rows_that_are_idle : IsPlayed (
      at 1 (codes "XADD s 1-0 f v") (id 1 0) ∷
      at 1 (codes "XADD s 2-0 f v") (id 2 0) ∷
      at 1 (codes "XGROUP CREATE s g 0") ok ∷
      at 100 (codes "XREADGROUP GROUP g c STREAMS s >") (array (stream (codes "s") (entry 1 0 ∷ entry 2 0 ∷ []) ∷ [])) ∷
      at 110 (codes "XCLAIM s g d 0 1-0 JUSTID") (array (id 1 0 ∷ [])) ∷
      at 150 (codes "XPENDING s g IDLE 50 - + 1") (array (row (id 2 0) (codes "c") 50 1 ∷ [])) ∷
      at 150 (codes "XPENDING s g IDLE 40 - + 1") (array (row (id 1 0) (codes "d") 40 1 ∷ [])) ∷
      [])

pub record Edges : Type 0 where
  -- a count stops at the greatest one; RETRYCOUNT goes before JUSTID; IDLE after now is now; ids in the order written
  pub counts_stop : IsPlayed (
      at 1 (codes "XADD s 1-0 f v") (id 1 0) ∷
      at 1 (codes "XADD s 2-0 f v") (id 2 0) ∷
      at 1 (codes "XGROUP CREATE s g 0") ok ∷
      at 100 (codes "XREADGROUP GROUP g c STREAMS s >") (array (stream (codes "s") (entry 1 0 ∷ entry 2 0 ∷ []) ∷ [])) ∷
      at 100 (codes "XREADGROUP GROUP g c COUNT 1 STREAMS s 0") (array (stream (codes "s") (entry 1 0 ∷ []) ∷ [])) ∷
      at 101 (codes "XREADGROUP GROUP g c NOACK STREAMS s 1-0") (array (stream (codes "s") (entry 2 0 ∷ []) ∷ [])) ∷
      at 101 (codes "XPENDING s g - + 10") (array (row (id 1 0) (codes "c") 1 2 ∷ row (id 2 0) (codes "c") 0 2 ∷ [])) ∷
      at 101 (codes "XCLAIM s g d 0 2-0 1-0 2-0") (array (entry 2 0 ∷ entry 1 0 ∷ [])) ∷
      at 101 (codes "XCLAIM s g d 0 1-0 IDLE 999 RETRYCOUNT 9223372036854775807 JUSTID") (array (id 1 0 ∷ [])) ∷
      at 101 (codes "XPENDING s g - 1-0 10") (array (row (id 1 0) (codes "d") 101 9223372036854775807 ∷ [])) ∷
      at 101 (codes "XCLAIM s g d 0 1-0") (array (entry 1 0 ∷ [])) ∷
      at 101 (codes "XPENDING s g - 1-0 10") (array (row (id 1 0) (codes "d") 0 9223372036854775807 ∷ [])) ∷
      at 101 (codes "XRANGE s - 2-0") (array (entry 1 0 ∷ entry 2 0 ∷ [])) ∷
      at 101 (codes "XADD s 1-* f v") (Error SmallId) ∷
      [])
  -- every field; a new millisecond; a trim within one; ends that are left out; a start without its sequence; greetings
  pub ends_and_starts : IsPlayed (
      at 1 (codes "XADD s 1-1 f v g w") (id 1 1) ∷
      at 1 (codes "XRANGE s - +") (array (array (id 1 1 ∷
      array (name (codes "f") ∷ name (codes "v") ∷ name (codes "g") ∷ name (codes "w") ∷ []) ∷ []) ∷ [])) ∷
      at 1 (codes "XADD s 1-2 f v") (id 1 2) ∷
      at 1 (codes "XADD s 2-1 f v") (id 2 1) ∷
      at 1 (codes "XADD s 5-* f v") (id 5 0) ∷
      at 1 (codes "XADD s 5-* f v") (id 5 1) ∷
      at 1 (codes "XTRIM s MINID 1-2") (Int 1) ∷
      at 1 (codes "XRANGE s - (2-1") (array (entry 1 2 ∷ [])) ∷
      at 1 (codes "XRANGE s 5 5") (array (entry 5 0 ∷ entry 5 1 ∷ [])) ∷
      at 1 (codes "XGROUP CREATE s g 5") ok ∷
      at 1 (codes "XREADGROUP GROUP g c STREAMS s >") (array (stream (codes "s") (entry 5 1 ∷ []) ∷ [])) ∷
      at 1 (codes "XRANGE s - + COUNT -0") (Error NotInteger) ∷
      at 1 (codes "PING hello") (name (codes "hello")) ∷
      at 1 (codes "PING") (Simple Pong) ∷
      at 1 (codes "QUIT") ok ∷
      [])
  -- an empty message, key, field, group and consumer
  pub empty_words : IsPlayed (
      at 1 (codes "PING ") (name []) ∷
      at 1 (codes "XADD  1-1  ") (id 1 1) ∷
      at 1 (codes "XLEN ") (Int 1) ∷
      at 1 (codes "XGROUP CREATE   0") ok ∷
      at 1 (codes "XREADGROUP GROUP   STREAMS  >")
      (array (stream [] (array (id 1 1 ∷ array (name [] ∷ name [] ∷ []) ∷ []) ∷ []) ∷ [])) ∷
      at 1 (codes "XPENDING  ")
      (array (Int 1 ∷ id 1 1 ∷ id 1 1 ∷ array (array (name [] ∷ number 1 ∷ []) ∷ []) ∷ [])) ∷
      at 1 (codes "XPENDING   - + 1 ") (array (row (id 1 1) [] 0 1 ∷ [])) ∷
      at 1 (codes "XPENDING   - + 1 c") (array []) ∷
      at 1 (codes "XGROUP CREATECONSUMER   ") (Int 0) ∷
      at 1 (codes "XGROUP DELCONSUMER   ") (Int 1) ∷
      at 1 (codes "DEL ") (Int 1) ∷
      [])
