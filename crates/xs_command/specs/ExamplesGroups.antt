-- Commands of groups: lines of words and the commands that they spell, by the pages of XGROUP, XREADGROUP, XACK,
-- XPENDING, XCLAIM and XAUTOCLAIM and the replies of a real Redis 7.0. Which fault is reported first is this server's
-- own.
use Rattle.std.specs.Prelude.{ℕ, Bool, true, false, List, [], ◌∷◌, map, codes, Option, Some, None}
use Rattle.xs_stream.specs.declared.id.Id.{Id}
use Rattle.xs_stream.specs.Id.{zero_id, greatest_id, greatest_number}
use Rattle.xs_stream.specs.Examples.{at}
use Rattle.xs_group.specs.declared.claims.ClaimTime.{ClaimTime}
use Rattle.xs_group.specs.declared.claims.ClaimTime.TheVariants as time
use Rattle.xs_resp.specs.declared.fault.Fault.TheVariants.{UnknownCommand, Syntax, BadId, NotInteger, Unsupported}
use Rattle.xs_command.specs.declared.command.Command.{Command}
use Rattle.xs_command.specs.declared.command.Command.TheVariants as command
use Rattle.xs_command.specs.declared.command.GroupStart.{GroupStart}
use Rattle.xs_command.specs.declared.command.GroupStart.TheVariants as start
use Rattle.xs_command.specs.declared.command.ReadOne.{ReadOne}
use Rattle.xs_command.specs.declared.command.ReadFrom.{ReadFrom}
use Rattle.xs_command.specs.declared.command.ReadFrom.TheVariants.{New, After}
use Rattle.xs_command.specs.Examples.{Spells, HasFault}

abbrev pub creates : GroupStart → Bool → Command
creates start make = command.GroupCreate (record { key = codes "k"; group = codes "g"; start = start; make = make })

abbrev pub each : List ℕ → ReadFrom → ReadOne
each key start = record { key = key; from = start }

abbrev pub blocks_group : Option ℕ → Option ℕ → Bool → List ReadOne → Command
blocks_group limit block noack reads =
    command.ReadGroup (record {
      group = codes "g";
      consumer = codes "c";
      limit = limit;
      block = block;
      noack = noack;
      reads = reads;
    })

abbrev pub reads_group : Option ℕ → Bool → List ReadOne → Command
reads_group limit noack reads = blocks_group limit None noack reads

abbrev pub tells : ℕ → Id → Id → ℕ → Option (List ℕ) → Command
tells min_idle low high limit consumer =
    command.PendingRows (record {
      key = codes "k";
      group = codes "g";
      min_idle = min_idle;
      range = record { low = low; high = high };
      limit = limit;
      consumer = consumer;
    })

abbrev pub claims : ℕ → ClaimTime → Option ℕ → Bool → List Id → Command
claims min_idle when retry just_id ids =
    command.Claim (record {
      key = codes "k";
      group = codes "g";
      consumer = codes "c";
      rule = record { min_idle = min_idle; when = when; retry = retry; just_id = just_id };
      ids = ids;
    })

abbrev pub claims_from : ℕ → Bool → Id → ℕ → Command
claims_from min_idle just_id start limit =
    command.AutoClaim (record {
      key = codes "k";
      group = codes "g";
      consumer = codes "c";
      rule = record { min_idle = min_idle; when = time.Now; retry = None; just_id = just_id };
      start = start;
      limit = limit;
    })

pub record Groups : Type 0 where
  pub at_the_top : Spells (codes "XGROUP CREATE k g $") (creates start.Top false)
  pub at_an_id : Spells (codes "XGROUP CREATE k g 5-3") (creates (start.At (at 5 3)) false)
  pub at_a_millisecond : Spells (codes "xgroup create k g 5") (creates (start.At (at 5 0)) false)
  pub at_the_least_id : Spells (codes "XGROUP CREATE k g 0 MKSTREAM") (creates (start.At zero_id) true)
  pub make_twice_own : Spells (codes "XGROUP CREATE k g $ mkstream MKSTREAM") (creates start.Top true)
  pub no_end_of_a_range : HasFault (codes "XGROUP CREATE k g -") BadId
  pub not_all : HasFault (codes "XGROUP CREATE k g +") BadId
  pub not_behind_an_id : HasFault (codes "XGROUP CREATE k g (1") BadId
  pub not_as_a_read : HasFault (codes "XGROUP CREATE k g >") BadId
  pub no_two_signs : HasFault (codes "XGROUP CREATE k g $$") BadId
  pub names_as_options :
      Spells (codes "XGROUP CREATE MKSTREAM MKSTREAM 5")
      (command.GroupCreate (record {
        key = codes "MKSTREAM";
        group = codes "MKSTREAM";
        start = start.At (at 5 0);
        make = false;
      }))
  pub names_as_subcommands :
      Spells (codes "XGROUP DESTROY CREATE DESTROY") (command.GroupDestroy (codes "CREATE") (codes "DESTROY"))
  pub another_option : HasFault (codes "XGROUP CREATE k g $ FORCE") Syntax
  pub words_left : HasFault (codes "XGROUP CREATE k g $ MKSTREAM 5") Syntax
  pub entries_read : HasFault (codes "XGROUP CREATE k g $ MKSTREAM entriesread 5") Unsupported
  pub id_before_an_option : HasFault (codes "XGROUP CREATE k g x ENTRIESREAD 5") BadId
  pub set_id_alone : HasFault (codes "xgroup setid") Unsupported
  pub another_subcommand : HasFault (codes "XGROUP CREATES k g $") UnknownCommand
  pub destroy : Spells (codes "xgroup destroy k g") (command.GroupDestroy (codes "k") (codes "g"))
  pub create_consumer :
      Spells (codes "xgroup createconsumer k g c") (command.ConsumerCreate (codes "k") (codes "g") (codes "c"))
  pub delete_consumer :
      Spells (codes "xgroup delconsumer k g c") (command.ConsumerDelete (codes "k") (codes "g") (codes "c"))

pub record Reads : Type 0 where
  pub new : Spells (codes "XREADGROUP GROUP g c STREAMS k >") (reads_group None false (each (codes "k") New ∷ []))
  pub at_most_three :
      Spells (codes "xreadgroup group g c count 3 streams k >") (reads_group (Some 3) false (each (codes "k") New ∷ []))
  pub at_most_one :
      Spells (codes "XREADGROUP COUNT 1 GROUP g c STREAMS k >") (reads_group (Some 1) false (each (codes "k") New ∷ []))
  pub no_limit_by_zero_own :
      Spells (codes "XREADGROUP GROUP g c COUNT 5 COUNT 0 STREAMS k >")
      (reads_group None false (each (codes "k") New ∷ []))
  pub no_limit_below_zero_own :
      Spells (codes "XREADGROUP GROUP g c COUNT -1 STREAMS k >") (reads_group None false (each (codes "k") New ∷ []))
  pub noack :
      Spells (codes "XREADGROUP GROUP g c NOACK STREAMS k >") (reads_group None true (each (codes "k") New ∷ []))
  pub noack_twice :
      Spells (codes "XREADGROUP GROUP g c NOACK NOACK STREAMS k >")
      (reads_group None true (each (codes "k") New ∷ []))
  pub noack_apart :
      Spells (codes "XREADGROUP NOACK GROUP g c COUNT 1 NOACK STREAMS k >")
      (reads_group (Some 1) true (each (codes "k") New ∷ []))
  pub no_block : Spells (codes "XREADGROUP GROUP g c STREAMS k 0") (blocks_group None None false (each (codes "k") (After (at 0 0)) ∷ []))
  pub the_last_block :
      Spells (codes "XREADGROUP block 7 GROUP g c BLOCK 9 STREAMS k >")
      (blocks_group None (Some 9) false (each (codes "k") New ∷ []))
  pub block_before_each_option :
      Spells (codes "XREADGROUP BLOCK 7 GROUP g c COUNT 2 NOACK STREAMS k >")
      (blocks_group (Some 2) (Some 7) true (each (codes "k") New ∷ []))
  pub block_behind_each_option :
      Spells (codes "XREADGROUP NOACK COUNT 2 GROUP g c BLOCK 7 STREAMS k >")
      (blocks_group (Some 2) (Some 7) true (each (codes "k") New ∷ []))
  pub noack_and_then_options :
      Spells (codes "XREADGROUP noack COUNT 2 block 0 GROUP h d GROUP g c STREAMS k 5")
      (blocks_group (Some 2) (Some 0) true (each (codes "k") (After (at 5 0)) ∷ []))
  pub seven_options :
      Spells (codes "XREADGROUP GROUP h d BLOCK 1 COUNT 9 BLOCK 0 NOACK GROUP g c COUNT 2 STREAMS k >")
      (blocks_group (Some 2) (Some 0) true (each (codes "k") New ∷ []))
  pub three_streams :
      Spells (codes "XREADGROUP GROUP g c STREAMS b a c > 1-2 0")
      (reads_group None false (each (codes "b") New ∷ each (codes "a") (After (at 1 2))
      ∷ each (codes "c") (After (at 0 0)) ∷ []))
  pub the_greatest_id_own :
      Spells (codes "XREADGROUP GROUP g c STREAMS k 18446744073709551615-18446744073709551615")
      (reads_group None false (each (codes "k") (After greatest_id) ∷ []))
  pub names_as_options :
      Spells (codes "XREADGROUP GROUP GROUP STREAMS STREAMS STREAMS >")
      (command.ReadGroup (record {
        group = codes "GROUP";
        consumer = codes "STREAMS";
        limit = None;
        block = None;
        noack = false;
        reads = each (codes "STREAMS") New ∷ [];
      }))
  pub keys_in_another_case :
      Spells (codes "XREADGROUP GROUP g c STREAMS a A > >")
      (reads_group None false (each (codes "a") New ∷ each (codes "A") New ∷ []))
  pub from_the_top : HasFault (codes "XREADGROUP GROUP g c STREAMS k $") BadId
  pub from_the_least_end : HasFault (codes "XREADGROUP GROUP g c STREAMS k -") BadId
  pub from_the_greatest_end : HasFault (codes "XREADGROUP GROUP g c STREAMS k +") BadId
  pub from_behind_an_id : HasFault (codes "XREADGROUP GROUP g c STREAMS k (1") BadId
  pub from_two_signs : HasFault (codes "XREADGROUP GROUP g c STREAMS k >>") BadId
  pub second_from_nowhere : HasFault (codes "XREADGROUP GROUP g c STREAMS a b > x") BadId
  pub first_and_third_alike : HasFault (codes "XREADGROUP GROUP g c STREAMS a b a > > >") Unsupported
  pub alike_before_an_id : HasFault (codes "XREADGROUP GROUP g c STREAMS a a x y") Unsupported
  pub no_start : HasFault (codes "XREADGROUP GROUP g c NOACK STREAMS k") Syntax
  pub nothing_to_read : HasFault (codes "XREADGROUP GROUP g c COUNT 1 STREAMS") Syntax
  pub no_streams : HasFault (codes "XREADGROUP GROUP g c COUNT 1 NOACK") Syntax
  pub another_option : HasFault (codes "XREADGROUP GROUP g c FORCE STREAMS k >") Syntax
  pub another_word_for_streams : HasFault (codes "XREADGROUP GROUP g c STREAM k >") Syntax
  pub no_group : HasFault (codes "XREADGROUP COUNT 1 STREAMS a b c d") Syntax
  pub no_consumer : HasFault (codes "XREADGROUP COUNT 1 BLOCK 0 GROUP g") Syntax
  pub count_is_none : HasFault (codes "XREADGROUP GROUP g c COUNT x STREAMS k >") NotInteger
  pub block_is_none : HasFault (codes "XREADGROUP GROUP g c BLOCK x STREAMS k >") NotInteger
  pub block_past_the_greatest :
      HasFault (codes "XREADGROUP GROUP g c BLOCK 9223372036854775808 STREAMS k >") NotInteger
  pub second_block_below_zero : HasFault (codes "XREADGROUP GROUP g c BLOCK 7 BLOCK -1 STREAMS k >") NotInteger

pub record Pending : Type 0 where
  pub acknowledged :
      Spells (codes "xack k g 3 1-2 3-0") (command.Ack (codes "k") (codes "g") (at 3 0 ∷ at 1 2 ∷ at 3 0 ∷ []))
  pub second_is_none : HasFault (codes "XACK k g 1 x") BadId
  pub the_least_end : HasFault (codes "XACK k g -") BadId
  pub the_greatest_end : HasFault (codes "XACK k g +") BadId
  pub behind_an_id : HasFault (codes "XACK k g (1") BadId
  pub the_least_end_behind_an_id : HasFault (codes "XACK k g 1 -") BadId
  pub summary : Spells (codes "xpending k g") (command.Pending (codes "k") (codes "g"))
  pub rows : Spells (codes "XPENDING k g - + 10") (tells 0 zero_id greatest_id 10 None)
  pub rows_of_a_consumer :
      Spells (codes "XPENDING k g 5 6 1 c") (tells 0 (at 5 0) (at 6 greatest_number) 1 (Some (codes "c")))
  pub rows_left_out : Spells (codes "XPENDING k g (5-3 (6-0 1") (tells 0 (at 5 4) (at 5 greatest_number) 1 None)
  pub rows_that_are_idle : Spells (codes "XPENDING k g idle 7 - + 10") (tells 7 zero_id greatest_id 10 None)
  pub idle_below_zero_own :
      Spells (codes "XPENDING k g IDLE -7 - + 10 c") (tells 0 zero_id greatest_id 10 (Some (codes "c")))
  pub rows_of_a_consumer_named_idle :
      Spells (codes "XPENDING k g - + 10 IDLE") (tells 0 zero_id greatest_id 10 (Some (codes "IDLE")))
  pub idle_rows_of_a_consumer_named_idle :
      Spells (codes "XPENDING k g IDLE 7 - + 10 IDLE") (tells 7 zero_id greatest_id 10 (Some (codes "IDLE")))
  pub four_words : HasFault (codes "XPENDING k g -") Syntax
  pub five_words : HasFault (codes "XPENDING k g x y") Syntax
  pub eight_words_without_idle : HasFault (codes "XPENDING k g - + 1 c d") Syntax
  pub idle_and_too_few : HasFault (codes "XPENDING k g IDLE 7 - +") Syntax
  pub idle_and_too_many : HasFault (codes "XPENDING k g IDLE 7 - + 10 c d") Syntax
  pub low_is_none : HasFault (codes "XPENDING k g x + 10") BadId
  pub high_is_none : HasFault (codes "XPENDING k g - x 10") BadId
  pub count_is_none : HasFault (codes "XPENDING k g - + x") NotInteger
  pub idle_is_none : HasFault (codes "XPENDING k g IDLE x - + 10") NotInteger

pub record Claims : Type 0 where
  pub one : Spells (codes "XCLAIM k g c 7 1") (claims 7 time.Now None false (at 1 0 ∷ []))
  pub three : Spells (codes "xclaim k g c 0 3 1-2 3-0") (claims 0 time.Now None false (at 3 0 ∷ at 1 2 ∷ at 3 0 ∷ []))
  pub min_idle_below_zero_own : Spells (codes "XCLAIM k g c -7 1") (claims 0 time.Now None false (at 1 0 ∷ []))
  pub an_idle_time :
      Spells (codes "XCLAIM k g c 7 1 2 idle 9") (claims 7 (time.Idle 9) None false (at 1 0 ∷ at 2 0 ∷ []))
  pub idle_below_zero_own : Spells (codes "XCLAIM k g c 7 1 IDLE -9") (claims 7 (time.Idle 0) None false (at 1 0 ∷ []))
  pub a_time : Spells (codes "XCLAIM k g c 7 1 time 9") (claims 7 (time.At 9) None false (at 1 0 ∷ []))
  pub time_zero : Spells (codes "XCLAIM k g c 7 1 TIME 0") (claims 7 (time.At 0) None false (at 1 0 ∷ []))
  pub time_below_zero_own :
      Spells (codes "XCLAIM k g c 7 1 IDLE 5 TIME -9") (claims 7 time.Now None false (at 1 0 ∷ []))
  pub the_last_time : Spells (codes "XCLAIM k g c 7 1 IDLE 5 TIME 9") (claims 7 (time.At 9) None false (at 1 0 ∷ []))
  pub retry : Spells (codes "XCLAIM k g c 7 1 retrycount 0") (claims 7 time.Now (Some 0) false (at 1 0 ∷ []))
  pub the_last_retry :
      Spells (codes "XCLAIM k g c 7 1 RETRYCOUNT 5 RETRYCOUNT 9") (claims 7 time.Now (Some 9) false (at 1 0 ∷ []))
  pub just_ids : Spells (codes "XCLAIM k g c 7 1 justid") (claims 7 time.Now None true (at 1 0 ∷ []))
  pub just_ids_twice : Spells (codes "XCLAIM k g c 7 1 JUSTID JUSTID") (claims 7 time.Now None true (at 1 0 ∷ []))
  pub just_ids_apart :
      Spells (codes "XCLAIM k g c 7 1 JUSTID IDLE 5 JUSTID") (claims 7 (time.Idle 5) None true (at 1 0 ∷ []))
  pub the_last_of_two_times : Spells (codes "XCLAIM k g c 7 1 TIME 5 TIME 9") (claims 7 (time.At 9) None false (at 1 0 ∷ []))
  pub the_last_of_two_idle_times :
      Spells (codes "XCLAIM k g c 7 1 IDLE 5 IDLE 9") (claims 7 (time.Idle 9) None false (at 1 0 ∷ []))
  pub a_consumer_named_justid :
      Spells (codes "XCLAIM k g JUSTID 7 1")
      (command.Claim (record {
        key = codes "k";
        group = codes "g";
        consumer = codes "JUSTID";
        rule = record { min_idle = 7; when = time.Now; retry = None; just_id = false };
        ids = at 1 0 ∷ [];
      }))
  pub options_in_another_order :
      Spells (codes "XCLAIM k g c 7 1 JUSTID RETRYCOUNT 5 IDLE 9") (claims 7 (time.Idle 9) (Some 5) true (at 1 0 ∷ []))
  pub and_in_a_third :
      Spells (codes "XCLAIM k g c 7 1 RETRYCOUNT 5 TIME 9 JUSTID") (claims 7 (time.At 9) (Some 5) true (at 1 0 ∷ []))
  pub seven_options :
      Spells (codes "XCLAIM k g c 7 1 IDLE 1 TIME 2 IDLE 3 RETRYCOUNT 4 RETRYCOUNT 5 JUSTID IDLE 9")
      (claims 7 (time.Idle 9) (Some 5) true (at 1 0 ∷ []))
  pub seven_ids :
      Spells (codes "XCLAIM k g c 7 1 2 3 4 5 6 7")
      (claims 7 time.Now None false (map (λ n. at n 0) (1 ∷ 2 ∷ 3 ∷ 4 ∷ 5 ∷ 6 ∷ 7 ∷ [])))
  pub min_idle_is_none : HasFault (codes "XCLAIM k g c x y") NotInteger
  pub another_option : HasFault (codes "XCLAIM k g c 7 1 x") Syntax
  pub no_id_by_a_least_end_own : HasFault (codes "XCLAIM k g c 7 -") BadId
  pub no_id_by_a_bracket_own : HasFault (codes "XCLAIM k g c 7 (1") BadId
  pub a_least_end_is_no_option : HasFault (codes "XCLAIM k g c 7 1 -") Syntax
  pub an_id_behind_options : HasFault (codes "XCLAIM k g c 7 1 JUSTID 2") Syntax
  pub no_time : HasFault (codes "XCLAIM k g c 7 1 TIME") Syntax
  pub time_is_none : HasFault (codes "XCLAIM k g c 7 1 TIME x") NotInteger
  pub idle_is_none : HasFault (codes "XCLAIM k g c 7 1 IDLE x") NotInteger
  pub retry_below_zero : HasFault (codes "XCLAIM k g c 7 1 RETRYCOUNT -1") NotInteger
  pub last_id : HasFault (codes "XCLAIM k g c 7 1 LASTID 5") Unsupported
  pub force_behind_others : HasFault (codes "XCLAIM k g c 7 1 JUSTID force") Unsupported

pub record Scans : Type 0 where
  pub from_the_least : Spells (codes "XAUTOCLAIM k g c 7 0") (claims_from 7 false (at 0 0) 100)
  pub from_the_least_end : Spells (codes "XAUTOCLAIM k g c 7 -") (claims_from 7 false (at 0 0) 100)
  pub from_the_greatest_end : Spells (codes "XAUTOCLAIM k g c 7 +") (claims_from 7 false greatest_id 100)
  pub from_a_millisecond : Spells (codes "xautoclaim k g c 7 5") (claims_from 7 false (at 5 0) 100)
  pub min_idle_below_zero_own : Spells (codes "XAUTOCLAIM k g c -7 5-3") (claims_from 0 false (at 5 3) 100)
  pub at_most_one : Spells (codes "XAUTOCLAIM k g c 7 5-3 count 1") (claims_from 7 false (at 5 3) 1)
  pub at_most_two_own : Spells (codes "XAUTOCLAIM k g c 7 5-3 COUNT 1 COUNT 2") (claims_from 7 false (at 5 3) 2)
  pub just_ids : Spells (codes "XAUTOCLAIM k g c 7 5-3 justid COUNT 9") (claims_from 7 true (at 5 3) 9)
  pub just_ids_twice : Spells (codes "XAUTOCLAIM k g c 7 5-3 JUSTID JUSTID") (claims_from 7 true (at 5 3) 100)
  pub just_ids_apart : Spells (codes "XAUTOCLAIM k g c 7 5-3 JUSTID COUNT 9 JUSTID") (claims_from 7 true (at 5 3) 9)
  pub six_options :
      Spells (codes "XAUTOCLAIM k g c 7 5-3 COUNT 9 COUNT 8 COUNT 7 COUNT 6 JUSTID COUNT 1")
      (claims_from 7 true (at 5 3) 1)
  pub just_ids_behind : Spells (codes "XAUTOCLAIM k g c 7 5-3 COUNT 9 JUSTID") (claims_from 7 true (at 5 3) 9)
  pub count_below_zero : HasFault (codes "XAUTOCLAIM k g c 7 5-3 COUNT -1") NotInteger
  pub no_count : HasFault (codes "XAUTOCLAIM k g c 7 5-3 COUNT") Syntax
  pub min_idle_is_none : HasFault (codes "XAUTOCLAIM k g c x y") NotInteger
  pub start_is_none : HasFault (codes "XAUTOCLAIM k g c 7 x") BadId
  pub nothing_above : HasFault (codes "XAUTOCLAIM k g c 7 (+") BadId
  pub not_from_the_top : HasFault (codes "XAUTOCLAIM k g c 7 $") BadId
  pub another_option : HasFault (codes "XAUTOCLAIM k g c 7 5-3 FORCE") Syntax
