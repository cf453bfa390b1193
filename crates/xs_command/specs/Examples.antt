-- Lines of words and the commands that they spell, by the Redis documentation and this server's rules.
use Rattle.std.specs.Prelude.{◌≡◌, ℕ, ◌==◌, true, false, List, [], ◌∷◌, ◌++◌, codes, Some, None, Ok, Err, if◌then◌else◌}
use Rattle.xs_stream.specs.declared.add.AddId.TheVariants as add
use Rattle.xs_stream.specs.declared.trim.Trim.TheVariants as trim
use Rattle.xs_group.specs.declared.claims.ClaimTime.TheVariants as time
use Rattle.xs_resp.specs.declared.fault.Fault.{Fault}
use Rattle.xs_resp.specs.declared.fault.Fault.TheVariants.{UnknownCommand, Arity, Syntax, BadId, NotInteger, ZeroId}
use Rattle.xs_resp.specs.declared.fault.Fault.TheVariants.{Unsupported}
use Rattle.xs_command.specs.declared.command.Command.{Command}
use Rattle.xs_command.specs.declared.command.Command.TheVariants as command
use Rattle.xs_command.specs.declared.command.GroupStart.TheVariants.{Top}
use Rattle.xs_command.specs.declared.command.Inspection.TheVariants as inspection
use Rattle.xs_command.specs.declared.command.ReadFrom.TheVariants.{New, After}
use Rattle.xs_command.specs.Read.{command_of_words}

-- the words of a text, given the first bytes of the first one
abbrev pub words_behind : List ℕ → List ℕ → List (List ℕ)
words_behind word [] = word ∷ []
words_behind word (byte ∷ text) =
    if byte == 32 then word ∷ words_behind [] text else words_behind (word ++ byte ∷ []) text

-- the words between the spaces
abbrev pub line : List ℕ → List (List ℕ)
line text = words_behind [] text

-- the line reads as this command
abbrev pub Spells : List ℕ → Command → Type 0
Spells text command = command_of_words (line text) ≡ Ok command

-- the first fault of the line
abbrev pub HasFault : List ℕ → Fault → Type 0
HasFault text fault = command_of_words (line text) ≡ Err fault

pub record StreamExamples : Type 0 where
  pub names : HasFault (codes "XREAD k 0") UnknownCommand
  pub ping : Spells (codes "ping") (command.Ping None)
  pub ping_message : Spells (codes "PING hello") (command.Ping (Some (codes "hello")))
  pub ping_too_long : HasFault (codes "PING a b") Arity
  pub quit : Spells (codes "quit now") command.Quit
  pub add :
      Spells (codes "XADD k MAXLEN ~ 5 NOMKSTREAM 7-* f v")
      (command.Add (record {
        key = codes "k";
        make = false;
        trim = Some (trim.MaxLen 5);
        id = add.AutoSeq 7;
        fields = record { name = codes "f"; value = codes "v" } ∷ [];
      }))
  pub add_zero : HasFault (codes "XADD k 0-0 f v g") ZeroId
  pub add_odd : HasFault (codes "XADD k * f v g") Arity
  pub add_second_trim : HasFault (codes "XADD k MAXLEN 3 MINID x * f v") Syntax
  pub add_limit : HasFault (codes "XADD k MAXLEN 3 LIMIT 4 * f v") Unsupported
  pub delete :
      Spells (codes "XDEL k 1-2 3") (command.Delete (codes "k") (record { ms = 1; seq = 2 }
      ∷ record { ms = 3; seq = 0 } ∷ []))
  pub delete_no_id : HasFault (codes "XDEL k 1-2 *") BadId
  pub trim_to :
      Spells (codes "XTRIM k MINID = 4") (command.TrimTo (codes "k") (trim.MinId (record { ms = 4; seq = 0 })))
  pub trim_negative : HasFault (codes "XTRIM k MAXLEN -1") NotInteger
  pub len : Spells (codes "XLEN k") (command.Len (codes "k"))
  pub len_too_short : HasFault (codes "XLEN") Arity
  pub range :
      Spells (codes "XRANGE k (1-1 5 COUNT 2")
      (command.Scan (record {
        key = codes "k";
        range = record { low = record { ms = 1; seq = 2 }; high = record { ms = 5; seq = 18446744073709551615 } };
        limit = Some 2;
        reversed = false;
      }))
  pub range_no_end : HasFault (codes "XRANGE k - (0-0") BadId
  pub reversed :
      Spells (codes "XREVRANGE k 5-5 -")
      (command.Scan (record {
        key = codes "k";
        range = record { low = record { ms = 0; seq = 0 }; high = record { ms = 5; seq = 5 } };
        limit = None;
        reversed = true;
      }))
  pub reversed_count : HasFault (codes "XREVRANGE k 5 - COUNT 07") NotInteger
  pub drop_keys : Spells (codes "DEL a b") (command.DropKeys (codes "a" ∷ codes "b" ∷ []))
  pub drop_none : HasFault (codes "DEL") Arity
  pub existence :
      Spells (codes "EXISTS a a b") (command.Inspect (inspection.Existence (codes "a" ∷ codes "a" ∷ codes "b" ∷ [])))
  pub existence_of_nothing : HasFault (codes "EXISTS") Arity
  pub key_type : Spells (codes "type k") (command.Inspect (inspection.KeyType (codes "k")))
  pub key_type_of_two : HasFault (codes "TYPE a b") Arity
  pub key_count : Spells (codes "DbSize") (command.Inspect inspection.KeyCount)
  pub key_count_too_long : HasFault (codes "DBSIZE x") Arity

pub record GroupExamples : Type 0 where
  pub info_alone : HasFault (codes "XINFO") Arity
  pub info_another : HasFault (codes "XINFO FOO k") UnknownCommand
  pub info_groups : Spells (codes "xinfo groups k") (command.Inspect (inspection.Groups (codes "k")))
  pub info_groups_too_short : HasFault (codes "XINFO GROUPS") Arity
  pub info_groups_too_long : HasFault (codes "XINFO GROUPS k g") Arity
  pub info_stream : Spells (codes "XINFO Stream k") (command.Inspect (inspection.Stream (codes "k")))
  pub info_stream_in_full :
      Spells (codes "XINFO STREAM k full") (command.Inspect (inspection.StreamInFull (codes "k") (Some 10)))
  pub info_stream_counted :
      Spells (codes "XINFO STREAM k FULL Count 3") (command.Inspect (inspection.StreamInFull (codes "k") (Some 3)))
  pub info_stream_of_all :
      Spells (codes "XINFO STREAM k FULL COUNT 0") (command.Inspect (inspection.StreamInFull (codes "k") None))
  pub info_stream_counted_below_zero :
      Spells (codes "XINFO STREAM k FULL COUNT -3") (command.Inspect (inspection.StreamInFull (codes "k") (Some 10)))
  pub info_stream_counted_by_a_word : HasFault (codes "XINFO STREAM k FULL COUNT x") NotInteger
  pub info_stream_counted_by_nothing : HasFault (codes "XINFO STREAM k FULL COUNT") Syntax
  pub info_stream_counted_twice : HasFault (codes "XINFO STREAM k FULL COUNT 1 COUNT 1") Syntax
  pub info_stream_with_another_word : HasFault (codes "XINFO STREAM k FULL x") Syntax
  pub info_stream_too_long : HasFault (codes "XINFO STREAM k x") Syntax
  pub info_consumers :
      Spells (codes "XINFO CONSUMERS k g") (command.Inspect (inspection.Consumers (codes "k") (codes "g")))
  pub info_consumers_too_short : HasFault (codes "XINFO CONSUMERS k") Arity
  pub info_consumers_too_long : HasFault (codes "XINFO CONSUMERS k g c") Arity
  pub alone : HasFault (codes "XGROUP") Arity
  pub set_id : HasFault (codes "XGROUP SETID k g x") Unsupported
  pub another : HasFault (codes "XGROUP HELP") UnknownCommand
  pub create :
      Spells (codes "xgroup create k g $ mkstream")
      (command.GroupCreate (record { key = codes "k"; group = codes "g"; start = Top; make = true }))
  pub create_entries_read : HasFault (codes "XGROUP CREATE k g $ ENTRIESREAD 3") Unsupported
  pub destroy : Spells (codes "XGROUP DESTROY k g") (command.GroupDestroy (codes "k") (codes "g"))
  pub destroy_too_long : HasFault (codes "XGROUP DESTROY k g c") Arity
  pub create_consumer :
      Spells (codes "XGROUP CREATECONSUMER k g c") (command.ConsumerCreate (codes "k") (codes "g") (codes "c"))
  pub create_consumer_too_short : HasFault (codes "XGROUP CREATECONSUMER k g") Arity
  pub delete_consumer :
      Spells (codes "XGROUP DELCONSUMER k g c") (command.ConsumerDelete (codes "k") (codes "g") (codes "c"))
  pub delete_consumer_too_short : HasFault (codes "XGROUP DELCONSUMER k g") Arity
  pub read :
      Spells (codes "XREADGROUP BLOCK 9 GROUP g c COUNT 0 STREAMS a b > 1-2")
      (command.ReadGroup (record {
        group = codes "g";
        consumer = codes "c";
        limit = None;
        block = Some 9;
        noack = false;
        reads = record { key = codes "a"; from = New }
            ∷ record { key = codes "b"; from = After (record { ms = 1; seq = 2 }) } ∷ [];
      }))
  pub read_no_group : HasFault (codes "XREADGROUP NOACK NOACK NOACK STREAMS k >") Syntax
  pub read_block : HasFault (codes "XREADGROUP GROUP g c BLOCK -1 STREAMS k >") NotInteger
  pub read_twice : HasFault (codes "XREADGROUP GROUP g c STREAMS a a > >") Unsupported
  pub read_uneven : HasFault (codes "XREADGROUP GROUP g c STREAMS a b >") Syntax
  pub acknowledge : Spells (codes "XACK k g 5") (command.Ack (codes "k") (codes "g") (record { ms = 5; seq = 0 } ∷ []))
  pub acknowledge_no_id : HasFault (codes "XACK k g >") BadId
  pub pending : Spells (codes "XPENDING k g") (command.Pending (codes "k") (codes "g"))
  pub pending_rows :
      Spells (codes "XPENDING k g IDLE 9 1-1 2-2 -3 c")
      (command.PendingRows (record {
        key = codes "k";
        group = codes "g";
        min_idle = 9;
        range = record { low = record { ms = 1; seq = 1 }; high = record { ms = 2; seq = 2 } };
        limit = 0;
        consumer = Some (codes "c");
      }))
  pub pending_number : HasFault (codes "XPENDING k g IDLE x - +") Syntax
  pub claim :
      Spells (codes "XCLAIM k g c -5 1 TIME 3 IDLE 4 RETRYCOUNT 2 JUSTID")
      (command.Claim (record {
        key = codes "k";
        group = codes "g";
        consumer = codes "c";
        rule = record { min_idle = 0; when = time.Idle 4; retry = Some 2; just_id = true };
        ids = record { ms = 1; seq = 0 } ∷ [];
      }))
  pub claim_no_id : HasFault (codes "XCLAIM k g c 0 JUSTID") BadId
  pub claim_force : HasFault (codes "XCLAIM k g c 0 1 FORCE") Unsupported
  pub auto_claim :
      Spells (codes "XAUTOCLAIM k g c 7 (5-5 JUSTID")
      (command.AutoClaim (record {
        key = codes "k";
        group = codes "g";
        consumer = codes "c";
        rule = record { min_idle = 7; when = time.Now; retry = None; just_id = true };
        start = record { ms = 5; seq = 6 };
        limit = 100;
      }))
  pub auto_claim_count : HasFault (codes "XAUTOCLAIM k g c 7 - COUNT 0") NotInteger
