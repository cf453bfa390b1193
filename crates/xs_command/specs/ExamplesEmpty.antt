-- Lines with empty words, which are between two spaces or after a last one, as a real Redis 7.0 reads such words: keys,
-- groups, consumers, messages and fields may be empty; numbers, ids, names and options may not.
use Rattle.std.specs.Prelude.{true, false, [], ◌∷◌, codes, Some, None}
use Rattle.xs_stream.specs.declared.add.AddId.TheVariants.{Auto}
use Rattle.xs_stream.specs.Id.{zero_id, greatest_id}
use Rattle.xs_stream.specs.Examples.{at}
use Rattle.xs_group.specs.declared.claims.ClaimTime.TheVariants as time
use Rattle.xs_resp.specs.declared.fault.Fault.TheVariants.{UnknownCommand, Syntax, BadId, NotInteger}
use Rattle.xs_command.specs.declared.command.Command.TheVariants as command
use Rattle.xs_command.specs.declared.command.GroupStart.TheVariants as start
use Rattle.xs_command.specs.declared.command.ReadFrom.TheVariants.{New}
use Rattle.xs_command.specs.Examples.{Spells, HasFault}

pub record EmptyWords : Type 0 where
  pub message : Spells (codes "PING ") (command.Ping (Some []))
  pub key : Spells (codes "XLEN ") (command.Len [])
  pub first_of_two_keys : Spells (codes "DEL  a") (command.DropKeys ([] ∷ codes "a" ∷ []))
  pub key_and_field :
      Spells (codes "XADD  *  ")
      (command.Add (record {
        key = [];
        make = true;
        trim = None;
        id = Auto;
        fields = record { name = []; value = [] } ∷ [];
      }))
  pub group :
      Spells (codes "XGROUP CREATE k  0")
      (command.GroupCreate (record { key = codes "k"; group = []; start = start.At zero_id; make = false }))
  pub consumer : Spells (codes "XGROUP CREATECONSUMER k g ") (command.ConsumerCreate (codes "k") (codes "g") [])
  pub key_group_and_consumer_of_a_read :
      Spells (codes "XREADGROUP GROUP   STREAMS  >")
      (command.ReadGroup (record {
        group = [];
        consumer = [];
        limit = None;
        block = None;
        noack = false;
        reads = record { key = []; from = New } ∷ [];
      }))
  pub consumer_of_rows :
      Spells (codes "XPENDING k g - + 10 ")
      (command.PendingRows (record {
        key = codes "k";
        group = codes "g";
        min_idle = 0;
        range = record { low = zero_id; high = greatest_id };
        limit = 10;
        consumer = Some [];
      }))
  pub consumer_of_a_claim :
      Spells (codes "XCLAIM k g  0 1")
      (command.Claim (record {
        key = codes "k";
        group = codes "g";
        consumer = [];
        rule = record { min_idle = 0; when = time.Now; retry = None; just_id = false };
        ids = at 1 0 ∷ [];
      }))
  pub no_name : HasFault (codes " k") UnknownCommand
  pub no_subcommand : HasFault (codes "XGROUP  k g") UnknownCommand
  pub no_id_to_add : HasFault (codes "XADD k  f v") BadId
  pub no_id_to_delete : HasFault (codes "XDEL k ") BadId
  pub no_id_to_acknowledge : HasFault (codes "XACK k g ") BadId
  pub no_low_end : HasFault (codes "XRANGE k  +") BadId
  pub no_high_end : HasFault (codes "XRANGE k - ") BadId
  pub no_start : HasFault (codes "XAUTOCLAIM k g c 0 ") BadId
  pub no_start_of_a_group : HasFault (codes "XGROUP CREATE k g ") BadId
  pub no_count : HasFault (codes "XRANGE k - + COUNT ") NotInteger
  pub no_count_of_rows : HasFault (codes "XPENDING k g - + ") NotInteger
  pub no_idle_time : HasFault (codes "XCLAIM k g c  1") NotInteger
  pub no_length : HasFault (codes "XTRIM k MAXLEN ") NotInteger
  pub no_option : HasFault (codes "XRANGE k - + ") Syntax
  pub no_option_of_a_trim : HasFault (codes "XTRIM k  5") Syntax
