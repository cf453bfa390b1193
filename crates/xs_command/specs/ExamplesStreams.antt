-- Commands of streams: lines of words and the commands that they spell, by the pages of XADD, XDEL, XTRIM, XRANGE,
-- XREVRANGE and DEL and the replies of a real Redis 7.0. Which fault is reported first is this server's own.
use Rattle.std.specs.Prelude.{ℕ, true, false, List, [], ◌∷◌, codes, Option, Some, None}
use Rattle.xs_stream.specs.declared.id.Id.{Id}
use Rattle.xs_stream.specs.declared.field.Field.{Field}
use Rattle.xs_stream.specs.declared.range.Range.{Range}
use Rattle.xs_stream.specs.declared.add.AddId.{AddId}
use Rattle.xs_stream.specs.declared.add.AddId.TheVariants.{Auto, AutoSeq, Exact}
use Rattle.xs_stream.specs.declared.trim.Trim.{Trim}
use Rattle.xs_stream.specs.declared.trim.Trim.TheVariants.{MaxLen, MinId}
use Rattle.xs_stream.specs.Id.{zero_id, greatest_id, greatest_number}
use Rattle.xs_stream.specs.Examples.{at}
use Rattle.xs_resp.specs.declared.fault.Fault.TheVariants.{Arity, Syntax, BadId, NotInteger, ZeroId, Unsupported}
use Rattle.xs_command.specs.declared.command.Command.{Command}
use Rattle.xs_command.specs.declared.command.Command.TheVariants as command
use Rattle.xs_command.specs.Examples.{Spells, HasFault}

abbrev pub field : List ℕ → List ℕ → Field
field name value = record { name = name; value = value }

-- an addition that creates a missing key, of the field f with the value v
abbrev pub adds : Option Trim → AddId → Command
adds trim id =
    let fields : List Field = field (codes "f") (codes "v") ∷ [] in
    command.Add (record { key = codes "k"; make = true; trim = trim; id = id; fields = fields })

-- the same, to a stream that exists
abbrev pub adds_to_a_stream : Option Trim → Command
adds_to_a_stream trim =
    let fields : List Field = field (codes "f") (codes "v") ∷ [] in
    command.Add (record { key = codes "k"; make = false; trim = trim; id = Auto; fields = fields })

abbrev pub between : Id → Id → Range
between low high = record { low = low; high = high }

abbrev pub scans : Id → Id → Option ℕ → Command
scans low high limit =
    command.Scan (record { key = codes "k"; range = between low high; limit = limit; reversed = false })

abbrev pub scans_back : Id → Id → Option ℕ → Command
scans_back low high limit =
    command.Scan (record { key = codes "k"; range = between low high; limit = limit; reversed = true })

pub record Additions : Type 0 where
  pub plain : Spells (codes "XADD k * f v") (adds None Auto)
  pub two_fields :
      Spells (codes "XADD k 1-1 f v g w")
      (command.Add (record {
        key = codes "k";
        make = true;
        trim = None;
        id = Exact (at 1 1);
        fields = field (codes "f") (codes "v") ∷ field (codes "g") (codes "w") ∷ [];
      }))
  pub three_fields_one_twice :
      Spells (codes "XADD k 5 f v g w f x")
      (command.Add (record {
        key = codes "k";
        make = true;
        trim = None;
        id = Exact (at 5 0);
        fields = field (codes "f") (codes "v") ∷ field (codes "g") (codes "w") ∷ field (codes "f") (codes "x") ∷ [];
      }))
  pub no_stream_made : Spells (codes "xadd k nomkstream * f v") (adds_to_a_stream None)
  pub no_stream_made_before_a_trim :
      Spells (codes "XADD k NOMKSTREAM MAXLEN 5 * f v") (adds_to_a_stream (Some (MaxLen 5)))
  pub no_stream_made_before_a_trim_by_id :
      Spells (codes "XADD k NOMKSTREAM MINID 5 * f v") (adds_to_a_stream (Some (MinId (at 5 0))))
  pub seven_options :
      Spells
      (codes "XADD k NOMKSTREAM NOMKSTREAM NOMKSTREAM NOMKSTREAM NOMKSTREAM NOMKSTREAM MAXLEN 5 * f v")
      (adds_to_a_stream (Some (MaxLen 5)))
  pub maxlen : Spells (codes "XADD k MAXLEN 0 * f v") (adds (Some (MaxLen 0)) Auto)
  pub maxlen_exact : Spells (codes "XADD k MAXLEN = 5 * f v") (adds (Some (MaxLen 5)) Auto)
  pub minid : Spells (codes "XADD k minid 5 3-* f v") (adds (Some (MinId (at 5 0))) (AutoSeq 3))
  pub minid_about_exact_own : Spells (codes "XADD k MINID ~ 5-2 * f v") (adds (Some (MinId (at 5 2))) Auto)
  pub key_and_field_named_as_options :
      Spells (codes "XADD NOMKSTREAM * MAXLEN 5")
      (command.Add (record {
        key = codes "NOMKSTREAM";
        make = true;
        trim = None;
        id = Auto;
        fields = field (codes "MAXLEN") (codes "5") ∷ [];
      }))
  pub no_stream_made_behind_a_trim_by_id :
      Spells (codes "XADD k MINID 5 NOMKSTREAM * f v") (adds_to_a_stream (Some (MinId (at 5 0))))
  pub no_stream_made_on_both_sides :
      Spells (codes "XADD k NOMKSTREAM MINID 5 NOMKSTREAM * f v") (adds_to_a_stream (Some (MinId (at 5 0))))
  pub fields_named_as_options : HasFault (codes "XADD k * MAXLEN 5 f") Arity
  pub maxlen_twice : HasFault (codes "XADD k MAXLEN 3 MAXLEN 3 * f v") Syntax
  pub minid_twice : HasFault (codes "XADD k MINID 3 MAXLEN 3 * f v") Syntax
  pub maxlen_below_zero : HasFault (codes "XADD k MAXLEN -1 * f v") NotInteger
  pub maxlen_is_an_id : HasFault (codes "XADD k MAXLEN 3-1 * f v") NotInteger
  pub minid_is_none : HasFault (codes "XADD k MINID x * f v") BadId
  pub minid_is_an_end : HasFault (codes "XADD k MINID - * f v") BadId
  pub minid_behind_an_id : HasFault (codes "XADD k MINID (5 * f v") BadId
  pub two_signs : HasFault (codes "XADD k MAXLEN = = 5 * f v") NotInteger
  pub limit_alone : HasFault (codes "XADD k LIMIT 5 * f v") Unsupported
  pub no_id : HasFault (codes "XADD k f v g w") BadId
  pub the_zero_id : HasFault (codes "XADD k 0 f v") ZeroId
  pub id_before_the_number_of_fields : HasFault (codes "XADD k x f v g") BadId

pub record Removals : Type 0 where
  pub three_ids : Spells (codes "XDEL k 3 1-2 3-0") (command.Delete (codes "k") (at 3 0 ∷ at 1 2 ∷ at 3 0 ∷ []))
  pub one_id : Spells (codes "xdel k 1-2") (command.Delete (codes "k") (at 1 2 ∷ []))
  pub first_is_none : HasFault (codes "XDEL k x 1") BadId
  pub last_is_none : HasFault (codes "XDEL k 1 2 -") BadId
  pub the_least_end : HasFault (codes "XDEL k -") BadId
  pub the_greatest_end : HasFault (codes "XDEL k +") BadId
  pub behind_an_id : HasFault (codes "XDEL k (1") BadId
  pub maxlen : Spells (codes "XTRIM k MAXLEN 5") (command.TrimTo (codes "k") (MaxLen 5))
  pub maxlen_about : Spells (codes "xtrim k maxlen ~ 0") (command.TrimTo (codes "k") (MaxLen 0))
  pub minid : Spells (codes "XTRIM k MINID 5-1") (command.TrimTo (codes "k") (MinId (at 5 1)))
  pub no_threshold : HasFault (codes "XTRIM k MAXLEN =") Syntax
  pub two_signs : HasFault (codes "XTRIM k MINID = ~ 5") BadId
  pub no_trim : HasFault (codes "XTRIM k 5 6") Syntax
  pub no_stream_made_before_a_trim : HasFault (codes "XTRIM k NOMKSTREAM MAXLEN 5") Syntax
  pub no_stream_made_behind_a_trim : HasFault (codes "XTRIM k MAXLEN 5 NOMKSTREAM") Syntax
  pub threshold_is_an_end : HasFault (codes "XTRIM k MINID +") BadId
  pub two_trims : HasFault (codes "XTRIM k MAXLEN 5 MINID 6") Syntax
  pub words_left : HasFault (codes "XTRIM k MAXLEN 5 6") Syntax
  pub limit : HasFault (codes "XTRIM k MAXLEN 5 LIMIT 6") Unsupported
  pub no_id : HasFault (codes "XTRIM k MINID = x") BadId
  pub one_key : Spells (codes "DEL a") (command.DropKeys (codes "a" ∷ []))
  pub keys_in_another_case : Spells (codes "DEL a A") (command.DropKeys (codes "a" ∷ codes "A" ∷ []))
  pub a_key_named_as_the_command : Spells (codes "DEL DEL") (command.DropKeys (codes "DEL" ∷ []))
  pub three_keys : Spells (codes "del b a b") (command.DropKeys (codes "b" ∷ codes "a" ∷ codes "b" ∷ []))

pub record Scans : Type 0 where
  pub all : Spells (codes "XRANGE k - +") (scans zero_id greatest_id None)
  pub of_a_millisecond : Spells (codes "XRANGE k 5 5") (scans (at 5 0) (at 5 greatest_number) None)
  pub one_id : Spells (codes "XRANGE k 5-3 5-3") (scans (at 5 3) (at 5 3) None)
  pub ends_left_out : Spells (codes "XRANGE k (5-3 (6-0") (scans (at 5 4) (at 5 greatest_number) None)
  pub at_most_none_own : Spells (codes "XRANGE k - + COUNT 0") (scans zero_id greatest_id (Some 0))
  pub below_zero_own : Spells (codes "XRANGE k - + COUNT -5") (scans zero_id greatest_id (Some 0))
  pub the_last_count_own : Spells (codes "xrange k - + count 1 COUNT 2") (scans zero_id greatest_id (Some 2))
  pub six_counts :
      Spells (codes "XRANGE k - + COUNT 9 COUNT 8 COUNT 7 COUNT 6 COUNT 5 COUNT 1") (scans zero_id greatest_id (Some 1))
  pub ends_the_other_way : Spells (codes "XRANGE k + -") (scans greatest_id zero_id None)
  pub low_is_none : HasFault (codes "XRANGE k x +") BadId
  pub low_is_the_top : HasFault (codes "XRANGE k $ +") BadId
  pub high_is_a_read : HasFault (codes "XRANGE k - >") BadId
  pub high_is_none : HasFault (codes "XRANGE k - x") BadId
  pub nothing_above : HasFault (codes "XRANGE k (18446744073709551615-18446744073709551615 +") BadId
  pub no_count : HasFault (codes "XRANGE k - + COUNT") Syntax
  pub count_is_none : HasFault (codes "XRANGE k - + COUNT x") NotInteger
  pub another_option : HasFault (codes "XRANGE k - + LIMIT 5") Syntax
  pub all_back : Spells (codes "XREVRANGE k + -") (scans_back zero_id greatest_id None)
  pub high_first : Spells (codes "xrevrange k 6 5 COUNT 1") (scans_back (at 5 0) (at 6 greatest_number) (Some 1))
  pub ends_left_out_back : Spells (codes "XREVRANGE k (6-0 (5-3") (scans_back (at 5 4) (at 5 greatest_number) None)
  pub high_is_none_back : HasFault (codes "XREVRANGE k x -") BadId
  pub low_is_none_back : HasFault (codes "XREVRANGE k + x") BadId
  pub another_option_back : HasFault (codes "XREVRANGE k + - 5") Syntax
