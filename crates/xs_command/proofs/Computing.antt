-- What examples compute: how words are read as a command.
use Rattle.xs_command.specs.Words.{is_word, word, behind_sign, integer, natural, id_of_word, low, high}
use Rattle.xs_command.specs.Options.{up_to}
use Rattle.xs_command.specs.CommandName.{name_of}
use Rattle.xs_command.specs.Syntax.{only, leading_ids, ids}
use Rattle.xs_command.specs.Xgroup.{xgroup, subcommand_of, create, destroy, create_consumer, delete_consumer}
use Rattle.xs_command.specs.Xgroup.{create_option, group_start}
use Rattle.xs_command.specs.Streams.{streams, each_from, is_distinct, read_from}
use Rattle.xs_command.specs.Xreadgroup.{xreadgroup, read_option, reader}
use Rattle.xs_command.specs.Xack.{xack}
use Rattle.xs_command.specs.Xpending.{xpending, form, idle_rows, pending_rows, optional}
use Rattle.xs_command.specs.Xclaim.{xclaim, claim_option}
use Rattle.xs_command.specs.Xautoclaim.{xautoclaim, auto_claim_option}
use Rattle.xs_command.specs.Xadd.{xadd, add_option}
use Rattle.xs_command.specs.AddId.{add_id}
use Rattle.xs_command.specs.Fields.{field, pairs, fields}
use Rattle.xs_command.specs.Xdel.{xdel}
use Rattle.xs_command.specs.Xlen.{xlen}
use Rattle.xs_command.specs.Xtrim.{xtrim}
use Rattle.xs_command.specs.Trim.{trim_option, max_len, min_id}
use Rattle.xs_command.specs.Xrange.{xrange, xrevrange, scan_option}
use Rattle.xs_command.specs.Ping.{ping, quit}
use Rattle.xs_command.specs.Del.{del}
use Rattle.xs_command.specs.Xinfo.{xinfo, groups, stream, stream_form, stream_in_full, stream_counted, consumers}
use Rattle.xs_command.specs.Xinfo as info
use Rattle.xs_command.specs.Exists.{exists}
use Rattle.xs_command.specs.KeyType.{key_type}
use Rattle.xs_command.specs.Dbsize.{dbsize}
use Rattle.xs_command.specs.Read.{command_of_words}

-- the definitions that examples compute
unfoldable pub example_functions : Type 0
unfolding is_word word behind_sign integer natural id_of_word low high up_to name_of only leading_ids ids xgroup subcommand_of create destroy create_consumer delete_consumer create_option group_start streams each_from is_distinct read_from xreadgroup read_option reader xack xpending form idle_rows pending_rows optional xclaim claim_option xautoclaim auto_claim_option xadd add_option add_id field pairs fields xdel xlen xtrim trim_option max_len min_id xrange xrevrange scan_option ping quit del xinfo groups stream stream_form stream_in_full stream_counted consumers info.subcommand_of exists key_type dbsize command_of_words
example_functions = Unit {0}
