-- The texts of errors.
use Rattle.std.specs.Prelude.{ℕ, List, codes}
use Rattle.xs_resp.specs.declared.fault.Fault.{Fault}
use Rattle.xs_resp.specs.declared.fault.Fault.TheVariants.{UnknownCommand, Arity, Syntax, BadId, NotInteger, ZeroId}
use Rattle.xs_resp.specs.declared.fault.Fault.TheVariants.{SmallId, Exhausted, NoKey, MissingKey, Busy, NoGroup}
use Rattle.xs_resp.specs.declared.fault.Fault.TheVariants.{Unsupported, Memory, Protocol}

-- the text of an error reply, without its marker and its line end
unfoldable pub fault_text : Fault → List ℕ
fault_text UnknownCommand = codes "ERR unknown command"
fault_text Arity = codes "ERR wrong number of arguments"
fault_text Syntax = codes "ERR syntax error"
fault_text BadId = codes "ERR Invalid stream ID specified as stream command argument"
fault_text NotInteger = codes "ERR value is not an integer or out of range"
fault_text ZeroId = codes "ERR The ID specified in XADD must be greater than 0-0"
fault_text SmallId = codes "ERR The ID specified in XADD is equal or smaller than the target stream top item"
fault_text Exhausted = codes "ERR The stream has exhausted the last possible ID, unable to add more items"
fault_text NoKey = codes "ERR The XGROUP subcommand requires the key to exist"
fault_text MissingKey = codes "ERR no such key"
fault_text Busy = codes "BUSYGROUP Consumer Group name already exists"
fault_text NoGroup = codes "NOGROUP No such key or consumer group"
fault_text Unsupported = codes "ERR not supported by this server"
fault_text Memory = codes "OOM out of memory"
fault_text Protocol = codes "ERR Protocol error"
