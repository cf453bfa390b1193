-- XAUTOCLAIM.
use Rattle.std.specs.Prelude.{ℕ, true, false, codes, nat_lt, Option, Some, None, Ok, if◌then◌else◌}
use Rattle.xs_group.specs.declared.claims.ClaimTime.TheVariants as time
use Rattle.xs_resp.specs.declared.fault.Fault.TheVariants.{Syntax, NotInteger}
use Rattle.xs_command.specs.declared.command.Command.{Command}
use Rattle.xs_command.specs.declared.command.Command.TheVariants as command
use Rattle.xs_command.specs.declared.xautoclaim.AutoClaimOptions.{AutoClaimOptions}
use Rattle.xs_command.specs.Integer.{at_least_zero}
use Rattle.xs_command.specs.Words.{Reading, ◌>>=◌, value, or_fault, is_word, word, integer, natural, low}
use Rattle.xs_command.specs.Options.{OptionOf, many, option_with}
use Rattle.xs_command.specs.Syntax.{only}

-- a number of at least 1
abbrev pub positive : ℕ → Option ℕ
positive n = if nat_lt 0 n then Some n else None

-- without COUNT it is 100
abbrev pub no_claim_options : AutoClaimOptions
no_claim_options = record { limit = 100; just_id = false }

-- { COUNT n, JUSTID }; the number is at least 1
unfoldable pub auto_claim_option : OptionOf AutoClaimOptions
auto_claim_option options name words =
    if is_word (codes "count") name
    then option_with (natural >>= λ n. or_fault (positive n) NotInteger >>= λ limit. value (record {
      limit = limit;
      just_id = options.just_id;
    })) words
    else (if is_word (codes "justid") name then Ok (record { limit = options.limit; just_id = true }, Some words)
    else Ok (options, None))

-- XAUTOCLAIM key group consumer minidle start { COUNT n, JUSTID }
unfoldable pub xautoclaim : Reading Command
xautoclaim = do
  key ← word
  group ← word
  consumer ← word
  idle ← integer
  start ← low
  options ← many auto_claim_option no_claim_options
  only (command.AutoClaim (record {
    key = key;
    group = group;
    consumer = consumer;
    rule = record { min_idle = at_least_zero idle; when = time.Now; retry = None; just_id = options.just_id };
    start = start;
    limit = options.limit;
  })) Syntax
