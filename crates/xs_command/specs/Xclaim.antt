-- XCLAIM.
use Rattle.std.specs.Prelude.{ℕ, true, false, codes, Some, None, Ok, Err, if◌then◌else◌}
use Rattle.xs_group.specs.declared.claims.ClaimTime.{ClaimTime}
use Rattle.xs_group.specs.declared.claims.ClaimTime.TheVariants as time
use Rattle.xs_group.specs.declared.claims.ClaimRule.{ClaimRule}
use Rattle.xs_resp.specs.declared.fault.Fault.TheVariants.{Syntax, Unsupported}
use Rattle.xs_command.specs.declared.command.Command.{Command}
use Rattle.xs_command.specs.declared.command.Command.TheVariants as command
use Rattle.xs_command.specs.declared.integer.Integer.{Integer}
use Rattle.xs_command.specs.declared.integer.Integer.TheVariants.{Negative, Natural}
use Rattle.xs_command.specs.Integer.{at_least_zero}
use Rattle.xs_command.specs.Words.{Reading, ◌>>=◌, value, is_word, word, integer, natural}
use Rattle.xs_command.specs.Options.{OptionOf, many, option_with}
use Rattle.xs_command.specs.Syntax.{only, ids}

-- the rule without options
abbrev pub plain_rule : ℕ → ClaimRule
plain_rule min_idle = record { min_idle = min_idle; when = time.Now; retry = None; just_id = false }

-- a moment that was given; a negative one is that of the claim
abbrev pub claim_time_of : Integer → ClaimTime
claim_time_of Negative = time.Now
claim_time_of (Natural millis) = time.At millis

abbrev pub with_time : ClaimRule → ClaimTime → ClaimRule
with_time rule when = record { min_idle = rule.min_idle; when = when; retry = rule.retry; just_id = rule.just_id }

abbrev pub with_retry : ClaimRule → ℕ → ClaimRule
with_retry rule count =
    record { min_idle = rule.min_idle; when = rule.when; retry = Some count; just_id = rule.just_id }

abbrev pub with_just_id : ClaimRule → ClaimRule
with_just_id rule = record { min_idle = rule.min_idle; when = rule.when; retry = rule.retry; just_id = true }

-- { IDLE ms, TIME ms, RETRYCOUNT n, JUSTID }; the last of IDLE and TIME counts, and FORCE and LASTID aren't supported
unfoldable pub claim_option : OptionOf ClaimRule
claim_option rule name words =
    if is_word (codes "idle") name
    then option_with (integer >>= λ idle. value (with_time rule (time.Idle (at_least_zero idle)))) words
    else (if is_word (codes "time") name
    then option_with (integer >>= λ millis. value (with_time rule (claim_time_of millis))) words
    else (if is_word (codes "retrycount") name
    then option_with (natural >>= λ count. value (with_retry rule count)) words
    else (if is_word (codes "justid") name then Ok (with_just_id rule, Some words)
    else (if is_word (codes "force") name then Err Unsupported
    else (if is_word (codes "lastid") name then Err Unsupported else Ok (rule, None))))))

-- XCLAIM key group consumer minidle id [id ..] { IDLE ms, TIME ms, RETRYCOUNT n, JUSTID }
unfoldable pub xclaim : Reading Command
xclaim = do
  key ← word
  group ← word
  consumer ← word
  idle ← integer
  ids ← ids
  rule ← many claim_option (plain_rule (at_least_zero idle))
  only (command.Claim (record { key = key; group = group; consumer = consumer; rule = rule; ids = ids })) Syntax
