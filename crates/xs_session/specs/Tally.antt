-- How replies are counted.
use Rattle.std.specs.Prelude.{Bool, true, false}
use Rattle.xs_resp.specs.declared.reply.Reply.{Reply}
use Rattle.xs_resp.specs.declared.reply.Reply.TheVariants.{Error, ErrorText}

abbrev pub is_error : Reply → Bool
is_error (Error fault) = true
is_error (ErrorText text) = true
is_error _ = false
