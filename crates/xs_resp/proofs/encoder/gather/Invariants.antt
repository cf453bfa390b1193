use Rattle.std.proofs.Common.{◌≡◌, ◌-◌, ◌≤◌, ◌++◌, length, take, drop, vec_capacity}
use Rattle.std.specs.List.{flat_map}
use Rattle.xs_resp.specs.ReplyText.{token_text}
use Rattle.xs_resp.specs.LeftToWrite.{strings_of}
use Rattle.xs_resp.proofs.encoder.gather.Given as goal

-- what was appended and the tokens that are left are the tokens at the start
abbrev pub invariant-loop-taken : goal.invariant-loop-taken
invariant-loop-taken l = record {
  room : 65536 ≤ vec_capacity l.out;
  within : l.taken ≤ length l.tokens;
  strings : l.at ≡ length (strings_of (take l.taken l.tokens));
  text : l.out.items ++ flat_map token_text (drop l.taken l.tokens)
      ≡ l.fn.out.items ++ flat_map token_text (drop l.start l.tokens);
}

abbrev pub decreases-loop-taken : goal.decreases-loop-taken
decreases-loop-taken l = length l.tokens - l.taken
