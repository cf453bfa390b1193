use Rattle.std.proofs.Common.{◌≡◌, ◌++◌, take, drop}
use Rattle.std.specs.List.{flat_map}
use Rattle.xs_resp.specs.ReplyText.{token_text}
use Rattle.xs_resp.specs.Marks.{strings_length, tokens_in}
use Rattle.xs_resp.proofs.writing.write_tokens.Given as goal

-- the texts of the tokens so far, and the strings of those that are left
abbrev pub invariant-loop-mark : goal.invariant-loop-mark
invariant-loop-mark l = record {
  written : l.out.items ≡ l.fn.out.items ++ flat_map token_text (tokens_in (take l.mark-index l.marks) l.strings);
  behind : l.rest ≡ drop (strings_length (take l.mark-index l.marks)) l.strings;
}
