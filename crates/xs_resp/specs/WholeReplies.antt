-- Which replies are complete: the header of no array gives more or fewer items than the array has.
use Rattle.std.specs.Prelude.{List, [], ◌∷◌}
use Rattle.xs_resp.specs.declared.reply.Reply.{Reply}
use Rattle.xs_resp.specs.declared.reply.Reply.TheVariants.{Array, Opening}
use Rattle.xs_resp.specs.Whole.{AreItems}

abbrev pub IsWholeReply : Reply → Type 0
IsWholeReply (Array items) = AreItems items.count items.tokens
IsWholeReply (Opening n) = ⊥
IsWholeReply other = Unit {0}

abbrev pub AreWhole : List Reply → Type 0
AreWhole [] = Unit {0}
AreWhole (r ∷ rs) = IsWholeReply r × AreWhole rs
