-- A call of a lane keeps its rings and its number.
use Rattle.std.specs.Prelude.{Result, Ok, Err, MatchResult}
use Rattle.std.proofs.Common.{◌∙◌, ap, inl, inr}
use Rattle.xs_resp.specs.declared.reply.Reply.{Reply}
use Rattle.xs_command.specs.declared.command.Command.{Command}
use Rattle.xs_desk.specs.Callers.{Caller}
use Rattle.xs_desk.specs.KeptRings.{KeepsSide}
use Rattle.xs_desk.specs.Asking.{Takes, Submits, Asks, AskFails}

pub side_again : (c m c' : Caller) → KeepsSide c m → KeepsSide m c' → KeepsSide c c'
side_again c m c' a b = (b.0 ∙ a.0, b.1 ∙ a.1, b.2 ∙ a.2)

takes-side : (c c' : Caller) → Takes c c' → KeepsSide c c'
takes-side c c' t = (ap (λ (x : Caller). x.lane) t.1, ap (λ (x : Caller). x.calls) t.1, ap (λ (x : Caller). x.answers) t.1)

submits-side : (c : Caller) (command : Command) (c' : Caller) → Submits c command c' → KeepsSide c c'
submits-side c command c' t = (ap (λ (x : Caller). x.lane) t.1, ap (λ (x : Caller). x.calls) t.1, ap (λ (x : Caller). x.answers) t.1)

pub ask_keeps_side : {E : Type 0} (c : Caller) (command : Command) (c' : Caller) (r : Result Reply E)
    → MatchResult r (λ reply. Asks c command reply c') (λ _. AskFails c command c') → KeepsSide c c'
ask_keeps_side c command c' (Ok reply) m =
    let s = submits-side c command m.0 m.1 in
    let t = m.2.2 in
    side_again c m.0 c' s (ap (λ (x : Caller). x.lane) t, ap (λ (x : Caller). x.calls) t, ap (λ (x : Caller). x.answers) t)
ask_keeps_side c command c' (Err e) (inl t) = takes-side c c' t
ask_keeps_side c command c' (Err e) (inr s) = submits-side c command c' s
