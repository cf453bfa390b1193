use Rattle.std.proofs.Common.{◌≡◌, Some, Ok, sym, ap, ◌∙◌, subst}
use Rattle.xs_resp.specs.State.{held_in}
use Rattle.xs_resp.specs.Progress.{Reaches}
use Rattle.xs_resp.proofs.HeldBytes.{ready-reached}
use Rattle.xs_resp.proofs.requests.Requests.has_next.Goals as goal
use Rattle.xs_resp.proofs.requests.Requests.has_next.Goals.{in-Between, in-Within}

pub returns-in-Ok-Some : goal.returns-in-Ok-Some
returns-in-Ok-Some c =
    let bytes = c.self.inside.input in
    let here : c.bytes.result.now ≡ bytes = c.bytes.ensures in
    let open' : held_in c.self.inside.state bytes ≡ Ok bytes = elim c.match-self.branch [ in-Between w ↦ ap (λ s. held_in s bytes) w.in-Between.is | in-Within w ↦ ap (λ s. held_in s bytes) w.in-Within.is ] in
    let reaches = rw c.in-Ok-Some.field-0-is at c.in-Ok-Some.ensures in
    let reached = subst (λ b. Reaches b (Ok (Some c.in-Ok-Some.reached))) here reaches in
    ready-reached c.args.self.now bytes c.in-Ok-Some.reached (sym c.self.view_is ∙ open') reached.0 reached.1
