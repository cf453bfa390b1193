use Rattle.std.specs.Prelude.{◌≡◌, ℕ, List, [], Option, None, Ok}
use Rattle.std.proofs.Common.{refl, sym, subst, ◌∙◌, arith}
use Rattle.xs_session.specs.declared.places.Place.{Place}
use Rattle.xs_resp.specs.HeldBytes.{Held}
use Rattle.xs_connection.specs.declared.standing.Standing.{Standing}
use Rattle.xs_session.specs.declared.manner.Manner.{Manner}
use Rattle.xs_session.specs.declared.ending.Ending.{Ending}
use Rattle.xs_session.specs.Answers.{MayBeOpen}
use Rattle.xs_session.specs.Session.{IsAfter, IsFirst}
use Rattle.xs_session.proofs.examples.steps_of_sessions.Goals as goal

begins : (manner : Manner) (standing : Standing) (ended : Option Ending) (held : Held) (places : List Place) (owed : List ℕ) → ended ≡ None → held ≡ Ok [] → places ≡ [] → owed ≡ [] → IsFirst manner standing → IsAfter manner standing [] [] [] [] ended held places owed
begins manner standing ended held places owed goes holds none nothing new =
    subst (λ e. IsAfter manner standing [] [] [] [] e held places owed) (sym goes)
    (record { requests = []; front = []; rest = []; read_is = refl; spelled = refl; taken = []; first = standing; is_first = new; are_taken = (refl, refl); goes = (holds, refl); asked_is = refl; fits = omega arith; begun = []; answers = sym none; sent_is = sym nothing })

pub returns : goal.returns
returns c = record {
  begins_with_nothing = λ manner session new. (begins manner session.standing session.ended session.requests session.places _ new.ended new.requests new.places new.owed new.first, subst (λ a. MayBeOpen a []) (sym new.alone) tt);
  an_open_reply_is_not_gathered = λ session places gathered. let never = sym places ∙ gathered.0 in cc;
  a_read_beside_others = λ old new place places asks. let never = sym places ∙ (asks.gathered refl).0 in cc;
}
