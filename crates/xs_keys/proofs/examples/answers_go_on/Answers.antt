use Rattle.std.proofs.Common.{ℕ, [], ◌∷◌, None, refl, inl}
use Rattle.xs_keys.specs.Event.{History}
use Rattle.xs_keys.specs.Terms.{Ping, Simple, Pong}
use Rattle.xs_keys.specs.Content.{IsContent}
use Rattle.xs_keys.specs.EachReply.{JoinsOrIsLeftOut}
use Rattle.xs_keys.specs.ExamplesHeadline.{ping}
use Rattle.xs_bytes.specs.SortedMap.{empty, get, insert_by, remove, change}
use Rattle.xs_keys.proofs.examples.answers_go_on.Goals as goal

-- over a past that left nothing
pings : (now : ℕ) (past : History) → IsContent empty past → JoinsOrIsLeftOut past now (Ping None) (Simple Pong) (ping now ∷ past)
pings now past left = inl (record { formed = tt; content = empty; left_by = left; answer_is = refl; reported = tt; unchanged = λ e. refl }, refl)

pub returns : goal.returns
unfolding empty get insert_by remove change
returns c = record {
  an_error = refl;
  a_number = refl;
  nothing = refl;
  follows = pings 5 (ping 4 ∷ []) (λ name. λ group. tt);
  none = refl;
  two = (ping 4 ∷ [], pings 4 [] (λ name. λ group. tt), (ping 5 ∷ ping 4 ∷ [], pings 5 (ping 4 ∷ []) (λ name. λ group. tt), refl));
  not_one_for_two = λ h. h.2;
  not_two_for_one = λ h. h.2;
}
