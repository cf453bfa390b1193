-- What was asked and has no reply yet.
use Rattle.std.proofs.Common.{◌≡◌, ℕ, zero, suc, ◌≤◌, Bool, true, false, List, [], ◌∷◌, ◌++◌, length, drop}
use Rattle.std.proofs.Common.{sym, subst, refl, arith, inl, inr, length-append}
use Rattle.std.proofs.lemmas.List.{append-nil, drop-append-le, length-drop}
use Rattle.std.proofs.Math.ListN.{drop_of_length-le}
use Rattle.std.specs.List.{AllByRecursion}
use Rattle.xs_command.specs.declared.command.Command.{Command}
use Rattle.xs_resp.specs.declared.reply.Reply.{Reply}
use Rattle.xs_session.specs.Answers.{is_alone, MayBeOpen}

abbrev IsSmall : Command → Type 0
IsSmall command = is_alone command ≡ false

all-more : (waiting : List Command) (command : Command) → AllByRecursion IsSmall waiting → IsSmall command → AllByRecursion IsSmall (waiting ++ command ∷ [])
all-more [] command all one = (one, tt)
all-more (other ∷ waiting) command all one = (all.0, all-more waiting command all.1 one)

all-behind : (waiting : List Command) → AllByRecursion IsSmall waiting → AllByRecursion IsSmall (drop 1 waiting)
all-behind [] all = tt
all-behind (command ∷ waiting) all = all.1

drop-one : (n : ℕ) (asked : List Command) → drop (suc n) asked ≡ drop 1 (drop n asked)
drop-one zero asked = refl
drop-one (suc n) [] = refl
drop-one (suc n) (command ∷ asked) = drop-one n asked

open-none : (alone : Bool) (n : ℕ) (asked : List Command) → length asked ≤ n → MayBeOpen alone (drop n asked)
open-none true n asked all = inr (omega (arith, length-drop n asked))
open-none false n asked all = subst (λ (o : List Command). AllByRecursion IsSmall o) (sym (drop_of_length-le asked all)) tt

pub open-free : (alone : Bool) (n : ℕ) (asked : List Command) → MayBeOpen alone (drop n asked) → (alone ≡ true → length asked ≤ n) → MayBeOpen false (drop n asked)
open-free true n asked few none = open-none false n asked (none refl)
open-free false n asked all none = all

-- nothing more is asked
pub open-same : (alone : Bool) (n : ℕ) (asked : List Command) → MayBeOpen alone (drop n asked) → MayBeOpen alone (drop n (asked ++ []))
open-same alone n asked waiting = subst (λ (a : List Command). MayBeOpen alone (drop n a)) (sym (append-nil asked)) waiting

-- one more is asked
pub open-more : (alone : Bool) (n : ℕ) (asked : List Command) (command : Command) → n ≤ length asked → MayBeOpen false (drop n asked) → alone ≡ is_alone command → (is_alone command ≡ true → length asked ≤ n)
    → MayBeOpen alone (drop n (asked ++ command ∷ []))
open-more true n asked command within all is none =
    let few = none (sym is) in
    inr (omega (arith, few, length-drop n (asked ++ command ∷ []), length-append asked (command ∷ [])))
open-more false n asked command within all is none =
    subst (λ (o : List Command). AllByRecursion IsSmall o) (sym (drop-append-le n asked (command ∷ []) within)) (all-more (drop n asked) command all (sym is))

fewer-small : (n : ℕ) (asked : List Command) → AllByRecursion IsSmall (drop n asked) → AllByRecursion IsSmall (drop (suc n) asked)
fewer-small n asked all = subst (λ (o : List Command). AllByRecursion IsSmall o) (sym (drop-one n asked)) (all-behind (drop n asked) all)

fewer : (alone : Bool) (n : ℕ) (asked : List Command) → MayBeOpen alone (drop n asked) → MayBeOpen alone (drop (suc n) asked)
fewer true n asked (inl all) = inl (fewer-small n asked all)
fewer true n asked (inr few) = inr (omega (arith, few, length-drop n asked, length-drop (suc n) asked))
fewer false n asked all = fewer-small n asked all

-- a reply has come
pub open-fewer : (alone : Bool) (got : List Reply) (reply : Reply) (asked : List Command) → MayBeOpen alone (drop (length got) asked) → MayBeOpen alone (drop (length (got ++ reply ∷ [])) asked)
open-fewer alone got reply asked waiting =
    let more : length (got ++ reply ∷ []) ≡ suc (length got) = omega (arith, length-append got (reply ∷ [])) in
    subst (λ (n : ℕ). MayBeOpen alone (drop n asked)) (sym more) (fewer alone (length got) asked waiting)
