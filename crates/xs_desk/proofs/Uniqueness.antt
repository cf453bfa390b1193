-- Only one list is that of the calls of a desk: an answer of a lane contains its place.
use Rattle.std.specs.Prelude.{◌≡◌, ℕ, zero, suc, ◌<◌, ◌==◌, true, false, List, [], ◌∷◌, length, map, slice_get, Some}
use Rattle.std.specs.Prelude.{All, if◌then◌else◌, refl}
use Rattle.std.proofs.Common.{sym, ◌∙◌, ap, subst, arith}
use Rattle.std.proofs.lemmas.Option.{slice_get-map, slice_get_within, get_or_from_slice_get}
use Rattle.std.proofs.lemmas.List.Elements.{All-get_or}
use Rattle.std.proofs.lemmas.Bool.Decides.{nat_tests}
use Rattle.std.specs.Option.{option_map}
use Rattle.xs_command.specs.declared.command.Command.{Command}
use Rattle.xs_desk.specs.declared.answer.Answer.{Answer}
use Rattle.xs_desk.specs.ServedCalls.{ServedCall, Desk, of_lane, commands_of, answers_of, AreCallsOf}
use Rattle.xs_desk.proofs.Lists.{same_some, some-at, some-of-map, same-lists}

at-place : {X : Type 0} (P : X → Type 0) (xs : List X) (i : ℕ) (x : X) → All P xs → slice_get xs i ≡ Some x → P x
at-place P xs i x all e = subst P (get_or_from_slice_get xs i x x e) (All-get_or P xs i x (slice_get_within xs i x e) all)

mapped : {X Y : Type 0} (f : X → Y) (xs : List X) (i : ℕ) (x : X) → slice_get xs i ≡ Some x → slice_get (map f xs) i ≡ Some (f x)
mapped f xs i x e = slice_get-map f xs i ∙ ap (option_map f) e

abbrev made : ℕ → Command → Answer → ServedCall
made lane command answer = record { lane = lane; command = command; answer = answer }

same-call : (one other : ServedCall) → one.lane ≡ other.lane → one.command ≡ other.command → one.answer ≡ other.answer → one ≡ other
same-call one other lane command answer =
    ap (λ (x : ℕ). made x one.command one.answer) lane ∙ ap (λ (x : Command). made other.lane x one.answer) command ∙ ap (λ (x : Answer). made other.lane other.command x) answer

-- a call is among the calls of its lane
in-its-lane : (calls : List ServedCall) (j : ℕ) (call : ServedCall) → slice_get calls j ≡ Some call → (i : ℕ) × (slice_get (of_lane call.lane calls) i ≡ Some call)
in-its-lane [] j call e = absurd (cc)
in-its-lane (x ∷ xs) zero call e =
    let q : x ≡ call = same_some x call e in
    let here : (x.lane == call.lane) ≡ true = subst (λ (y : ServedCall). (x.lane == y.lane) ≡ true) q (grind (arith, nat_tests)) in
    (0, ap (λ b. slice_get (if b then x ∷ of_lane call.lane xs else of_lane call.lane xs) 0) here ∙ e)
in-its-lane (x ∷ xs) (suc j) call e =
    let r = in-its-lane xs j call e in
    elim (x.lane == call.lane) as (λ b. (i : ℕ) × (slice_get (if b then x ∷ of_lane call.lane xs else of_lane call.lane xs) i ≡ Some call)) [ true ↦ (suc r.0, r.1) | false ↦ r ]

first-or-later : (k : ℕ) (x : ServedCall) (xs : List ServedCall) (i : ℕ) (call : ServedCall) → x.lane ≡ k
    → ((m : ℕ) → slice_get (of_lane k xs) m ≡ Some call → (j : ℕ) × (slice_get xs j ≡ Some call) × (call.lane ≡ k))
    → slice_get (x ∷ of_lane k xs) i ≡ Some call → (j : ℕ) × (slice_get (x ∷ xs) j ≡ Some call) × (call.lane ≡ k)
first-or-later k x xs zero call is later at = (0, at, ap (λ (y : ServedCall). y.lane) (sym (same_some x call at)) ∙ is)
first-or-later k x xs (suc i) call is later at = let r = later i at in (suc r.0, r.1, r.2)

-- and each of these is among all calls
among-all : (k : ℕ) (calls : List ServedCall) (i : ℕ) (call : ServedCall) → slice_get (of_lane k calls) i ≡ Some call → (j : ℕ) × (slice_get calls j ≡ Some call) × (call.lane ≡ k)
among-all k [] i call e = absurd (cc)
among-all k (x ∷ xs) i call e =
    (elim (x.lane == k) as (λ b. (x.lane == k) ≡ b → slice_get (if b then x ∷ of_lane k xs else of_lane k xs) i ≡ Some call → (j : ℕ) × (slice_get (x ∷ xs) j ≡ Some call) × (call.lane ≡ k)) [
      | true ↦ λ is at. first-or-later k x xs i call (grind (arith, nat_tests)) (λ m f. among-all k xs m call f) at
      | false ↦ λ is at. let r = among-all k xs i call at in (suc r.0, r.1, r.2)
    ]) refl e

pub same-calls : (desk : Desk) (one other : List ServedCall) → AreCallsOf one desk → AreCallsOf other desk → one ≡ other
same-calls desk one other a b =
    same-lists one other (sym a.next ∙ b.next) (λ j call at.
    let mine = in-its-lane one j call at in
    let within : call.lane < length desk.lanes = at-place (λ c. c.lane < length desk.lanes) one j call a.within at in
    let lane = some-at desk.lanes call.lane within in
    let answered : slice_get (answers_of (of_lane call.lane other)) mine.0 ≡ Some call.answer = ap (λ xs. slice_get xs mine.0) (sym (b.lanes call.lane lane.0 lane.1).1 ∙ (a.lanes call.lane lane.0 lane.1).1) ∙ mapped (λ c. c.answer) (of_lane call.lane one) mine.0 call mine.1 in
    let commanded : slice_get (commands_of (of_lane call.lane other)) mine.0 ≡ Some call.command = ap (λ xs. slice_get xs mine.0) (sym (b.lanes call.lane lane.0 lane.1).0 ∙ (a.lanes call.lane lane.0 lane.1).0) ∙ mapped (λ c. c.command) (of_lane call.lane one) mine.0 call mine.1 in
    let theirs = some-of-map (λ (c : ServedCall). c.answer) (of_lane call.lane other) mine.0 call.answer answered in
    let again = some-of-map (λ (c : ServedCall). c.command) (of_lane call.lane other) mine.0 call.command commanded in
    let both : again.0 ≡ theirs.0 = same_some _ _ (sym again.1 ∙ theirs.1) in
    let there = among-all call.lane other mine.0 theirs.0 theirs.1 in
    let command : theirs.0.command ≡ call.command = ap (λ (c : ServedCall). c.command) (sym both) ∙ again.2 in
    let whole : theirs.0 ≡ call = same-call theirs.0 call there.2 command theirs.2 in
    let place : call.answer.place ≡ j = a.places j call.answer.place (mapped (λ c. c.answer.place) one j call at) in
    let their_place : theirs.0.answer.place ≡ there.0 = b.places there.0 theirs.0.answer.place (mapped (λ c. c.answer.place) other there.0 theirs.0 there.1) in
    let same : there.0 ≡ j = sym their_place ∙ ap (λ (c : ServedCall). c.answer.place) whole ∙ place in
    subst (λ (i : ℕ). slice_get other i ≡ Some call) same (there.1 ∙ ap Some whole))
