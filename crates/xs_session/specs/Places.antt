-- The places of answers, in the order of their requests: answers that are there, and answers that are waited for.
use Rattle.std.specs.Prelude.{Bool, true, false, List, [], ◌∷◌, ◌++◌, map}
use Rattle.std.specs.List.{list_any}
use Rattle.xs_resp.specs.declared.reply.Reply.{Reply}
use Rattle.xs_session.specs.declared.places.Place.{Place}
use Rattle.xs_session.specs.declared.places.Place.TheVariants.{Answer, Awaits, AwaitsKeys}
use Rattle.xs_session.specs.Information.{informed}

abbrev pub is_open : Place → Bool
is_open (Answer reply) = false
is_open _ = true

-- an answer is waited for
abbrev pub has_open : List Place → Bool
has_open places = list_any is_open places

-- the answer at a place, after the reply for which it waits has come
abbrev pub answered : Place → Reply → Reply
answered (Answer other) reply = other
answered Awaits reply = reply
answered (AwaitsKeys told) reply = informed told reply

-- the reply has come for which the first place waits
abbrev pub fill_first : Reply → List Place → List Place
fill_first reply [] = []
fill_first reply (Answer other ∷ places) = Answer other ∷ fill_first reply places
fill_first reply (place ∷ places) = Answer (answered place reply) ∷ places

-- replies that are there, and after them the places that wait for the replies before them
abbrev pub places_of : List Reply → List Place → List Place
places_of ready behind = map Answer ready ++ behind

-- nothing in `behind` is ready
abbrev pub IsSettled : List Place → Type 0
IsSettled (Answer reply ∷ behind) = ⊥
IsSettled _ = Unit {0}

-- no answer is there
abbrev pub NoneReady : List Place → Type 0
NoneReady (Answer reply ∷ places) = ⊥
NoneReady _ = Unit {0}
