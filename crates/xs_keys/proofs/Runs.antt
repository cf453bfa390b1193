-- A run so far, and one event more.
use Rattle.std.proofs.Common.{◌≡◌, ◌⊎◌, ℕ, List, [], ◌∷◌, ◌++◌, Some, inl, inr, sym, ap, ◌∙◌, subst, refl, append_assoc}
use Rattle.std.proofs.lemmas.List.{append-nil}
use Rattle.xs_keys.specs.Event.{Event, History}
use Rattle.xs_command.specs.WellFormed.{IsWellFormed}
use Rattle.xs_keys.specs.Terms.{Reply, Command}
use Rattle.xs_keys.specs.Content.{Content, IsContent}
use Rattle.xs_keys.specs.RepliesTell.{IsReported}
use Rattle.xs_keys.specs.EachReply.{JoinsOrIsLeftOut, AreReplied}
use Rattle.xs_keys.specs.Headline.{AreWellFormed, AtEachEvent, LivesAreApart, Headline, RunsOn}
use Rattle.xs_keys.specs.EachDelivery.{DeliversNew}
use Rattle.xs_keys.specs.EachOwner.{OwnersAndClaims}
use Rattle.xs_keys.specs.Step.{Step}
use Rattle.xs_keys.specs.GroupLife.{GroupLife, group_life}
use Rattle.xs_keys.proofs.ConsistentContents.{content-consistent}
use Rattle.xs_keys.proofs.Deliveries.{ascends-delivered, past-start, had-event}
use Rattle.xs_keys.proofs.Histories.{present-in-life}
use Rattle.xs_keys.proofs.ClaimedIds.{in-full, claims-idle}
use Rattle.xs_keys.proofs.TimesOfRows.{is-last-touched}
use Rattle.xs_keys.proofs.Owners.{owned-until-settled, changes-by-claims, owner-row, row-found, of_row}
use Rattle.xs_keys.proofs.Streams.{ascends-added}
use Rattle.xs_keys.proofs.Lives.{goes-on}
use Rattle.xs_keys.proofs.Tellings.{is-reported}
use Rattle.xs_keys.proofs.Contents.{content-step}
use Rattle.xs_keys.proofs.IdsAtEvents.{sees-of}
use Rattle.xs_keys.proofs.JobPlaces.{has-one-place}
use Rattle.xs_keys.proofs.JobMoves.{goes-along}
use Rattle.xs_keys.proofs.JobCounts.{places-add-up}
use Rattle.xs_keys.specs.Life.{StreamEvent, key_life}
use Rattle.xs_keys.specs.PlacesAddUp.{HasItsPlaces}
use Rattle.xs_keys.specs.JobMove.{EachMovesAlong}
use Rattle.xs_keys.specs.Presence.{EntriesAreAdded, EntriesStay, GroupsAreCreated, GroupsStay}
use Rattle.xs_keys.proofs.Arrivals.{entries-added, groups-created}
use Rattle.xs_keys.proofs.Refusals.{refused-unchanged}
use Rattle.xs_keys.proofs.EntriesStay.{entries-stay, groups-stay}

-- from this past on, the replies so far are good, whatever good replies to the rest of the events follow
abbrev pub SoFar : History → History → List Reply → History → History → Type 0
SoFar past events replies mid rest = (answers : List Reply) (last : History) → AreReplied mid rest answers last → AreReplied past events (replies ++ answers) last

-- over any history that left the old content
abbrev pub RunsSoFar : Content → History → List Reply → Content → History → Type 0
RunsSoFar old events replies now rest =
    (past : History) → IsContent old past → (mid : History) × IsContent now mid × SoFar past events replies mid rest

pub runs-none : (old : Content) (events : History) → RunsSoFar old events [] old events
runs-none old events = λ past is. (past, is, λ answers last done. done)

-- how a step continues a history
pub step-follows : (past : History) (old new : Content) (now : ℕ) (command : Command) (answer : Reply) → IsWellFormed command → IsContent old past → Step old now command answer new
    → (next : History) × IsContent new next × JoinsOrIsLeftOut past now command answer next
step-follows past old new now command answer formed is (inl applied) = (
  (now, command) ∷ past,
  subst (λ c. IsContent c ((now, command) ∷ past)) (sym applied.content_is) (content-step past old now command is),
  inl (
    record {
      formed = formed;
      content = old;
      left_by = is;
      answer_is = applied.answer_is;
      reported = subst (λ r. IsReported past now command r) (sym applied.answer_is) (is-reported past old now command is formed);
      unchanged = refused-unchanged old now command formed;
    },
    refl,
  ),
)
step-follows past old new now command answer formed is (inr refused) = (
  past,
  subst (λ c. IsContent c past) (sym refused.content_is) is,
  inr (record { takes = refused.takes; content = old; left_by = is; no_other = refused.no_other; answer_is = refused.answer_is }, refl),
)

one_more : (mid : History) (e : Event) (reply : Reply) (now next : Content) → IsWellFormed e.1 → IsContent now mid → Step now e.0 e.1 reply next
    → (more : History) × IsContent next more × ((rest : History) (answers : List Reply) (last : History) → AreReplied more rest answers last → AreReplied mid (e ∷ rest) (reply ∷ answers) last)
one_more mid e reply now next formed is step =
    let more = step-follows mid now next e.0 e.1 reply formed is step in
    (more.0, more.1, λ rest answers last done. (more.0, more.2, done))

pub runs-more : (old : Content) (events : History) (replies : List Reply) (now next : Content) (e : Event) (rest : History) (reply : Reply)
    → RunsSoFar old events replies now (e ∷ rest) → IsWellFormed e.1 → Step now e.0 e.1 reply next → RunsSoFar old events (replies ++ reply ∷ []) next rest
runs-more old events replies now next e rest reply so_far formed step = λ past is.
    let here = so_far past is in
    let more = one_more here.0 e reply now next formed here.1 step in
    (more.0, more.1, λ answers last done. rw append_assoc (here.2 (reply ∷ answers) last (more.2 rest answers last done)))

pub new_ids-new : (past : History) (key group : List ℕ) (life : GroupLife) → group_life past key group ≡ Some life → DeliversNew life
new_ids-new past key group life e =
    let asc = present-in-life past key group life e in
    record {
      ascend = ascends-delivered life.start life.events asc;
      past_start = past-start life.start life.events;
      at_their_turn = λ x low high. had-event life.start life.events x asc low high;
      in_full = in-full life.start life.events;
    }

pub has-one-owner : (past : History) (key group : List ℕ) (life : GroupLife) → group_life past key group ≡ Some life → OwnersAndClaims life
has-one-owner past key group life e = record {
  is_pending = λ x. owner-row life.start life.events x ∙ sym (ap of_row (row-found life.start life.events x));
  is_last_touched = is-last-touched life.start life.events;
  claims_are_exact = claims-idle life.start life.events (present-in-life past key group life e);
  until_settled = owned-until-settled life.start life.events;
  by_claims = changes-by-claims life.start life.events;
}

pub has-its-places : (past : History) (key group : List ℕ) (changes : List StreamEvent) (life : GroupLife) → key_life past key ≡ Some changes → group_life past key group ≡ Some life → HasItsPlaces changes life
has-its-places past key group changes life k g =
    let asc = present-in-life past key group life g in
    let sees = sees-of past key group changes life k g in
    record { one_place = λ x given. has-one-place life changes asc sees x; places_add_up = places-add-up life changes asc sees }

-- ---- at each event

pub formed-after : (past events : History) (replies : List Reply) (history : History) → AreReplied past events replies history → AreWellFormed past → AreWellFormed history
formed-after past [] [] history are formed = subst AreWellFormed (sym are) formed
formed-after past [] (reply ∷ replies) history are formed = absurd are
formed-after past (e ∷ events) [] history are formed = absurd are
formed-after past (e ∷ events) (reply ∷ replies) history (next, follows, rest) formed = formed-after next events replies history rest (by follows) where
  by : JoinsOrIsLeftOut past e.0 e.1 reply next → AreWellFormed next
  by (inl (answered, is)) = subst AreWellFormed (sym is) (answered.formed, formed)
  by (inr (left_out, is)) = subst AreWellFormed (sym is) formed

formed-among : (later : History) (e : Event) (earlier : History) → AreWellFormed (later ++ e ∷ earlier) → IsWellFormed e.1
formed-among [] e earlier formed = formed.0
formed-among (first ∷ later) e earlier formed = formed-among later e earlier formed.1

formed-at : (past events : History) (replies : List Reply) (history : History) → AreReplied past events replies history
    → (later : History) (e : Event) (earlier : History) → history ≡ later ++ e ∷ earlier → AreWellFormed past ⊎ IsWellFormed e.1 → IsWellFormed e.1
formed-at past events replies history are later e earlier is (inl formed) = formed-among later e earlier (subst AreWellFormed is (formed-after past events replies history are formed))
formed-at past events replies history are later e earlier is (inr formed) = formed

at-each-event : (past events : History) (replies : List Reply) (history : History) → AreReplied past events replies history
    → (Holds : History → ℕ × Command → Type 0) → ((earlier : History) (e : Event) → IsWellFormed e.1 → Holds earlier e)
    → AtEachEvent past history Holds
at-each-event [] events replies history are Holds holds = λ later e earlier is.
    holds earlier e (formed-at [] events replies history are later e earlier is (inl tt))
at-each-event (first ∷ past) events replies history are Holds holds = λ later e earlier is formed.
    holds earlier e (formed-at (first ∷ past) events replies history are later e earlier is formed)

pub headline : (past events : History) (replies : List Reply) (history : History) → AreReplied past events replies history → Headline past events replies history
headline past events replies history answers = record {
  replies = answers;
  steps_are_consistent = λ later e earlier f content is. (content-consistent earlier content is, content-step earlier content e.0 e.1 is);
  ids_ascend = λ later earlier f key changes g. ascends-added changes;
  formed = formed-after past events replies history answers;
  lives_are_apart = at-each-event past events replies history answers LivesAreApart (λ earlier e formed key group. goes-on earlier e.0 e.1 key group formed);
  deliveries = λ later earlier e key group life f. new_ids-new earlier key group life f;
  owners = λ later earlier e key group life f. has-one-owner earlier key group life f;
  places = λ later earlier e key group changes life k g. has-its-places earlier key group changes life k g;
  moves = at-each-event past events replies history answers EachMovesAlong (λ earlier e formed key group x. goes-along earlier e.0 e.1 key group x formed);
  entries_are_added = at-each-event past events replies history answers EntriesAreAdded (λ earlier e formed. entries-added earlier e);
  entries_stay = at-each-event past events replies history answers EntriesStay (λ earlier e formed. entries-stay earlier e);
  groups_are_created = at-each-event past events replies history answers GroupsAreCreated (λ earlier e formed. groups-created earlier e);
  groups_stay = at-each-event past events replies history answers GroupsStay (λ earlier e formed. groups-stay earlier e);
}

pub runs-all : (old : Content) (events : History) (replies : List Reply) (new : Content) → RunsSoFar old events replies new [] → RunsOn old events replies new
runs-all old events replies new so_far = λ past is.
    let here = so_far past is in
    (here.0, headline past events replies here.0 (rw append-nil at (here.2 [] here.0 refl)), here.1, content-consistent here.0 new here.1)
