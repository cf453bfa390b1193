-- Folders of snapshots and logs.
use Rattle.std.proofs.Common.{◌≡◌, ◌≢◌, ◌⊎◌, inl, inr, ℕ, zero, suc, ◌+◌, ◌<◌, ◌≤◌, List, [], ◌∷◌, ◌++◌, Option, Some, None, refl, sym, ap, ◌∙◌, subst, arith}
use Rattle.std.proofs.lemmas.Bool.{cases_eq}
use Rattle.std.proofs.lemmas.Bool.Decides.{nat_tests}
use Rattle.std.specs.List.{AllByRecursion}
use Rattle.std.specs.Option.{option_and_then}
use Rattle.xs_bytes.specs.SortedMap.{empty}
use Rattle.xs_command.specs.WellFormed.{IsWellFormed}
use Rattle.xs_keys.specs.Event.{Event, event_moment, event_command}
use Rattle.xs_keys.specs.Content.{Content}
use Rattle.xs_keys.specs.Headline.{RunsOn}
use Rattle.xs_replay.specs.After.{after, contents_after, moment_after, model_replies, ServerState, new_server, state_after}
use Rattle.xs_replay.specs.Folder.{Folder, after_logs, from_snapshot, found, recovered, left_by, events_up_to, StandsFor, HasServed, put}
use Rattle.xs_replay.proofs.Served.{log-runs}

put-same : {X : Type 0} → (n k : ℕ) (x : X) (things : ℕ → X) → k ≡ n → put n x things k ≡ x
put-same n k x things e = grind (arith, nat_tests)

put-other : {X : Type 0} → (n k : ℕ) (x : X) (things : ℕ → X) → k ≢ n → put n x things k ≡ things k
put-other n k x things ne = grind (arith, nat_tests)

-- logs that exist are read to the end
logs-read : (logs : ℕ → Option (List Event)) (served : ℕ → List Event) (n below count : ℕ) → below + count ≡ n
    → ((k : ℕ) → below < k → k ≤ n → logs k ≡ Some (served k)) → after_logs logs (left_by served below) (suc below) count ≡ Some (left_by served n)
logs-read logs served n below zero e are = let at : below ≡ n = omega (arith, e) in ap (λ k. Some (left_by served k)) at
logs-read logs served n below (suc count) e are =
    ap (option_and_then (λ events. after_logs logs (state_after (left_by served below) events) (suc (suc below)) count)) (are (suc below) (omega arith) (omega (arith, e)))
    ∙ logs-read logs served n (suc below) count (omega (arith, e)) (λ k low high. are k (omega (arith, low)) high)

-- a log and its events are put in the same way
put-alike : (n : ℕ) (events : List Event) (served : ℕ → List Event) (logs : ℕ → Option (List Event)) (k : ℕ) → (k ≢ n → logs k ≡ Some (served k))
    → put n (Some events) logs k ≡ Some (put n events served k)
put-alike n events served logs k are = by (cases_eq k n)
  where
    by : (k ≡ n) ⊎ (k ≢ n) → put n (Some events) logs k ≡ Some (put n events served k)
    by (inl e) = put-same n k (Some events) logs e ∙ sym (ap (λ l. Some l) (put-same n k events served e))
    by (inr ne) = put-other n k (Some events) logs ne ∙ are ne ∙ sym (ap (λ l. Some l) (put-other n k events served ne))

-- what the logs below left is unchanged
left-below : (n : ℕ) (events : List Event) (served : ℕ → List Event) (below : ℕ) → below < n → left_by (put n events served) below ≡ left_by served below
left-below n events served zero less = refl
left-below n events served (suc below) less =
    ap (state_after (left_by (put n events served) below)) (put-other n (suc below) events served (λ e. omega (arith, less, e)))
    ∙ ap (λ s. state_after s (served (suc below))) (left-below n events served below (omega (arith, less)))

stands-below : (n : ℕ) (events : List Event) (served : ℕ → List Event) (below : ℕ) (snapshot : Option ServerState) → below < n → StandsFor served below snapshot
    → StandsFor (put n events served) below snapshot
stands-below n events served below None less stands = stands
stands-below n events served below (Some state) less stands = stands ∙ sym (left-below n events served below less)

some-same : (a b : ServerState) → Some a ≡ Some b → a ≡ b
some-same a b e = cc

module _ (folder : Folder) (served : ℕ → List Event) (last : ℕ) (is : HasServed folder served last) where
  -- the greatest snapshot is read, and the logs from its number on
  from-greatest : (n count : ℕ) (lower snapshot : Option ServerState) → is.below + count ≡ n → n ≤ last → StandsFor served is.below snapshot
      → (is.below ≡ 0 → lower ≡ Some (left_by served n)) → from_snapshot folder.logs (suc is.below) count lower snapshot ≡ Some (left_by served n)
  from-greatest n count lower None e le stands first = first stands
  from-greatest n count lower (Some state) e le stands first =
      ap (λ s. after_logs folder.logs s (suc is.below) count) stands ∙ logs-read folder.logs served n is.below count e (λ k low high. is.logs_are k low (omega (arith, high, le)))

  -- without a snapshot all logs are read
  from-first : (n : ℕ) → is.below ≡ 0 → n ≤ last → found folder zero n ≡ Some (left_by served n)
  from-first n none le = logs-read folder.logs served n zero n (omega arith) (λ k some high. is.logs_are k (omega (arith, none, some)) (omega (arith, high, le)))

  found-from : (n k above : ℕ) → k + above ≡ n → n ≤ last → is.below < k → found folder k above ≡ Some (left_by served n)
  found-from n zero above e le low = absurd (omega (arith, low))
  found-from n (suc k) above e le low = by (cases_eq is.below k) (λ higher. found-from n k (suc above) (omega (arith, e)) le higher)
    where
      lower : is.below ≡ k → is.below ≡ 0 → found folder k (suc above) ≡ Some (left_by served n)
      lower here none =
          let first : k ≡ 0 = omega (arith, here, none) in
          let all : suc above ≡ n = omega (arith, first, e) in
          ap (λ j. found folder j (suc above)) first ∙ ap (found folder zero) all ∙ from-first n none le

      by : (is.below ≡ k) ⊎ (is.below ≢ k) → (is.below < k → found folder k (suc above) ≡ Some (left_by served n)) → found folder (suc k) above ≡ Some (left_by served n)
      by (inl here) further =
          ap (λ j. from_snapshot folder.logs (suc j) (suc above) (found folder k (suc above)) (folder.snapshots (suc j))) (sym here)
          ∙ from-greatest n (suc above) (found folder k (suc above)) (folder.snapshots (suc is.below)) (omega (arith, here, e)) le is.greatest (lower here)
      by (inr ne) further =
          ap (from_snapshot folder.logs (suc k) (suc above) (found folder k (suc above))) (is.none_above (suc k) (omega (arith, low, ne)))
          ∙ further (omega (arith, low, ne))

  pub found-all : (n : ℕ) → is.below < n → n ≤ last → recovered folder n ≡ Some (left_by served n)
  found-all n some le = found-from n n 0 (omega arith) le some

  pub log-begun : HasServed (record folder { logs = put (suc last) (Some []) folder.logs }) (put (suc last) [] served) (suc last)
  log-begun = record {
    below = is.below;
    within = omega (arith, is.within);
    greatest = stands-below (suc last) [] served is.below (folder.snapshots (suc is.below)) (omega (arith, is.within)) is.greatest;
    none_above = is.none_above;
    logs_are = λ n low high. put-alike (suc last) [] served folder.logs n (λ ne. is.logs_are n low (omega (arith, high, ne)));
  }

  pub last-changed : (events : List Event) → HasServed (record folder { logs = put last (Some events) folder.logs }) (put last events served) last
  last-changed events = record {
    below = is.below;
    within = is.within;
    greatest = stands-below last events served is.below (folder.snapshots (suc is.below)) is.within is.greatest;
    none_above = is.none_above;
    logs_are = λ n low high. put-alike last events served folder.logs n (λ ne. is.logs_are n low high);
  }

  pub snapshot-put : (n : ℕ) (state : ServerState) → is.below < n → n < last → recovered folder n ≡ Some state
      → HasServed (record folder { snapshots = put (suc n) (Some state) folder.snapshots }) served last
  snapshot-put n state above less e =
      let same : Some state ≡ Some (left_by served n) = sym e ∙ found-all n above (omega (arith, less)) in
      record {
        below = n;
        within = less;
        greatest = subst (StandsFor served n) (sym (put-same (suc n) (suc n) (Some state) folder.snapshots refl)) (some-same state (left_by served n) same);
        none_above = λ k high. put-other (suc n) k (Some state) folder.snapshots (λ at. omega (arith, high, at)) ∙ is.none_above k (omega (arith, above, high));
        logs_are = λ k low high. is.logs_are k (omega (arith, above, low)) high;
      }

  pub snapshot-removed : (n : ℕ) → n ≤ is.below → HasServed (record folder { snapshots = put n None folder.snapshots }) served last
  snapshot-removed n low = record {
    below = is.below;
    within = is.within;
    greatest = subst (StandsFor served is.below) (sym (put-other n (suc is.below) None folder.snapshots (λ at. omega (arith, low, at)))) is.greatest;
    none_above = λ k high. put-other n k None folder.snapshots (λ at. omega (arith, low, high, at)) ∙ is.none_above k high;
    logs_are = is.logs_are;
  }

  pub log-removed : (n : ℕ) → n ≤ is.below → HasServed (record folder { logs = put n None folder.logs }) served last
  log-removed n low = record {
    below = is.below;
    within = is.within;
    greatest = is.greatest;
    none_above = is.none_above;
    logs_are = λ k above high. put-other n k None folder.logs (λ at. omega (arith, low, above, at)) ∙ is.logs_are k above high;
  }

-- a folder with its first log
pub new-folder : HasServed (record { snapshots = λ n. None; logs = put 1 (Some []) (λ n. None) }) (λ n. []) 1
new-folder = record {
  below = 0;
  within = omega arith;
  greatest = refl;
  none_above = λ n high. refl;
  logs_are = λ n some high. put-same 1 n (Some []) (λ k. None) (omega (arith, some, high));
}

-- ---- what logs left is what all their events left

contents-append : (content : Content) (first more : List Event) → contents_after content (first ++ more) ≡ contents_after (contents_after content first) more
contents-append content [] more = refl
contents-append content (e ∷ first) more = contents-append (after content e) first more

moment-append : (moment : Option ℕ) (first more : List Event) → moment_after moment (first ++ more) ≡ moment_after (moment_after moment first) more
moment-append moment [] more = refl
moment-append moment (e ∷ first) more = moment-append (Some (event_moment e)) first more

left-content : (served : ℕ → List Event) (n : ℕ) → (left_by served n).content ≡ contents_after empty (events_up_to served n)
left-content served zero = refl
left-content served (suc n) =
    ap (λ c. contents_after c (served (suc n))) (left-content served n) ∙ sym (contents-append empty (events_up_to served n) (served (suc n)))

left-moment : (served : ℕ → List Event) (n : ℕ) → (left_by served n).moment ≡ moment_after None (events_up_to served n)
left-moment served zero = refl
left-moment served (suc n) =
    ap (λ m. moment_after m (served (suc n))) (left-moment served n) ∙ sym (moment-append None (events_up_to served n) (served (suc n)))

pub same-state : (one other : ServerState) → one.content ≡ other.content → one.moment ≡ other.moment → one ≡ other
same-state one other contents moments =
    ap (λ c. record { content = c; moment = one.moment }) contents ∙ ap (λ m. record { content = other.content; moment = m }) moments

pub left-after : (served : ℕ → List Event) (n : ℕ) → left_by served n ≡ state_after new_server (events_up_to served n)
left-after served n = same-state (left_by served n) (state_after new_server (events_up_to served n)) (left-content served n) (left-moment served n)

-- what a start finds is the content of a run
pub run-found : (folder : Folder) (served : ℕ → List Event) (last : ℕ) (state : ServerState)
    → AllByRecursion (λ e. IsWellFormed (event_command e)) (events_up_to served last) → HasServed folder served last → recovered folder last ≡ Some state
    → RunsOn empty (events_up_to served last) (model_replies empty (events_up_to served last)) state.content
run-found folder served last state formed is e =
    let events = events_up_to served last in
    let same : state ≡ left_by served last = some-same state (left_by served last) (sym e ∙ found-all folder served last is last is.within (omega arith)) in
    let content : contents_after empty events ≡ state.content = sym (ap (λ s. s.content) same ∙ left-content served last) in
    subst (λ c. RunsOn empty events (model_replies empty events) c) content (log-runs empty events formed)
