-- Calls that were served, and what a log keeps of them.
use Rattle.std.proofs.Common.{◌≡◌, inl, inr, ℕ, ◌≤◌, zero, suc, Bool, true, false, not, ◌||◌, List, [], ◌∷◌, ◌++◌, length, take}
use Rattle.std.proofs.Common.{refl, sym, ap, ◌∙◌, subst, arith}
use Rattle.std.proofs.lemmas.List.{map-append}
use Rattle.std.proofs.lemmas.Bool.{false≢true}
use Rattle.std.specs.List.{AllByRecursion}
use Rattle.std.specs.Prelude.{if◌then◌else◌}
use Rattle.xs_bytes.specs.SortedMap.{empty}
use Rattle.xs_resp.specs.declared.reply.Reply.{Reply}
use Rattle.xs_command.specs.declared.command.Command.{Command}
use Rattle.xs_command.specs.declared.command.Command.TheVariants as command
use Rattle.xs_command.specs.WellFormed.{IsWellFormed}
use Rattle.xs_keys.specs.Event.{Event, History, event_moment, event_command}
use Rattle.xs_keys.specs.Content.{Content, IsContent}
use Rattle.xs_keys.specs.ContentAfter.{content_after}
use Rattle.xs_keys.specs.Reply.{reply}
use Rattle.xs_keys.specs.Step.{Step, is_error}
use Rattle.xs_keys.specs.EachReply.{AreReplied}
use Rattle.xs_keys.specs.Headline.{Headline, RunsOn}
use Rattle.xs_keys.proofs.ConsistentContents.{content-consistent}
use Rattle.xs_keys.proofs.Contents.{content-none}
use Rattle.xs_keys.proofs.Refusals.{refused-unchanged}
use Rattle.xs_keys.proofs.Runs.{step-follows, headline}
use Rattle.xs_replay.specs.After.{after, contents_after, model_replies}
use Rattle.xs_replay.specs.Calls.{Call, KeepsTheRule, ServesOne, Serves, events_of, answers_of, log_of, survivors, ServerLife, Lives, survivors_of, only_reads, is_left_out}

-- ---- a log is a run

record Run (past : History) (start : Content) (events : List Event) : Type 0 where
  pub history : History
  pub replied : AreReplied past events (model_replies start events) history
  pub content : IsContent (contents_after start events) history

replied-all : (past : History) (start : Content) (events : List Event) → AllByRecursion (λ e. IsWellFormed (event_command e)) events → IsContent start past → Run past start events
replied-all past start [] formed is = record { history = past; replied = refl; content = is }
replied-all past start (e ∷ events) formed is =
    let next = after start e in
    let answer = reply start (event_moment e) (event_command e) in
    let step = step-follows past start next (event_moment e) (event_command e) answer formed.0 is (inl (record { answer_is = refl; content_is = refl })) in
    let more = replied-all step.0 next events formed.1 step.1 in
    record { history = more.history; replied = (step.0, step.2, more.replied); content = more.content }

pub log-runs : (start : Content) (events : List Event) → AllByRecursion (λ e. IsWellFormed (event_command e)) events → RunsOn start events (model_replies start events) (contents_after start events)
log-runs start events formed = λ past is.
    let run = replied-all past start events formed is in
    (run.history, headline past events (model_replies start events) run.history run.replied, run.content, content-consistent run.history (contents_after start events) run.content)

-- ---- runs

replied-join : (past : History) (first more : List Event) (said told : List Reply) (mid last : History) → AreReplied past first said mid → AreReplied mid more told last
    → AreReplied past (first ++ more) (said ++ told) last
replied-join past [] more [] told mid last one two = subst (λ h. AreReplied h more told last) one two
replied-join past [] more (answer ∷ said) told mid last one two = absurd one
replied-join past (e ∷ first) more [] told mid last one two = absurd one
replied-join past (e ∷ first) more (answer ∷ said) told mid last (next, follows, rest) two = (next, follows, replied-join next first more said told mid last rest two)

pub runs-join : (a b c : Content) (first more : List Event) (said told : List Reply) → RunsOn a first said b → RunsOn b more told c → RunsOn a (first ++ more) (said ++ told) c
runs-join a b c first more said told one two past is =
    let r = one past is in
    let s = two r.0 r.2 in
    (s.0, headline past (first ++ more) (said ++ told) s.0 (replied-join past first more said told r.0 s.0 r.1.replies s.1.replies), s.2, s.3)

pub nothing-runs : (content : Content) → RunsOn content [] [] content
nothing-runs content past is = (past, headline past [] [] past refl, is, content-consistent past content is)

pub step-runs : (old new : Content) (e : Event) (answer : Reply) → IsWellFormed (event_command e) → Step old (event_moment e) (event_command e) answer new → RunsOn old (e ∷ []) (answer ∷ []) new
step-runs old new e answer formed step past is =
    let next = step-follows past old new (event_moment e) (event_command e) answer formed is step in
    (next.0, headline past (e ∷ []) (answer ∷ []) next.0 (next.0, next.2, refl), next.1, content-consistent next.0 new next.1)

pub calls-run : (old new : Content) (calls : List Call) → Serves old calls new → RunsOn old (events_of calls) (answers_of calls) new
calls-run old new [] serves = subst (λ c. RunsOn old [] [] c) (sym serves) (nothing-runs old)
calls-run old new (call ∷ calls) (between, one, rest) =
    runs-join old between new (call.event ∷ []) (events_of calls) (call.answer ∷ []) (answers_of calls) (step-runs old between call.event call.answer one.formed one.step) (calls-run between new calls rest)

-- ---- what a log keeps

log-one : (b : Bool) (call : Call) (old between : Content) (rest : List Event) → KeepsTheRule b old call.event between → contents_after between rest ≡ contents_after old (if b then call.event ∷ rest else rest)
log-one true call old between rest rule = ap (λ c. contents_after c rest) rule
log-one false call old between rest rule = ap (λ c. contents_after c rest) rule

pub log-content : (old new : Content) (calls : List Call) → Serves old calls new → new ≡ contents_after old (log_of calls)
log-content old new [] serves = serves
log-content old new (call ∷ calls) (between, one, rest) = log-content between new calls rest ∙ log-one call.in_log call old between (log_of calls) one.rule

-- the calls that survive, whether the next one is in the log or not
survive-none : (b : Bool) (call : Call) (old : Content) (calls : List Call) (between : Content) → call.in_log ≡ b → ServesOne old call between → Serves between (survivors zero calls) between
    → Serves old (if b then [] else call ∷ survivors zero calls) old
survive-none true call old calls between is one rest = refl
survive-none false call old calls between is one rest =
    let same : between ≡ old = subst (λ b. KeepsTheRule b old call.event between) is one.rule in
    (between, one, subst (λ c. Serves between (survivors zero calls) c) same rest)

survive-more : (b : Bool) (kept : ℕ) (call : Call) (old between : Content) (calls : List Call) → KeepsTheRule b old call.event between
    → ((k : ℕ) → Serves between (survivors k calls) (contents_after between (take k (log_of calls))))
    → Serves between (survivors (if b then kept else suc kept) calls) (contents_after old (take (suc kept) (if b then call.event ∷ log_of calls else log_of calls)))
survive-more true kept call old between calls rule rest = subst (λ c. Serves between (survivors kept calls) (contents_after c (take kept (log_of calls)))) rule (rest kept)
survive-more false kept call old between calls rule rest = subst (λ c. Serves between (survivors (suc kept) calls) (contents_after c (take (suc kept) (log_of calls)))) rule (rest (suc kept))

pub survive : (kept : ℕ) (old new : Content) (calls : List Call) → Serves old calls new → Serves old (survivors kept calls) (contents_after old (take kept (log_of calls)))
survive zero old new [] serves = refl
survive (suc kept) old new [] serves = refl
survive zero old new (call ∷ calls) (between, one, rest) = survive-none call.in_log call old calls between refl one (survive zero between new calls rest)
survive (suc kept) old new (call ∷ calls) (between, one, rest) = (between, one, survive-more call.in_log kept call old between calls one.rule (λ k. survive k between new calls rest))

-- the log of the calls that survive
log-none : (b : Bool) (call : Call) (calls : List Call) → call.in_log ≡ b → log_of (survivors zero calls) ≡ [] → log_of (if b then [] else call ∷ survivors zero calls) ≡ []
log-none true call calls is none = refl
log-none false call calls is none = rw is none

log-more : (b : Bool) (kept : ℕ) (call : Call) (calls : List Call) → ((k : ℕ) → log_of (survivors k calls) ≡ take k (log_of calls))
    → (if b then call.event ∷ log_of (survivors (if b then kept else suc kept) calls) else log_of (survivors (if b then kept else suc kept) calls)) ≡ take (suc kept) (if b then call.event ∷ log_of calls else log_of calls)
log-more true kept call calls rest = ap (λ es. call.event ∷ es) (rest kept)
log-more false kept call calls rest = rest (suc kept)

survivors-log : (kept : ℕ) (calls : List Call) → log_of (survivors kept calls) ≡ take kept (log_of calls)
survivors-log zero [] = refl
survivors-log (suc kept) [] = refl
survivors-log zero (call ∷ calls) = log-none call.in_log call calls refl (survivors-log zero calls)
survivors-log (suc kept) (call ∷ calls) = log-more call.in_log kept call calls (λ k. survivors-log k calls)

pub log-survives : (calls : List Call) (kept : ℕ) → log_of (survivors kept calls) ≡ take kept (log_of calls)
log-survives calls kept = survivors-log kept calls

-- they are the first calls
first-none : (b : Bool) (call : Call) (calls : List Call) → survivors zero calls ≡ take (length (survivors zero calls)) calls
    → (if b then [] else call ∷ survivors zero calls) ≡ take (length (if b then [] else call ∷ survivors zero calls)) (call ∷ calls)
first-none true call calls e = refl
first-none false call calls e = ap (λ cs. call ∷ cs) e

survivors-first : (kept : ℕ) (calls : List Call) → survivors kept calls ≡ take (length (survivors kept calls)) calls
survivors-first zero [] = refl
survivors-first (suc kept) [] = refl
survivors-first zero (call ∷ calls) = first-none call.in_log call calls (survivors-first zero calls)
survivors-first (suc kept) (call ∷ calls) = ap (λ cs. call ∷ cs) (survivors-first (if call.in_log then kept else suc kept) calls)

pub first-survive : (calls : List Call) (kept : ℕ) → survivors kept calls ≡ take (length (survivors kept calls)) calls
first-survive calls kept = survivors-first kept calls

-- a beginning whose events are kept survives
abbrev AllThere : ℕ → List Call → List Call → Type 0
AllThere kept calls others = (more : List Call) × (survivors kept (calls ++ others) ≡ calls ++ more)

there-none : (b : Bool) (call : Call) (calls others : List Call) → length (if b then call.event ∷ log_of calls else log_of calls) ≤ 0
    → (length (log_of calls) ≤ 0 → AllThere zero calls others) → (more : List Call) × ((if b then [] else call ∷ survivors zero (calls ++ others)) ≡ call ∷ (calls ++ more))
there-none true call calls others le there = absurd (omega arith)
there-none false call calls others le there = (let rest = there le in (rest.0, ap (λ cs. call ∷ cs) rest.1))

there-more : (b : Bool) (kept : ℕ) (call : Call) (calls : List Call) → length (if b then call.event ∷ log_of calls else log_of calls) ≤ suc kept → length (log_of calls) ≤ (if b then kept else suc kept)
there-more true kept call calls le = omega (arith, le)
there-more false kept call calls le = le

all-survive-at : (kept : ℕ) (calls others : List Call) → length (log_of calls) ≤ kept → AllThere kept calls others
all-survive-at kept [] others le = (survivors kept others, refl)
all-survive-at zero (call ∷ calls) others le = there-none call.in_log call calls others le (λ fewer. all-survive-at zero calls others fewer)
all-survive-at (suc kept) (call ∷ calls) others le =
    let rest = all-survive-at (if call.in_log then kept else suc kept) calls others (there-more call.in_log kept call calls le) in
    (rest.0, ap (λ cs. call ∷ cs) rest.1)

pub all-survive : (calls others : List Call) (kept : ℕ) → length (log_of calls) ≤ kept → (more : List Call) × (survivors kept (calls ++ others) ≡ calls ++ more)
all-survive calls others kept le = all-survive-at kept calls others le

-- ---- lives

pub lives-run : (old new : Content) (lives : List ServerLife) → Lives old lives new → RunsOn old (events_of (survivors_of lives)) (answers_of (survivors_of lives)) new
lives-run old new [] lived = subst (λ c. RunsOn old [] [] c) (sym lived) (nothing-runs old)
lives-run old new (life ∷ lives) (last, serves, within, rest) =
    let found = survivors life.found life.calls in
    let between = contents_after old (take life.found (log_of life.calls)) in
    let one = calls-run old between found (survive life.found old last life.calls serves) in
    let both = runs-join old between new (events_of found) (events_of (survivors_of lives)) (answers_of found) (answers_of (survivors_of lives)) one (lives-run between new lives rest) in
    subst (λ replies. RunsOn old (events_of (found ++ survivors_of lives)) replies new) (sym (map-append (λ (call : Call). call.answer) found (survivors_of lives)))
    (subst (λ es. RunsOn old es (answers_of found ++ answers_of (survivors_of lives)) new) (sym (map-append (λ (call : Call). call.event) found (survivors_of lives))) both)

pub lives-headline : (lives : List ServerLife) (new : Content) → Lives empty lives new → (history : History) × Headline [] (events_of (survivors_of lives)) (answers_of (survivors_of lives)) history
lives-headline lives new lived =
    let run = lives-run empty new lives lived [] content-none in
    (run.0, run.1)

-- ---- what may be left out

reads-nothing : (content : Content) (now : ℕ) (one : Command) → only_reads one ≡ true → content_after content now one ≡ content
reads-nothing content now (command.Ping m) e = refl
reads-nothing content now command.Quit e = refl
reads-nothing content now (command.Len k) e = refl
reads-nothing content now (command.Scan s) e = refl
reads-nothing content now (command.Pending k g) e = refl
reads-nothing content now (command.PendingRows p) e = refl
reads-nothing content now (command.Inspect i) e = refl
reads-nothing content now (command.Add a) e = absurd (cc (e))
reads-nothing content now (command.Delete k i) e = absurd (cc (e))
reads-nothing content now (command.TrimTo k t) e = absurd (cc (e))
reads-nothing content now (command.GroupCreate g) e = absurd (cc (e))
reads-nothing content now (command.GroupDestroy k g) e = absurd (cc (e))
reads-nothing content now (command.ConsumerCreate k g c) e = absurd (cc (e))
reads-nothing content now (command.ConsumerDelete k g c) e = absurd (cc (e))
reads-nothing content now (command.ReadGroup r) e = absurd (cc (e))
reads-nothing content now (command.Ack k g i) e = absurd (cc (e))
reads-nothing content now (command.Claim c) e = absurd (cc (e))
reads-nothing content now (command.AutoClaim c) e = absurd (cc (e))
reads-nothing content now (command.DropKeys k) e = absurd (cc (e))

-- by whether the command only reads, and whether it was refused
by-rule : (r e : Bool) (old : Content) (now : ℕ) (one : Command) (answer : Reply) (new : Content) → only_reads one ≡ r → is_error answer ≡ e → IsWellFormed one → Step old now one answer new → KeepsTheRule (not (r || e)) old (now, one) new
by-rule true e old now one answer new f g formed (inl applied) = applied.content_is ∙ reads-nothing old now one f
by-rule true e old now one answer new f g formed (inr memory) = memory.content_is
by-rule false true old now one answer new f g formed (inl applied) = applied.content_is ∙ refused-unchanged old now one formed (sym (ap is_error applied.answer_is) ∙ g)
by-rule false true old now one answer new f g formed (inr memory) = memory.content_is
by-rule false false old now one answer new f g formed (inl applied) = applied.content_is
by-rule false false old now one answer new f g formed (inr memory) = absurd (false≢true (sym g ∙ ap is_error memory.answer_is))

pub left-out : (old : Content) (now : ℕ) (one : Command) (answer : Reply) (new : Content) → IsWellFormed one → Step old now one answer new → KeepsTheRule (not (is_left_out one answer)) old (now, one) new
left-out old now one answer new formed step = by-rule (only_reads one) (is_error answer) old now one answer new refl refl formed step
