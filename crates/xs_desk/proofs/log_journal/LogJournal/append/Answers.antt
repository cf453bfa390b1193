use Rattle.std.proofs.Common.{rules, ◌≡◌, true, false, ◌<◌, ◌^◌, ◌++◌, ◌∷◌, [], subst, sym}
use Rattle.xs_desk.specs.Calls.{AreWordsOf}
use Rattle.xs_desk.specs.LogJournals.{HasEvents}
use Rattle.xs_desk.proofs.LogSteps.{can-be-spelled, words-of, appended}
use Rattle.xs_desk.proofs.log_journal.LogJournal.append.Goals as goal

pub note-requires-clause-short : goal.note-requires-clause-short
note-requires-clause-short g c =
    let small : c.args.moment < 2 ^ 63 = search rules in
    let words = subst (λ ws. AreWordsOf ws c.args.call.now.command) (sym c.as_slice.ensures) (words-of c.args.call.now.words c.in-Some.words c.args.call.now.command c.in-Some.is c.requires.words) in
    can-be-spelled c.args.moment c.as_slice.result.now c.args.call.now.command small words

pub returns-then-is_err-clause-noted : goal.returns-then-is_err-clause-noted
returns-then-is_err-clause-noted g c =
    let words = subst (λ ws. AreWordsOf ws c.args.call.now.command) (sym c.as_slice.ensures) (words-of c.args.call.now.words c.in-Some.words c.args.call.now.command c.in-Some.is c.requires.words) in
    let sound : c.args.self.now.failed ≡ false = search rules in
    let same : c.args.self.now.log ≡ c.self.inside.log = search rules in
    let first : c.args.self.now.first ≡ c.self.inside.first.value = search rules in
    let start : c.args.self.now.start ≡ c.self.inside.start.value = search rules in
    λ events kept has. subst (λ f. HasEvents g.L.EventLog.has c.note.new.self true f c.self.inside.start.value (events ++ (c.args.moment, c.args.call.now.command) ∷ []) kept) first
    (subst (λ s. HasEvents g.L.EventLog.has c.note.new.self true c.args.self.now.first s (events ++ (c.args.moment, c.args.call.now.command) ∷ []) kept) start
    (appended g.L.EventLog.has c.args.self.now.log c.note.new.self c.args.self.now.failed _ c.args.self.now.first c.args.self.now.start (c.args.moment, c.args.call.now.command) sound
    (λ events kept h. c.note.ensures.noted c.args.call.now.command events kept words.say c.requires.command (subst (λ log. g.L.EventLog.has log events kept) same h)) events kept has))

pub returns-clause-noted : goal.returns-clause-noted
returns-clause-noted g c =
    let words = subst (λ ws. AreWordsOf ws c.args.call.now.command) (sym c.as_slice.ensures) (words-of c.args.call.now.words c.in-Some.words c.args.call.now.command c.in-Some.is c.requires.words) in
    let sound : c.args.self.now.failed ≡ false = search rules in
    let same : c.args.self.now.log ≡ c.self.inside.log = search rules in
    let first : c.args.self.now.first ≡ c.self.inside.first.value = search rules in
    let start : c.args.self.now.start ≡ c.self.inside.start.value = search rules in
    λ events kept has. subst (λ f. HasEvents g.L.EventLog.has c.note.new.self c.self.inside.failed f c.self.inside.start.value (events ++ (c.args.moment, c.args.call.now.command) ∷ []) kept) first
    (subst (λ s. HasEvents g.L.EventLog.has c.note.new.self c.self.inside.failed c.args.self.now.first s (events ++ (c.args.moment, c.args.call.now.command) ∷ []) kept) start
    (appended g.L.EventLog.has c.args.self.now.log c.note.new.self c.args.self.now.failed _ c.args.self.now.first c.args.self.now.start (c.args.moment, c.args.call.now.command) sound
    (λ events kept h. c.note.ensures.noted c.args.call.now.command events kept words.say c.requires.command (subst (λ log. g.L.EventLog.has log events kept) same h)) events kept has))
