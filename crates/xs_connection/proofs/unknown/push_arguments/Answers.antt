use Rattle.std.proofs.Common.{◌≡◌, ℕ, List, ◌∷◌, [], ◌++◌, take, ◌-◌, length, ◌+◌, ap, sym, ◌∙◌, append_assoc, append-nil, arith}
use Rattle.xs_connection.specs.Unknown.{arguments, quoted}
use Rattle.xs_connection.proofs.Arguments.{arguments-full, arguments-none, arguments-more, word-none, word-some}
use Rattle.xs_connection.proofs.unknown.push_arguments.Goals as goal

pub returns-in_default : goal.returns-in_default
returns-in_default c =
    let none = word-none c.loop-used.left c.in_default.field-0 (sym c.word.ensures ∙ c.in_default.is) in
    sym (append-nil c.loop-used.text.items) ∙ ap (λ a. c.loop-used.text.items ++ a) (sym (ap (arguments c.loop-used.used) none ∙ arguments-none c.loop-used.used)) ∙ c.loop-used.invariant

pub loop-used-preserved : goal.loop-used-preserved
loop-used-preserved c =
    let used = c.loop-used.used in
    let w : List ℕ = c.in-Ok.word in
    let rest : List (List ℕ) = c.in-Ok.rest in
    let text = c.loop-used.text.items in
    let first = word-some c.loop-used.left rest w (sym c.word.ensures ∙ c.in-Ok.is) in
    let cut : c.first_bytes-cut.result.now ≡ take (128 - used) w = c.first_bytes-cut.ensures ∙ ap (take (128 - used)) c.as_slice.ensures in
    let appended : c.push_quoted.new.text.items ≡ text ++ quoted (take (128 - used) w) = c.in_ok-push_quoted.ensures ∙ ap (λ (b : List ℕ). text ++ quoted b) cut in
    rw (appended, cut) (append_assoc text (quoted (take (128 - used) w)) (arguments (used + (length (take (128 - used) w) + 3)) rest)
    ∙ ap (λ a. text ++ a) (sym (ap (arguments used) first ∙ arguments-more used w rest c.loop-used-test.true)) ∙ c.loop-used.invariant)

pub returns : goal.returns
returns c =
    sym (append-nil c.loop-used.text.items) ∙ ap (λ a. c.loop-used.text.items ++ a) (sym (arguments-full c.loop-used.used c.loop-used.left (omega (arith, c.loop-used-test.false)))) ∙ c.loop-used.invariant
