use Rattle.std.proofs.Common.{◌+◌, ◌++◌, length, map, decimal, refl, ap, ◌∙◌, subst}
use Rattle.xs_resp.specs.Line.{line}
use Rattle.xs_resp.specs.Grammar.{sent_word, sent_words}
use Rattle.xs_tape.specs.Escape.{escaped}
use Rattle.xs_tape.specs.Writing.{Puts}
use Rattle.xs_tape.proofs.Puts.{puts_broken, puts_join, two_broken, three_broken}
use Rattle.xs_tape.proofs.Pushes.{size_fits, record_parts}
use Rattle.xs_tape.proofs.log_writer.LogWriter.push.Goals as goal

pub record_size-size-requires : goal.record_size-size-requires
record_size-size-requires g c =
    size_fits c.args.first.now c.as_bytes-sum.result.now c.args.rest.now c.requires.spelled (record { is = c.as_bytes-sum.ensures.value ∙ c.format.ensures.text ∙ ap decimal c.checksum_of.ensures })

pub returns-in_err-put_head-clause-puts : goal.returns-in_err-put_head-clause-puts
returns-in_err-put_head-clause-puts g c =
    let first = c.args.first.now in
    let rest = c.args.rest.now in
    let sum = c.as_bytes-sum.result.now in
    let size = c.record_size-size.result in
    let text = record_parts first sum rest (length rest + 3) size refl c.record_size-size.ensures (record { is = c.as_bytes-sum.ensures.value ∙ c.format.ensures.text ∙ ap decimal c.checksum_of.ensures }) in
    subst (λ t. Puts c.args.self.now c.put_head.new.self t) text
    (puts_broken c.args.self.now c.put_head.new.self (line 42 (length rest + 3) ++ sent_word (decimal size)) (sent_word (escaped first) ++ (sent_word (escaped sum) ++ sent_words (map escaped rest)))
    c.in_err-put_head.ensures.fault c.in_err-put_head.ensures.puts)

pub returns-in_err-put_word-clause-puts : goal.returns-in_err-put_word-clause-puts
returns-in_err-put_word-clause-puts g c =
    let first = c.args.first.now in
    let rest = c.args.rest.now in
    let sum = c.as_bytes-sum.result.now in
    let size = c.record_size-size.result in
    let text = record_parts first sum rest (length rest + 3) size refl c.record_size-size.ensures (record { is = c.as_bytes-sum.ensures.value ∙ c.format.ensures.text ∙ ap decimal c.checksum_of.ensures }) in
    subst (λ t. Puts c.args.self.now c.put_word.new.self t) text
    (two_broken c.args.self.now c.put_head.new.self c.put_word.new.self (line 42 (length rest + 3) ++ sent_word (decimal size)) (sent_word (escaped first)) (sent_word (escaped sum) ++ sent_words (map escaped rest))
    c.in_err-put_word.ensures.fault c.in_ok-put_head.ensures.puts c.in_err-put_word.ensures.puts)

pub returns-in_err-put_word-2-clause-puts : goal.returns-in_err-put_word-2-clause-puts
returns-in_err-put_word-2-clause-puts g c =
    let first = c.args.first.now in
    let rest = c.args.rest.now in
    let sum = c.as_bytes-sum.result.now in
    let size = c.record_size-size.result in
    let text = record_parts first sum rest (length rest + 3) size refl c.record_size-size.ensures (record { is = c.as_bytes-sum.ensures.value ∙ c.format.ensures.text ∙ ap decimal c.checksum_of.ensures }) in
    subst (λ t. Puts c.args.self.now c.put_word-2.new.self t) text
    (three_broken c.args.self.now c.put_head.new.self c.put_word.new.self c.put_word-2.new.self (line 42 (length rest + 3) ++ sent_word (decimal size)) (sent_word (escaped first)) (sent_word (escaped sum)) (sent_words (map escaped rest))
    c.in_err-put_word-2.ensures.fault c.in_ok-put_head.ensures.puts c.in_ok-put_word.ensures.puts c.in_err-put_word-2.ensures.puts)

pub returns-clause-puts : goal.returns-clause-puts
returns-clause-puts g c =
    let first = c.args.first.now in
    let rest = c.args.rest.now in
    let sum = c.as_bytes-sum.result.now in
    let size = c.record_size-size.result in
    let text = record_parts first sum rest (length rest + 3) size refl c.record_size-size.ensures (record { is = c.as_bytes-sum.ensures.value ∙ c.format.ensures.text ∙ ap decimal c.checksum_of.ensures }) in
    subst (λ t. Puts c.args.self.now c.put_words.new.self t) text
    (puts_join c.args.self.now c.put_head.new.self c.put_words.new.self (line 42 (length rest + 3) ++ sent_word (decimal size)) (sent_word (escaped first) ++ (sent_word (escaped sum) ++ sent_words (map escaped rest)))
    c.in_ok-put_head.ensures.puts
    (puts_join c.put_head.new.self c.put_word.new.self c.put_words.new.self (sent_word (escaped first)) (sent_word (escaped sum) ++ sent_words (map escaped rest)) c.in_ok-put_word.ensures.puts
    (puts_join c.put_word.new.self c.put_word-2.new.self c.put_words.new.self (sent_word (escaped sum)) (sent_words (map escaped rest)) c.in_ok-put_word-2.ensures.puts c.put_words.ensures.puts)))
