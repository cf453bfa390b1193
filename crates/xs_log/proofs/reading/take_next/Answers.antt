use Rattle.std.proofs.Common.{true, Ok, sym, ap, ◌∙◌, subst, arith}
use Rattle.xs_log.specs.Reading.{MayStand, TakesRequest}
use Rattle.xs_log.proofs.Steps.{ready_same, ready_fault, ready_found, ready_front, front_size, front_words, no_fault, may_stand, only_want, read_more}
use Rattle.xs_log.proofs.reading.take_next.Goals as goal

pub returns-in-Err-clause-err : goal.returns-in-Err-clause-err
returns-in-Err-clause-err c = λ start before seen up part.
    no_fault c.args.number start before seen up.rest c.args.requests.now c.args.at.now c.args.recovered.now.keyspace c.args.recovered.now.last up part up.holds
    (ready_fault c.args.requests.now up.rest c.has_next.result c.has_next.new.self c.in-Err.field-0 up.holds c.has_next.ensures c.in-Err.is)

pub take_request-requires : goal.take_request-requires
take_request-requires c =
    let yes = c.in-Ok-true.is ∙ ap (λ b. Ok b) c.in-Ok-true.field-0-test in
    let front = ready_front c.args.requests.now c.has_next.result c.has_next.new.self c.has_next.ensures yes in
    front_size c.has_next.new.self front c.front-sent.result c.front_len-len.result c.front-sent.ensures c.front_len-len.ensures

pub returns-in-Err-take_request-clause-err : goal.returns-in-Err-take_request-clause-err
returns-in-Err-take_request-clause-err c = λ start before seen up part.
    let yes = c.in-Ok-true.is ∙ ap (λ b. Ok b) c.in-Ok-true.field-0-test in
    let held = c.args.requests.now in
    let there = ready_found held up.rest c.has_next.result c.has_next.new.self up.holds c.has_next.ensures yes in
    let same = ready_same held c.has_next.result c.has_next.new.self true c.has_next.ensures yes in
    let words = c.front-sent.ensures ∙ front_words c.has_next.new.self up.rest there.found (same ∙ up.holds) there.read in
    let may = may_stand c.args.number start before seen up.rest held c.args.at.now c.args.recovered.now.keyspace c.args.recovered.now.last there.found up part up.holds there.read in
    only_want c.in-Err-take_request.fault (MayStand c.args.number c.args.at.now c.front-sent.result) c.in-Err-take_request.ensures.err (subst (λ ws. MayStand c.args.number c.args.at.now ws) (sym words) may)

pub returns-clause-ok : goal.returns-clause-ok
returns-clause-ok c = λ start before seen up.
    let yes = c.in-Ok-true.is ∙ ap (λ b. Ok b) c.in-Ok-true.field-0-test in
    let held = c.args.requests.now in
    let bytes = c.skip.ensures.bytes in
    let found = c.skip.ensures.found in
    let same = ready_same held c.has_next.result c.has_next.new.self true c.has_next.ensures yes in
    let words = c.front-sent.ensures ∙ front_words c.has_next.new.self bytes found c.skip.ensures.holds c.skip.ensures.read in
    let size = c.front_len-len.ensures bytes found c.skip.ensures.holds c.skip.ensures.read in
    read_more c.args.number start before seen held c.skip.new.self c.args.at.now c.in-Some.end c.args.recovered.now.keyspace c.take_request.new.recovered.keyspace c.args.recovered.now.last c.take_request.new.recovered.last bytes found
    up (sym same ∙ c.skip.ensures.holds) c.skip.ensures.read c.skip.ensures.left (omega (arith, c.in-Some.ensures.1, size))
    (subst (λ ws. TakesRequest c.args.number c.args.at.now ws c.args.recovered.now.keyspace c.args.recovered.now.last c.take_request.new.recovered.keyspace c.take_request.new.recovered.last) words c.in-Ok.ensures.ok)
