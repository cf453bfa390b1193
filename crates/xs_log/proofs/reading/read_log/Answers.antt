use Rattle.std.proofs.Common.{◌≡◌, ◌++◌, [], drop, Ok, sym, ap, ◌∙◌, subst, arith}
use Rattle.std.proofs.lemmas.Bool.Decides.{nat_tests}
use Rattle.xs_io.proofs.Passing.{Consumes-nil, Consumes-trans}
use Rattle.xs_tape.specs.Heads.{MayBeCut}
use Rattle.xs_replay.specs.Log.{HasEvents}
use Rattle.xs_log.proofs.Steps.{read_first, read_fed, read_all, rest_is, is_cut, seen_part}
use Rattle.xs_log.proofs.Results.{if_ok_as, both_ok}
use Rattle.xs_log.proofs.Crashed.{read-whole}
use Rattle.xs_log.proofs.reading.read_log.Goals as goal

pub loop-init : goal.loop-init
loop-init g c =
    ([], Consumes-nil (g.R.Source.rest c.args.log.now), read_first c.args.number c.args.recovered.now.keyspace c.args.recovered.now.last c.new-requests.result c.new-requests.ensures)

pub returns-in-Err-clause-err : goal.returns-in-Err-clause-err
returns-in-Err-clause-err g c = λ bytes known part.
    let so_far = c.loop.invariant in
    c.in-Err.ensures.err c.args.recovered.now.keyspace c.args.recovered.now.last so_far.0 so_far.2
    (seen_part c.args.number (g.R.Source.rest c.args.log.now) (g.R.Source.rest c.loop.log) bytes so_far.0 known so_far.1 part)

pub returns-in-Ok-eq0 : goal.returns-in-Ok-eq0
returns-in-Ok-eq0 g c =
    let rest = g.R.Source.rest in
    let number = c.args.number in
    let start = c.args.recovered.now.keyspace in
    let before = c.args.recovered.now.last in
    let so_far = c.loop.invariant in
    let gave = c.in-Ok-eq0.ensures.ok in
    let all = so_far.0 ++ gave.0 in
    let content = c.take_next.new.recovered.keyspace in
    let moment = c.take_next.new.recovered.last in
    let held = c.fill.new.self in
    let at = c.take_next.new.at in
    let up = c.in-Ok-false.ensures.ok start before so_far.0 so_far.2 in
    let none = c.take_next.ensures.none (c.in-Ok-false.is ∙ ap (λ b. Ok b) c.in-Ok-false.field-0-test) in
    let fed = read_fed number start before so_far.0 gave.0 c.take_next.new.requests held at content moment up gave.5 in
    let zero : c.in-Ok-eq0.field-0 ≡ 0 = grind (arith, nat_tests, c.in-Ok-eq0.field-0-test) in
    let holds = c.fill.ensures.none (c.in-Ok-eq0.is ∙ ap (λ n. Ok n) zero) ∙ none.1 in
    let consumes = Consumes-trans (rest c.args.log.now) (rest c.loop.log) (rest c.fill.new.reader) so_far.0 gave.0 so_far.1 gave.3 in
    let end = (gave.4 zero).0 in
    let ends = both_ok c.extent_at_end.result _ _ c.extent_at_end.ensures.whole (c.extent_at_end.ensures.part none.0 holds) in
    record {
      ok = if_ok_as c.extent_at_end.result _ _ (λ extent is. (
        all,
        fed.events,
        consumes,
        end,
        subst (λ w. HasEvents number all fed.events w extent.part) (sym is.0) (read_all number start before all none.0 held at extent.part content moment fed holds none.2 (is.1).0),
        fed.content_is,
        fed.moment_is,
      )) ends;
      cut = λ bytes known. if_ok_as c.extent_at_end.result _ _ (λ extent is.
          let whole = read-whole (rest c.args.log.now) bytes (rest c.fill.new.reader) all known consumes end in
          let behind = rest_is number start before all none.0 held at content moment fed holds in
          subst (λ b. MayBeCut (drop extent.whole b)) whole (subst (λ w. MayBeCut (drop w all)) (sym is.0) (subst MayBeCut (sym behind) (is.1).1))) ends;
      err = λ bytes known part.
          let seen = seen_part number (rest c.args.log.now) (rest c.fill.new.reader) bytes all known consumes part in
          c.extent_at_end.ensures.err none.0 holds (is_cut number start before all none.0 held at content moment fed seen holds none.2);
    }

pub loop-preserved : goal.loop-preserved
loop-preserved g c =
    let rest = g.R.Source.rest in
    let so_far = c.loop.invariant in
    let gave = c.in-Ok.ensures.ok in
    let got = gave.0 in
    let up = c.in-Ok-false.ensures.ok c.args.recovered.now.keyspace c.args.recovered.now.last so_far.0 so_far.2 in (
      so_far.0 ++ got,
      Consumes-trans (rest c.args.log.now) (rest c.loop.log) (rest c.fill.new.reader) so_far.0 got so_far.1 gave.3,
      read_fed c.args.number c.args.recovered.now.keyspace c.args.recovered.now.last so_far.0 got c.take_next.new.requests c.fill.new.self c.take_next.new.at
          c.take_next.new.recovered.keyspace c.take_next.new.recovered.last up gave.5,
    )
