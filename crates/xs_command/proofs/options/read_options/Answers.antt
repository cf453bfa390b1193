use Rattle.std.proofs.Common.{◌≡◌, ◌-◌, Ok, sym, ◌∙◌}
use Rattle.std.proofs.lemmas.Result.{err_from_is_err_and}
use Rattle.xs_command.specs.Words.{word}
use Rattle.xs_command.specs.Options.{many}
use Rattle.xs_command.proofs.OptionSteps.{at_end, fails, goes_on, stops, is_done}
use Rattle.xs_command.proofs.options.read_options.Goals as goal

pub returns-in_default : goal.returns-in_default
returns-in_default g c =
    sym c.loop-option.invariant ∙ at_end g.S.Options.option (c.len-option-end.result - c.loop-option._option) c.loop-option.state c.loop-option.left c.in_default.field-0 (sym c.word.ensures ∙ c.in_default.is)

pub returns-in_err-read : goal.returns-in_err-read
returns-in_err-read g c =
    let p = err_from_is_err_and c.from_residual.result c.from_residual.ensures.1 in
    let next : word c.loop-option.left ≡ Ok (c.in-Ok.name, c.in-Ok.rest) = cc in
    rw (p.1, p.2) (fails c.in_err-read.field-0.0 g.S.Options.option c.len-option-end.result c.loop-option._option c.loop-option.state c.loop-option.left (c.in-Ok.name, c.in-Ok.rest) (many g.S.Options.option c.args.none c.args.words) c.loop-option-test.true next c.in_err-read.ensures c.loop-option.invariant)

pub returns-in_default-behind : goal.returns-in_default-behind
returns-in_default-behind g c =
    let next : word c.loop-option.left ≡ Ok (c.in-Ok.name, c.in-Ok.rest) = cc in
    stops g.S.Options.option c.len-option-end.result c.loop-option._option c.loop-option.state c.in_ok-read.read c.loop-option.left c.in_ok-read.behind (c.in-Ok.name, c.in-Ok.rest) (many g.S.Options.option c.args.none c.args.words) c.loop-option-test.true next c.in_ok-read.ensures c.in_default-behind.is c.loop-option.invariant

pub loop-option-preserved : goal.loop-option-preserved
loop-option-preserved g c =
    let next : word c.loop-option.left ≡ Ok (c.in-Ok.name, c.in-Ok.rest) = cc in
    goes_on g.S.Options.option c.len-option-end.result c.loop-option._option c.loop-option.state c.in_ok-read.read c.loop-option.left c.in-Some.behind c.in_ok-read.behind (c.in-Ok.name, c.in-Ok.rest) (many g.S.Options.option c.args.none c.args.words) c.loop-option-test.true next c.in_ok-read.ensures c.in-Some.is c.loop-option.invariant

pub returns : goal.returns
returns g c = sym c.loop-option.invariant ∙ is_done g.S.Options.option c.len-option-end.result c.loop-option._option c.loop-option.state c.loop-option.left c.loop-option-test.false
