use Rattle.std.proofs.Common.{rules, ◌≢◌, [], Err}
use Rattle.xs_io.proofs.Passing.{Consumes-nil, Appends-nil}
use Rattle.xs_work.specs.declared.ahead.AheadFault.TheVariants as fault
use Rattle.xs_work.proofs.AheadWork.{serves-none, serves-reported, serves-unreported}
use Rattle.xs_work.proofs.worker.serve_one.Goals as goal

pub returns-in_default : goal.returns-in_default
returns-in_default g c =
    serves-reported c.args.manner.now c.args.client.now c.args.client.now [] [] _ _ (g.W.Sink.held c.args.writer.now) (Consumes-nil _) (Appends-nil _) (serves-none c.args.manner.now c.args.client.now) c.say.ensures.said

pub returns : goal.returns
returns g c =
    let s = c.serve_ahead-served.ensures.serves in
    let other : c.serve_ahead-served.result ≢ Err fault.Memory = search rules in
    serves-unreported c.args.manner.now c.serve_ahead-served.result c.args.client.now c.serve_ahead-served.new.client s.0 s.1 _ _ other s.2 s.3 s.4 c.serve_ahead-served.ensures.cause
