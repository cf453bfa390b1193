use Rattle.std.proofs.Common.{◌≡◌, ap, ap₂, ◌∙◌, subst, true, [], codes, map, string_bytes, rules, inl, inr}
use Rattle.clap.specs.Words.{App, HasKind, app_of, fault_of, is_simple_and_free, kind_of, new_app, with_subcommand}
use Rattle.clap.specs.declared.error.Error.{Error}
use Rattle.clap.specs.declared.error.kind.ErrorKind.TheVariants.{OutOfMemory}
use Rattle.clap.specs.Simple.{app_of_fields, on_top}
use Rattle.xs_server.proofs.CommandLines.{program, asks, passes}
use Rattle.xs_server.proofs.command_line.parse.Goals as goal
use Rattle.xs_server.proofs.command_line.parse.Goals.{After-try_get_matches_from}

-- the command that is built is the program
program_is : (c : After-try_get_matches_from) → app_of c.in_ok-program.program ≡ program
program_is c =
    let script_is : app_of c.about-script.result ≡ new_app (codes "script") = ap app_of_fields c.about-script.ensures ∙ c.new.ensures.app in
    let top_is : app_of c.subcommand_required.result ≡ on_top (λ s. record s { subcommand_required = true }) (new_app (codes "xs_server")) =
    ap app_of_fields c.subcommand_required.ensures ∙ ap (on_top (λ s. record s { subcommand_required = true })) (ap app_of_fields c.about.ensures ∙ c.new-2.ensures.app) in
    c.in_ok-program.ensures.shape (search rules) ∙ ap₂ with_subcommand top_is (ap (λ (a : App). a.top) script_is)

only_memory : (e : Error) → HasKind [] e → kind_of e ≡ OutOfMemory
only_memory e (inl h) = h
only_memory e (inr h) = absurd h

pub returns-clause-err : goal.returns-clause-err
returns-clause-err c = λ asked.
    let is = program_is (goal.at.returns-clause-err c).After-try_get_matches_from in
    let words = map (λ word. string_bytes word) c.args.words.now in
    let fails = c.in-Err.ensures.kinds (ap is_simple_and_free is) in
    only_memory c.in-Err.error (subst (λ faults. HasKind faults c.in-Err.error) (ap (λ a. fault_of a words) is ∙ passes words asked) fails)

pub returns-in-Ok-clause-ok : goal.returns-in-Ok-clause-ok
returns-in-Ok-clause-ok c =
    let is = program_is (goal.at.returns-in-Ok-clause-ok c).After-try_get_matches_from in
    let words = map (λ word. string_bytes word) c.args.words.now in
    asks words (subst (λ a. fault_of a words ≡ []) is (c.in-Ok.ensures.kinds (ap is_simple_and_free is)))
