use Rattle.std.proofs.Common.{◌≡◌, ◌-◌}
use Rattle.xs_command.specs.Options.{many, up_to}
use Rattle.xs_command.proofs.options.read_options.Given as goal

-- reading on gives what reading from the start gives
abbrev pub invariant-loop-option : goal.invariant-loop-option
invariant-loop-option g l = up_to (l._option-end - l._option) g.S.Options.option l.state l.left ≡ many g.S.Options.option l.fn.none l.fn.words
