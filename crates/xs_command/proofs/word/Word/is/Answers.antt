use Rattle.std.proofs.Common.{rules}
use Rattle.std.proofs.lemmas.Slice.Eq.{bytes_eq-Decides}
use Rattle.xs_command.specs.Words.{is_word}
use Rattle.xs_command.proofs.word.Word.is.Goals as goal

pub returns : goal.returns
unfolding is_word
returns c = search (rules, bytes_eq-Decides)
