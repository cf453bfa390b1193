use Rattle.std.specs.Prelude.{◌≡◌, [], ◌∷◌, codes, Ok}
use Rattle.std.proofs.Common.{refl, subst, ap, ◌∙◌}
use Rattle.xs_command.specs.declared.command.Command.TheVariants.{Inspect}
use Rattle.xs_command.specs.declared.command.Inspection.TheVariants.{KeyCount}
use Rattle.xs_command.specs.Read.{command_of_words}
use Rattle.xs_command.proofs.Computing.{example_functions}
use Rattle.xs_desk.specs.Calls.{AreWordsOf}
use Rattle.xs_session.proofs.informing.words_of_keys.Goals as goal

says : command_of_words (codes "DBSIZE" ∷ []) ≡ Ok (Inspect KeyCount)
unfolding example_functions
says = refl

pub returns : goal.returns
returns c =
    let words : AreWordsOf c.as_slice.result.now (Inspect KeyCount) = record {
      say = ap command_of_words (c.as_slice.ensures ∙ c.in_ok-words.ensures) ∙ says;
      short = c.can_be_record.ensures c.if-not-can_be_record.false;
    } in
    subst (λ w. AreWordsOf w (Inspect KeyCount)) c.as_slice.ensures words
