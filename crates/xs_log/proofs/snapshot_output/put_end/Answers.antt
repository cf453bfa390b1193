use Rattle.std.proofs.Common.{◌≡◌, ◌∷◌, [], ap, sym, ◌∙◌, subst, arith}
use Rattle.std.specs.Prelude.{Err}
use Rattle.xs_log.specs.declared.snapshot_output.WriteFault.TheVariants.{TooLong}
use Rattle.xs_log.specs.SnapshotPieces.{AreShort}
use Rattle.xs_log.proofs.ShortWords.{number_short}
use Rattle.xs_log.proofs.SnapshotOutput.{end_put}
use Rattle.xs_log.proofs.snapshot_output.put_end.Goals as goal

pub returns-in-Ok-commit-clause-keeps : goal.returns-in-Ok-commit-clause-keeps
returns-in-Ok-commit-clause-keeps g c = λ number closed moment pieces has.
    end_put number closed moment pieces c.args.writer.now c.put_record.new.writer c.commit.new.self c.args.count c.in-Ok.word has c.in-Ok.ensures c.in-Ok-put_record.ensures.puts c.in-Ok-put_record.ensures.spelled
    c.in-Ok-commit.ensures.keeps c.in-Ok-commit.ensures.fault c.in-Ok-commit.ensures.pending

pub returns-in-Err-clause-short : goal.returns-in-Err-clause-short
returns-in-Err-clause-short g c = λ e.
    let same : c.in-Err.fault ≡ TooLong = cc (e) in
    c.put_record.ensures.long (c.in-Err.is ∙ ap (λ f. Err f) same) (subst (λ w. AreShort (w ∷ [])) (sym c.in-Ok.ensures) (number_short c.args.count (omega arith)))
