use Rattle.std.proofs.lemmas.Result.{err_from_is_err_and}
use Rattle.xs_resp.proofs.Replying.{front-kept}
use Rattle.xs_resp.proofs.Marks.{fits-next, written-next, behind-next}
use Rattle.xs_resp.proofs.writing.write_tokens.Goals as goal

pub split_at-requires : goal.split_at-requires
split_at-requires c =
    rw (c.string_length.ensures, c.loop-mark.invariant.behind) (fits-next c.args.marks.now c.loop-mark.mark-index _ c.args.strings.now c.loop-mark-test.true c.requires)

pub returns-in_err-write_token : goal.returns-in_err-write_token
returns-in_err-write_token c =
    let p = err_from_is_err_and c.from_residual.result c.from_residual.ensures.1 in
    rw (p.1) (front-kept _ _ _ _ c.loop-mark.invariant.written c.in_err-write_token.ensures.text)

pub loop-mark-preserved : goal.loop-mark-preserved
loop-mark-preserved c =
    let i = c.loop-mark.mark-index in
    let so_far = c.loop-mark.invariant in
    record {
      written = written-next c.args.marks.now i _ c.args.strings.now c.loop-mark-test.true _ _ _ _ _ _ so_far.written so_far.behind c.string_length.ensures c.split_at.ensures.front c.in_ok-write_token.ensures.text;
      behind = behind-next c.args.marks.now i _ c.args.strings.now c.loop-mark-test.true _ _ _ so_far.behind c.string_length.ensures c.split_at.ensures.back;
    }
