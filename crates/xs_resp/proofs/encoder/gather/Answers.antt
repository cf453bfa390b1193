use Rattle.std.proofs.Common.{arith}
use Rattle.xs_resp.proofs.Encoding.{strings-next, text-next}
use Rattle.xs_resp.proofs.encoder.gather.Goals as goal

pub loop-taken-preserved : goal.loop-taken-preserved
loop-taken-preserved c =
    let found = c.token-found.ensures in
    let so_far = c.loop-taken.invariant in
    record {
      room = c.append.ensures.room;
      within = omega (arith, found.next, c.loop-taken-test.true, c.len.ensures);
      strings = strings-next c.loop-taken.taken _ _ _ c.args.tokens.now _ _ _ so_far.strings found.token found.string found.next found.end;
      text = text-next c.loop-taken.taken _ c.args.tokens.now _ c.loop-taken.out.items _ _ found.token found.next so_far.text c.in-Whole.ensures.appended;
    }
