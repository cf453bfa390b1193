use Rattle.std.proofs.Common.{arith}
use Rattle.xs_log.proofs.PieceWords.{key_said}
use Rattle.xs_log.proofs.piece_words.key_of.Goals as goal

pub returns : goal.returns
returns c =
    key_said c.args.values.now c.name-item.result c.ms-item.result c.seq-item.result c.high-item.result c.low-item.result c.deleted_ms-item.result c.deleted_seq-item.result c.in_ok-name.name c.in-Some.top c.in-Some-id_of.deleted
    c.in-Some-wide_of.added (omega (arith, c.in-len7.len_at_least, c.in-len7.len_below)) c.name-item.is c.ms-item.is c.seq-item.is c.high-item.is c.low-item.is c.deleted_ms-item.is c.deleted_seq-item.is c.in_ok-name.ensures c.in-Some.ensures
    c.in-Some-wide_of.ensures c.in-Some-id_of.ensures
