use Rattle.std.proofs.Common.{not, sym}
use Rattle.xs_stream.specs.Id.{is_below}
use Rattle.xs_stream.specs.Blocks.{contents}
use Rattle.xs_stream.proofs.FiledBlocks.{no_entry, listed-newest, filed-newest}
use Rattle.xs_stream.proofs.entries.Entries.take.Goals as goal

pub returns-in-None-clause-entries : goal.returns-in-None-clause-entries
returns-in-None-clause-entries c =
    let all = c.args.self.now in
    let none = no_entry (λ k. not (is_below k c.args.id)) (contents all.older.entries) (sym c.in-None.ensures) in
    rw c.remove_alone.ensures.entries (listed-newest c.args.id (contents all.older.entries) all.newest.entries none c.requires.filed)

pub returns-in-None-clause-filed : goal.returns-in-None-clause-filed
returns-in-None-clause-filed c =
    let all = c.args.self.now in
    let none = no_entry (λ k. not (is_below k c.args.id)) (contents all.older.entries) (sym c.in-None.ensures) in
    rw c.remove_alone.ensures.entries (filed-newest c.args.id (contents all.older.entries) all.newest.entries none c.requires.filed)

pub returns-then-is_sparse-clause-filed_up_to_top : goal.returns-then-is_sparse-clause-filed_up_to_top
returns-then-is_sparse-clause-filed_up_to_top c = λ top up. c.tighten.ensures.filed_up_to_top top (c.take_from-removed.ensures.filed_up_to_top top up)
