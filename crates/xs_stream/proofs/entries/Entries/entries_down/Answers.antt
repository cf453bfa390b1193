use Rattle.std.proofs.Common.{[], ◌++◌, length, take, reverse, sym, ap, ◌∙◌, arith, length-take}
use Rattle.std.proofs.lemmas.List.{append-nil, take_all}
use Rattle.std.specs.BTreeMap.Range.{entries_between}
use Rattle.std.specs.declared.ops.Bound.TheVariants.{Included}
use Rattle.xs_stream.specs.Id.{id_cmp}
use Rattle.xs_stream.specs.Blocks.{contents, entries_of_blocks, end_at}
use Rattle.xs_stream.proofs.Contents.{contents-between, contents-append}
use Rattle.xs_stream.proofs.WithinBlocks.{within, walk-forward, walk-within, down-more, down-newest, take-full}
use Rattle.xs_stream.proofs.entries.Entries.entries_down.Goals as goal
use Rattle.xs_stream.proofs.entries.Entries.entries_down.Goals.{in-None, in-Some+then-len-most}

pub range-blocks-requires : goal.range-blocks-requires
range-blocks-requires c = rw c.end_at.ensures (walk-forward c.args.range (contents c.args.self.now.older.entries) c.requires.range)

pub loop-under-init : goal.loop-under-init
loop-under-init c =
    let all = c.args.self.now in
    let older = contents all.older.entries in
    let newest = all.newest.entries in
    let met = ap contents (c.range-blocks.ensures.between tt ∙ ap (λ end. entries_between id_cmp (Included c.args.range.low) end all.older.entries) c.end_at.ensures)
    ∙ sym (contents-between (Included c.args.range.low) (end_at c.args.range.high older) all.older.entries) in
    let first = c.in_ok-push_entries_down.ensures ∙ ap (λ ids. take c.args.most (ids ++ reverse (within c.args.range newest))) c.new-shown.ensures.items in
    record {
      all = rw (first, c.into_iter-under-iterator.ensures.into_iter_gives, c.rev-under-items.ensures.source, met)
          (down-newest c.args.range c.args.most (entries_between id_cmp (Included c.args.range.low) (end_at c.args.range.high older) older) newest ∙ ap (λ ids. take c.args.most (reverse ids)) (walk-within c.args.range older newest c.requires.laid_down.filed c.requires.range));
      few = omega (arith, ap length first, length-take c.args.most (reverse (within c.args.range newest)));
    }

pub loop-under-preserved : goal.loop-under-preserved
loop-under-preserved c =
    let ids = c.loop-under.shown.items in
    let left = contents c.next.new.self.iter in
    record {
      all = ap (λ found. take c.args.most (found ++ reverse (within c.args.range (entries_of_blocks left)))) c.in_ok-push_entries_down-2.ensures
          ∙ down-more c.args.range c.args.most ids left (c.in-Some._under.now, c.in-Some.block.now.entries)
          ∙ ap (λ bs. take c.args.most (ids ++ reverse (within c.args.range (entries_of_blocks bs)))) (sym (ap contents c.in-Some.ensures.steps ∙ contents-append c.next.new.self.iter _)) ∙ c.loop-under.invariant.all;
      few = omega (arith, ap length c.in_ok-push_entries_down-2.ensures, length-take c.args.most (ids ++ reverse (within c.args.range c.in-Some.block.now.entries)));
    }

pub returns : goal.returns
returns c =
    let ids = c.loop-under.shown.items in
    let rest = reverse (within c.args.range (entries_of_blocks (contents c.loop-under._under-iterator.iter))) in
    let few = take_all c.args.most ids c.loop-under.invariant.few in
    let whole = ap (take c.args.most) (append-nil ids) in
    sym few ∙ sym whole ∙ elim c.match-next.branch [
      | in-None w ↦ ap (λ bs. take c.args.most (ids ++ reverse (within c.args.range (entries_of_blocks bs)))) (sym (ap contents w.in-None.ensures.steps.0)) ∙ c.loop-under.invariant.all
      | in-Some+then-len-most w ↦ take-full c.args.most ids [] rest (omega arith) ∙ c.loop-under.invariant.all
    ]
