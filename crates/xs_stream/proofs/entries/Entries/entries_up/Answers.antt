use Rattle.std.proofs.Common.{◌≡◌, ◌≤◌, false, [], ◌++◌, length, take, sym, ap, ◌∙◌, arith, subst, length-take}
use Rattle.std.proofs.lemmas.List.{append-nil, take_all}
use Rattle.std.specs.declared.ops.Bound.TheVariants.{Included, Unbounded}
use Rattle.xs_stream.specs.Id.{is_below}
use Rattle.xs_stream.specs.Blocks.{contents, entries_of_blocks, AreFiled}
use Rattle.xs_stream.proofs.Contents.{contents-between}
use Rattle.xs_stream.proofs.Order.{partial-le, le-not_below}
use Rattle.xs_stream.proofs.WithinBlocks.{within, walk-open, filed-some, none-above, not_true, up-more, take-full}
use Rattle.xs_stream.proofs.entries.Entries.entries_up.Goals as goal
use Rattle.xs_stream.proofs.entries.Entries.entries_up.Goals.{then-le-via-then-le, then-le-via-else-le+then-len-most}

pub loop-under-init : goal.loop-under-init
loop-under-init c =
    let all = c.args.self.now in
    let older = contents all.older.entries in
    let newest = all.newest.entries in
    let met = ap contents (c.into_iter-under-iterator.ensures.into_iter_gives ∙ c.range-blocks.ensures.between tt)
    ∙ sym (contents-between (Included c.args.range.low) Unbounded all.older.entries) in
    record {
      all = rw (c.new-shown.ensures.items, met) (ap (take c.args.most) (walk-open c.args.range older newest c.requires.filed));
      few = rw c.new-shown.ensures.items (omega arith);
      filed = rw met (filed-some _ older newest c.requires.filed);
    }

pub loop-under-preserved : goal.loop-under-preserved
loop-under-preserved c =
    let ids = c.loop-under.shown.items in
    let newest = c.args.self.now.newest.entries in
    let left = contents c.next.new.self in
    record {
      all = ap (λ found. take c.args.most (found ++ within c.args.range (entries_of_blocks left ++ newest))) c.in_ok-push_entries_up.ensures
          ∙ up-more c.args.range c.args.most ids (c.in-Some.under.now, c.in-Some.block.now.entries) left newest
          ∙ ap (λ bs. take c.args.most (ids ++ within c.args.range (entries_of_blocks bs ++ newest))) (sym (ap contents c.in-Some.ensures.steps)) ∙ c.loop-under.invariant.all;
      few = omega (arith, ap length c.in_ok-push_entries_up.ensures, length-take c.args.most (ids ++ within c.args.range c.in-Some.block.now.entries));
      filed = (subst (λ bs. AreFiled bs newest) (ap contents c.in-Some.ensures.steps) c.loop-under.invariant.filed).1;
    }

-- what is behind the block isn't within, where the block is filed under the high end or above it, or isn't asked for
pub returns-then-le : goal.returns-then-le
returns-then-le c =
    let ids = c.loop-under.shown.items in
    let newest = c.args.self.now.newest.entries in
    let left = contents c.next.new.self in
    let found = c.push_entries_up.new.shown.items in
    let rest = within c.args.range (entries_of_blocks left ++ newest) in
    let more = ap (λ xs. take c.args.most (xs ++ rest)) c.in_ok-push_entries_up.ensures
    ∙ up-more c.args.range c.args.most ids (c.in-Some.under.now, c.in-Some.block.now.entries) left newest
    ∙ ap (λ bs. take c.args.most (ids ++ within c.args.range (entries_of_blocks bs ++ newest))) (sym (ap contents c.in-Some.ensures.steps)) ∙ c.loop-under.invariant.all in
    let filed = subst (λ bs. AreFiled bs newest) (ap contents c.in-Some.ensures.steps) c.loop-under.invariant.filed in
    let few : length found ≤ c.args.most = omega (arith, ap length c.in_ok-push_entries_up.ensures, length-take c.args.most (ids ++ within c.args.range c.in-Some.block.now.entries)) in
    let whole = sym (take_all c.args.most found few) ∙ sym (ap (take c.args.most) (append-nil found)) in
    whole ∙ elim c.then-le.branch [
      | then-le-via-then-le w ↦
          let past : is_below c.in-Some.under.now c.args.range.high ≡ false =
          not_true _ (sym (le-not_below c.args.range.high c.in-Some.under.now) ∙ sym (partial-le _ _) ∙ sym (w.if-le.ensures)) in
          ap (λ others. take c.args.most (found ++ others)) (sym (none-above c.args.range c.in-Some.under.now (entries_of_blocks left ++ newest) filed.0.later_above past))
      | then-le-via-else-le+then-len-most w ↦ take-full c.args.most found [] rest (omega arith)
    ] ∙ more

pub returns : goal.returns
returns c =
    let ids = c.loop-under.shown.items in
    let newest = c.args.self.now.newest.entries in
    c.in_ok-push_entries_up-2.ensures ∙ ap (λ bs. take c.args.most (ids ++ within c.args.range (entries_of_blocks bs ++ newest))) (sym (ap contents c.in-None.ensures.steps.0)) ∙ c.loop-under.invariant.all
