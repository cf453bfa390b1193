use Rattle.std.proofs.Common.{◌≡◌, ◌<◌, [], ◌∷◌, ◌∙◌, ◌+◌, true, drop, length, get_or, is_some, is_ok, sym, ap, refl}
use Rattle.std.proofs.Common.{subst, arith}
use Rattle.std.proofs.lemmas.List.{drop_more, append-nil}
use Rattle.std.proofs.Math.ListN.{drop_of_length-le}
use Rattle.xs_resp.proofs.Wholeness.{filled}
use Rattle.xs_keys.specs.Terms.{list_all, get, ReadOne}
use Rattle.xs_keys.specs.ContentAfter.{group_in}
use Rattle.xs_keys.specs.Reply.{parts}
use Rattle.xs_keys.proofs.ReadSteps.{Underway, first-there, one-more, parts-le, made-push}
use Rattle.xs_keys.proofs.WholeReplies.{parts-whole}
use Rattle.xs_keys.proofs.xreadgroup.serve_all.Goals as goal
use Rattle.xs_keys.proofs.xreadgroup.serve_all.Goals.{After-one-item}

pub loop-one-init : goal.loop-one-init
loop-one-init c = record {
  underway = record {
    content = refl;
    shown = rw c.new-tokens.ensures refl;
    counted = omega arith;
    there = ap (list_all (λ (one : ReadOne). is_some (group_in (get c.args.keys.now one.key) c.args.read.now.group))) c.as_slice-reads.ensures ∙ c.requires;
  };
  made = rw c.in_ok-deliveries.ensures.items refl;
  count = c.in_ok-deliveries.ensures.len;
  room = c.in_ok-deliveries.ensures.capacity;
}

-- the next read is the first of those that are left
underway : (c : After-one-item) → Underway c.args.now c.args.read.now c.as_slice-reads.result.now c.args.keys.now
    (c.one-item.result ∷ drop (c.loop-one.one-index + 1) c.as_slice-reads.result.now) c.loop-one.keys c.loop-one.tokens c.loop-one.parts
underway c =
    let reads = c.as_slice-reads.result.now in
    let more = drop (c.loop-one.one-index + 1) reads in
    subst (λ left. Underway c.args.now c.args.read.now reads c.args.keys.now left c.loop-one.keys c.loop-one.tokens c.loop-one.parts)
    (drop_more reads c.loop-one.one-index c.one-item.result c.loop-one-test.true ∙ ap (λ (one : ReadOne). one ∷ more) (sym c.one-item.is))
    c.loop-one.invariant.underway

pub serve_at-requires : goal.serve_at-requires
serve_at-requires c =
    first-there (λ (one : ReadOne). is_some (group_in (get c.loop-one.keys one.key) c.args.read.now.group)) c.one-item.result
    (drop (c.loop-one.one-index + 1) c.as_slice-reads.result.now) (underway (goal.at.serve_at-requires c).After-one-item).there

pub unwrap-requires : goal.unwrap-requires
unwrap-requires c = c.push.ensures.succeeds (omega arith)

pub loop-one-preserved : goal.loop-one-preserved
loop-one-preserved c =
    let reads = c.as_slice-reads.result.now in
    let first = c.args.keys.now in
    let deliveries = c.loop-one.deliveries in
    let is = c.in-Ok.ensures.ok in
    let ok : is_ok c.push.result ≡ true = c.push.ensures.succeeds (omega arith) in
    let items = rw ok at c.push.ensures.items in
    let len = rw ok at c.push.ensures.len in
    let count : length deliveries.items ≡ c.loop-one.one-index = omega (arith, deliveries.ok.0) in
    let lt : length deliveries.items < length reads = omega arith in
    let place : c.one-item.result ≡ get_or reads (length deliveries.items) c.one-item.result = rw count c.one-item.is in
    record {
      underway = one-more c.args.now c.args.read.now reads first _ _ _ _ _ _ _ _ (underway (goal.at.loop-one-preserved c).After-one-item) is;
      made = rw items (made-push c.args.read.now.group reads deliveries.items first c.loop-one.keys c.serve_at.new.keys c.one-item.result c.in-Ok.served.delivery c.loop-one.invariant.made lt place is.made);
      count = omega (arith, len);
      room = omega (arith, c.push.ensures.capacity);
    }

pub undo_all-requires : goal.undo_all-requires
undo_all-requires c = (c.args.keys.now, rw c.in-Err.ensures.err c.loop-one.invariant.made)

pub overflow_add-parts : goal.overflow_add-parts
overflow_add-parts c =
    let reads = c.as_slice-reads.result.now in
    let first = c.args.keys.now in
    let more = one-more c.args.now c.args.read.now reads first _ _ _ _ _ _ _ _ (underway (goal.at.overflow_add-parts c).After-one-item) c.in-Ok.ensures.ok in
    omega (arith, more.counted, parts-le first c.args.now c.args.read.now reads, c.loop-one.invariant.room, c.loop-one.deliveries.small)

pub new-requires : goal.new-requires
new-requires c =
    let reads = c.as_slice-reads.result.now in
    let all = parts c.args.keys.now c.args.now c.args.read.now reads in
    let tokens = c.loop-one.tokens in
    let none : drop c.loop-one.one-index reads ≡ [] = drop_of_length-le reads c.loop-one-test.false in
    let end = subst (λ left. Underway c.args.now c.args.read.now reads c.args.keys.now left c.loop-one.keys tokens c.loop-one.parts) none c.loop-one.invariant.underway in
    filled all c.loop-one.parts [] tokens (parts-whole c.args.keys.now c.args.now c.args.read.now reads) (omega (arith, end.counted)) refl (sym (append-nil tokens) ∙ end.shown)
