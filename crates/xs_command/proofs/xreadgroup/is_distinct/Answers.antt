use Rattle.std.proofs.Common.{◌≡◌, ℕ, ◌+◌, ◌<◌, List, [], ◌∷◌, ◌++◌, length, take, get_or, refl, sym, ap, ◌∙◌, bytes_eq}
use Rattle.std.proofs.Common.{Bor, arith}
use Rattle.std.specs.List.{list_any}
use Rattle.std.specs.Ordering.{nat_cmp, is_eq}
use Rattle.std.specs.Cmp.Lexicographic.{slice_cmp}
use Rattle.std.proofs.lemmas.List.{take_more}
use Rattle.std.proofs.lemmas.Map.Text.{is_eq-slice_cmp}
use Rattle.xs_command.specs.Streams.{is_distinct}
use Rattle.xs_command.proofs.DistinctKeys.{single, found_again, is_new, has_more, was_there, was_new}
use Rattle.xs_command.proofs.xreadgroup.is_distinct.Goals as goal

-- the keys up to this one
keys_more : (keys : List (List ℕ)) (i : ℕ) (key : List ℕ) → i < length keys → key ≡ get_or keys i key → take (i + 1) keys ≡ take i keys ++ key ∷ []
keys_more keys i key h is = take_more keys i key h ∙ ap (λ k. take i keys ++ k ∷ []) (sym is)

pub returns-then-keys-lt2 : goal.returns-then-keys-lt2
returns-then-keys-lt2 c = single c.args.keys.now (omega arith)

pub loop-key-init : goal.loop-key-init
unfolding is_distinct
loop-key-init c = (refl, λ q. ap (λ (keys : List (Bor (List ℕ))). list_any (λ key. is_eq (slice_cmp nat_cmp q.now key.now)) keys) c.new-seen.ensures.empty)

pub returns-then-not-branch : goal.returns-then-not-branch
returns-then-not-branch c =
    let keys = c.args.keys.now in
    let i = c.loop-key.key-index in
    let key = c.key-item.result in
    let more = keys_more keys i key c.loop-key-test.true c.key-item.is in
    let there = was_there _ _ c.in_ok-insert.ensures.added c.if-not-branch.true in
    let among = ap (λ t. list_any (bytes_eq t) (take i keys)) (sym c.as_slice.ensures) ∙ sym (c.loop-key.invariant.1 c.as_slice.result) ∙ there in
    found_again keys (i + 1) (take i keys) key more among

pub loop-key-preserved : goal.loop-key-preserved
loop-key-preserved c =
    let keys = c.args.keys.now in
    let i = c.loop-key.key-index in
    let key = c.key-item.result in
    let more = keys_more keys i key c.loop-key-test.true c.key-item.is in
    let absent = was_new _ _ c.in_ok-insert.ensures.added c.if-not-branch.false in
    let apart = ap (λ t. list_any (bytes_eq t) (take i keys)) (sym c.as_slice.ensures) ∙ sym (c.loop-key.invariant.1 c.as_slice.result) ∙ absent in (
      rw more (is_new (take i keys) key c.loop-key.invariant.0 apart),
      λ q. c.in_ok-insert.ensures.updates.0 q ∙ has_more (take i keys) key q.now _ _ (is_eq-slice_cmp c.as_slice.result.now q.now ∙ ap (λ t. bytes_eq t q.now) c.as_slice.ensures) (c.loop-key.invariant.1 q) ∙ ap (list_any (bytes_eq q.now)) (sym more),
    )
