use Rattle.std.proofs.Common.{◌≡◌, ◌∙◌, true, not, Option, Some, None, Bor, is_some, sym, ap, refl}
use Rattle.std.proofs.lemmas.List.Folds.{list_all_at, list_all_more}
use Rattle.xs_keys.specs.Terms.{list_all, option_map, get, GroupState, ReadOne}
use Rattle.xs_keys.specs.ContentAfter.{group_in}
use Rattle.xs_keys.proofs.xreadgroup.all_there.Goals as goal

is_there : (o : Option (Bor GroupState)) → is_some (option_map (λ g. g.now) o) ≡ is_some o
is_there None = refl
is_there (Some g) = refl

pub returns-then-is_none : goal.returns-then-is_none
returns-then-is_none c =
    let there = λ (one : ReadOne). is_some (group_in (get c.args.keys.now one.key) c.args.read.now.group) in
    let one = c.one-item.result in
    let found = sym (is_there c.group_at.result) ∙ ap is_some c.group_at.ensures in
    let fails = ap there (sym c.one-item.is) ∙ sym found ∙ c.is_none.ensures ∙ ap not c.if-is_none.true in
    sym (ap (list_all there) (sym c.as_slice-one-items.ensures) ∙ list_all_at there c.as_slice-one-items.result.now c.loop-one.one-index one c.loop-one-test.true fails)

pub loop-one-preserved : goal.loop-one-preserved
loop-one-preserved c =
    let there = λ (one : ReadOne). is_some (group_in (get c.args.keys.now one.key) c.args.read.now.group) in
    let one = c.one-item.result in
    let found = sym (is_there c.group_at.result) ∙ ap is_some c.group_at.ensures in
    let holds : there one ≡ true = sym found ∙ c.is_none.ensures ∙ ap not c.if-is_none.false in
    list_all_more there c.as_slice-one-items.result.now c.loop-one.one-index one c.loop-one-test.true ∙ (rw (c.loop-one.invariant, ← c.one-item.is) holds)
