use Rattle.std.proofs.Common.{◌≡◌, ◌<◌, ◌++◌, ◌∙◌, ℕ, List, length, filter, take, drop, reverse, sym, ap, arith, length-append, length-take}
use Rattle.std.proofs.lemmas.List.{take_all, take_at, drop_at}
use Rattle.xs_stream.specs.declared.id.Id.{Id}
use Rattle.xs_stream.specs.declared.field.Field.{Field}
use Rattle.xs_stream.specs.StreamContent.{is_within}
use Rattle.xs_stream.specs.PassedEntries.{unpacked_entries}
use Rattle.xs_stream.proofs.block.Block.push_entries_down.Goals as goal
use Rattle.xs_stream.proofs.block.Block.push_entries_down.Goals.{After-packed}

-- a list that is shorter than its limit has all
whole : {X : Type 0} (n : ℕ) (found all : List X) → found ≡ take n all → length found < n → found ≡ all
whole n found all e few = e ∙ take_all n all (omega (arith, length-take n all, ap length e))

turned : {X : Type 0} (from : ℕ) (old more new : List X) → new ≡ old ++ more → from ≡ length old → take from new ++ reverse (drop from new) ≡ old ++ reverse more
turned from old more new e at =
    ap (λ xs. take from xs ++ reverse (drop from xs)) e
    ∙ ap (λ xs. xs ++ reverse (drop from (old ++ more))) (take_at old more from (sym at)) ∙ ap (λ xs. old ++ reverse xs) (drop_at old more from (sym at))

-- what is appended
abbrev more : After-packed → List (Id × List Field)
more c = filter (λ e. is_within c.args.range e.0) (unpacked_entries c.packed.result)

pub reverse_from-requires : goal.reverse_from-requires
reverse_from-requires c =
    let old = c.reserve.new.self.items in
    let new = more (goal.at.reverse_from-requires c).After-packed in
    let all = whole 18446744073709551615 c.push_entries.new.shown.items (old ++ new) c.in_ok-push_entries.ensures (omega (arith, c.push_entries.new.shown.ok.0)) in
    omega (arith, ap length all, length-append old new, c.push_entries.new.shown.ok.0, c.reserve.new.self.ok.0)

pub returns : goal.returns
returns c =
    let old = c.reserve.new.self.items in
    let new = more (goal.at.returns c).After-packed in
    let all = whole 18446744073709551615 c.push_entries.new.shown.items (old ++ new) c.in_ok-push_entries.ensures (omega (arith, c.push_entries.new.shown.ok.0)) in
    rw (← c.in_ok-reserve.ensures.items, ← c.packed.ensures)
    (c.truncate.ensures.items ∙ ap (take c.args.most) (c.reverse_from.ensures ∙ turned c.len-from.result old new _ all (omega (arith, c.reserve.new.self.ok.0))))
