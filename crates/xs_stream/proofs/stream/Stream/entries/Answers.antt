use Rattle.std.proofs.Common.{◌≡◌, ℕ, take, true, false, Bool, Option, None, Some, List, [], sym, ◌∙◌, reverse, ap, subst}
use Rattle.std.proofs.Math.Seq.{take-nil}
use Rattle.xs_stream.specs.declared.id.Id.{Id}
use Rattle.xs_stream.specs.declared.field.Field.{Field}
use Rattle.xs_stream.specs.declared.range.Range.{Range}
use Rattle.xs_stream.specs.Id.{is_below}
use Rattle.xs_stream.specs.StreamContent.{entries_within, AreEntriesOf}
use Rattle.xs_stream.specs.Blocks.{all_of}
use Rattle.xs_stream.proofs.Order.{partial-below}
use Rattle.xs_stream.proofs.WithinBlocks.{within, within-none}
use Rattle.xs_stream.proofs.Lending.{within-found}
use Rattle.xs_stream.proofs.stream.Stream.entries.Goals as goal
use Rattle.xs_stream.proofs.stream.Stream.entries.Goals.{then-reversed+in_ok-entries, else-reversed+in_ok-entries-2}

none : (range : Range) (reversed : Bool) (limit : Option ℕ) (es : List (Id × List Field)) → within range es ≡ [] → entries_within range reversed limit es ≡ []
none range true None es e = ap reverse e
none range false None es e = e
none range true (Some n) es e = ap (λ found. take n (reverse found)) e ∙ take-nil n
none range false (Some n) es e = ap (take n) e ∙ take-nil n

pub returns-then-lt : goal.returns-then-lt
returns-then-lt c =
    let above : is_below c.args.range.high c.args.range.low ≡ true = sym (partial-below _ _) ∙ sym (c.if-lt.ensures) in
    let empty = c.new-then-lt.ensures ∙ c.new.ensures.items in
    record {
      entries = empty ∙ sym (none c.args.range c.args.reversed c.args.limit c.args.self.now.entries (within-none c.args.range above c.args.self.now.entries));
      found = subst (AreEntriesOf c.args.self.now.entries) (sym empty) tt;
    }

pub returns-clause-found : goal.returns-clause-found
returns-clause-found c =
    let all = all_of c.self.inside.entries in
    let ascends = c.self.invariant.valid.consistent.ascends in
    elim c.if-reversed.branch [
      | then-reversed+in_ok-entries w ↦ rw (← c.self.view_is, c.new-2.ensures, w.entries-is, w.in_ok-entries.ensures) (within-found c.args.range true (Some _) all ascends)
      | else-reversed+in_ok-entries-2 w ↦ rw (← c.self.view_is, c.new-2.ensures, w.entries-is, w.in_ok-entries-2.ensures) (within-found c.args.range false (Some _) all ascends)
    ]
