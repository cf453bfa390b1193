use Rattle.xs_group.proofs.Terms.{ap, is_some, ◌∙◌, is_some-lookup, is_same_id}
use Rattle.xs_group.proofs.reading.is_present.Goals as goal

pub returns : goal.returns
returns c = c.is_some.ensures ∙ ap is_some c.get.ensures ∙ is_some-lookup (is_same_id c.args.id) c.args.stream.now.entries
