use Rattle.std.proofs.Common.{◌≡◌, ◌++◌, ◌∷◌}
use Rattle.std.specs.List.{flat_map}
use Rattle.xs_resp.specs.ReplyItems.{tokens_of}
use Rattle.xs_resp.specs.Token.{Array}
use Rattle.xs_keys.specs.ReplyParts.{field_replies}
use Rattle.xs_keys.proofs.showing.push_fields.Given as goal

-- the tokens so far and those of the fields that are left are all
abbrev pub invariant-loop-field : goal.invariant-loop-field
invariant-loop-field l =
    (goal.iterator-loop-field).can_next l.field-iterator × (goal.iterator-loop-field).is_finite l.field-iterator
    × (l.tokens ++ flat_map tokens_of (flat_map field_replies l.field-iterator) ≡ l.fn.tokens ++ (Array l.count ∷ flat_map tokens_of (flat_map field_replies l.fn.fields)))
