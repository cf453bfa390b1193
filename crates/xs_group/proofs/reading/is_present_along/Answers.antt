use Rattle.xs_group.proofs.Terms.{◌≡◌, ◌&&◌, eqb, true, is_some, ap, sym, ◌∙◌, subst, arith, is_some-lookup, nat_tests}
use Rattle.xs_group.proofs.Terms.{Id, is_same_id, IsEntryOf, fields_at, is-lent}
use Rattle.xs_group.proofs.reading.is_present_along.Goals as goal

same-id : (a b : Id) → (eqb a.ms b.ms && eqb a.seq b.seq) ≡ true → a ≡ b
same-id a b e =
    let ms : a.ms ≡ b.ms = grind (arith, nat_tests) in
    let seq : a.seq ≡ b.seq = grind (arith, nat_tests) in
    λ i. record { ms = ms i; seq = seq i }

pub returns-then-eq : goal.returns-then-eq
returns-then-eq c =
    let entries = c.args.stream.now.entries in
    let found = c.in-Some.ensures.lookup in
    let is : IsEntryOf entries c.in-Some.entry.now = subst (IsEntryOf entries) (sym found.1) (is-lent entries c.args.lent.now c.args.place c.in-Some.entry.now found.3.0 c.requires) in
    let same : c.in-Some.entry.now.0 ≡ c.args.id = sym c.id.ensures ∙ same-id c.id.result c.args.id (sym c.eq.ensures ∙ c.if-eq.true) in
    sym (sym (is_some-lookup (is_same_id c.args.id) entries) ∙ ap (λ id. is_some (fields_at entries id)) (sym same) ∙ ap is_some is)
