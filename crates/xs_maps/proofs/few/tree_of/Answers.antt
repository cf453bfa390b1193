use Rattle.std.proofs.Common.{◌≡◌, ◌∷◌, ◌++◌, [], sym, ap, ◌∙◌, subst, append_assoc, arith}
use Rattle.std.specs.List.Sorted.{IsStrictlySortedBy}
use Rattle.std.specs.Map.{keys_of}
use Rattle.xs_maps.proofs.Sorted.{put-front}
use Rattle.xs_maps.proofs.few.tree_of.Goals as goal

pub loop-preserved : goal.loop-preserved
loop-preserved g c =
    let few = c.pop.new.self.items in
    let tree = c.loop.tree.entries in
    let entry : g.row.K.Denot × g.row.V.Denot = (c.in-Some.key, c.in-Some.value) in
    let all : few ++ entry ∷ tree ≡ c.args.few.now.items =
    sym (append_assoc few (entry ∷ []) tree) ∙ ap (λ es. es ++ tree) (sym c.in-Some.ensures.items) ∙ c.loop.invariant.all in
    let sorted = subst (λ es. IsStrictlySortedBy g.K.Ord.cmp (keys_of es)) (sym all) c.requires in
    let len = c.in-Some.ensures.len in
    let cap = c.in-Some.ensures.capacity in
    record {
      all = ap (λ es. few ++ es) (c.in-Ok.ensures.entries ∙ put-front g.K.Ord.cmp few tree c.in-Some.key c.in-Some.value sorted) ∙ all;
      left = omega arith;
      end = c.loop.invariant.end;
      room = omega arith;
    }
