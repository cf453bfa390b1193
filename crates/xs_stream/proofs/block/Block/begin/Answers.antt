use Rattle.std.proofs.Common.{◌≡◌, ◌++◌, ◌∷◌, [], ap, length, arith, refl}
use Rattle.std.proofs.lemmas.List.{append-nil}
use Rattle.xs_stream.specs.PackedText.{text_code}
use Rattle.xs_stream.specs.Packed.{names_code}
use Rattle.xs_stream.proofs.PackedBlocks.{first-code, repacked, repacked-packed}
use Rattle.xs_stream.proofs.block.Block.begin.Goals as goal

pub invariant_of-self : goal.invariant_of-self
invariant_of-self c =
    let names = names_code c.args.fields.now in
    let code = first-code (c.args.id, c.args.fields.now) _ _ c.clear.ensures.items c.in-Ok.ensures.bytes in
    let begins : c.in-Ok.start ≡ length (text_code names ++ []) = omega (arith, c.in-Ok.ensures.start, ap length c.clear.ensures.items, ap length (append-nil (text_code names))) in
    repacked-packed c.args.id.ms names [] 1 c.in-Ok.start c.push_first.new.bytes.items ((c.args.id, c.args.fields.now) ∷ []) (omega arith) code begins refl

pub returns-in-Ok-clause-ok : goal.returns-in-Ok-clause-ok
returns-in-Ok-clause-ok c =
    let names = names_code c.args.fields.now in
    let code = first-code (c.args.id, c.args.fields.now) _ _ c.clear.ensures.items c.in-Ok.ensures.bytes in
    let begins : c.in-Ok.start ≡ length (text_code names ++ []) = omega (arith, c.in-Ok.ensures.start, ap length c.clear.ensures.items, ap length (append-nil (text_code names))) in
    repacked c.args.id.ms names [] 1 c.in-Ok.start c.push_first.new.bytes.items ((c.args.id, c.args.fields.now) ∷ []) (omega arith) code begins refl
