use Rattle.std.proofs.Common.{rules}
use Rattle.xs_resp.proofs.Encoding.{strings-next}
use Rattle.xs_resp.proofs.encoder.Encoder.advance.Goals as goal

pub gather-self-inside-requires-clause-strings : goal.gather-self-inside-requires-clause-strings
gather-self-inside-requires-clause-strings c =
    let found = c.token-written.ensures in
    strings-next c.self.inside.position.taken c.self.inside.position.at _ _ c.new-tokens.result _ _ _ (search rules) found.token found.string found.next found.end
