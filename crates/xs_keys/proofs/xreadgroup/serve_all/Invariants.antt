use Rattle.std.proofs.Common.{◌≡◌, ◌≤◌, drop, length, vec_len, vec_capacity}
use Rattle.xs_keys.specs.Reading.{AreMade}
use Rattle.xs_keys.proofs.ReadSteps.{Underway}
use Rattle.xs_keys.proofs.xreadgroup.serve_all.Given as goal

-- the rest of the reads gives the final content, and what is done can be undone
abbrev pub invariant-loop-one : goal.invariant-loop-one
invariant-loop-one l = record {
  underway : Underway l.now l.read l.reads l.initial.keys (drop l.one-index l.reads) l.keys l.tokens l.parts;
  made : AreMade l.read.group l.reads l.deliveries.items l.initial.keys l.keys;
  count : vec_len l.deliveries ≡ l.one-index;
  room : length l.reads ≤ vec_capacity l.deliveries;
}
