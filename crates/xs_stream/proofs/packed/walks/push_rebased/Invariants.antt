use Rattle.std.proofs.Common.{◌≡◌, ◌++◌, ◌-◌, take, vec_len}
use Rattle.xs_stream.specs.Packed.{rebased_codes}
use Rattle.xs_stream.proofs.packed.walks.push_rebased.Given as goal

-- those so far, and those to come
abbrev pub invariant-loop : goal.invariant-loop
invariant-loop l = record {
  all : l.fn.out.items ++ rebased_codes l.base l.from l.count l.bytes ≡ l.out.items ++ rebased_codes l.base l.from (l.count - l.counter) l.rest;
  before : take (vec_len l.fn.out) l.out.items ≡ l.fn.out.items;
}
