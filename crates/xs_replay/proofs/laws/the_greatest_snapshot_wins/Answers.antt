use Rattle.std.proofs.Common.{take, ◌++◌, ◌∷◌, []}
use Rattle.xs_replay.proofs.Folders.{found-all, left-after, run-found, new-folder, last-changed, log-begun, snapshot-put, snapshot-removed, log-removed}
use Rattle.xs_replay.proofs.laws.the_greatest_snapshot_wins.Goals as goal

pub returns-clause-recovers : goal.returns-clause-recovers
returns-clause-recovers c = λ folder served last n is some le. found-all folder served last is n some le

pub returns-clause-leaves : goal.returns-clause-leaves
returns-clause-leaves c = left-after

pub returns-clause-runs : goal.returns-clause-runs
returns-clause-runs c = run-found

pub returns-clause-first : goal.returns-clause-first
returns-clause-first c = new-folder

pub returns-clause-appends : goal.returns-clause-appends
returns-clause-appends c = λ folder served last event is. last-changed folder served last is (served last ++ event ∷ [])

pub returns-clause-crash : goal.returns-clause-crash
returns-clause-crash c = λ folder served last left is. last-changed folder served last is (take left (served last))

pub returns-clause-begins : goal.returns-clause-begins
returns-clause-begins c = λ folder served last is. log-begun folder served last is

pub returns-clause-puts : goal.returns-clause-puts
returns-clause-puts c = λ folder served last n state is above less e. snapshot-put folder served last is n state above less e

pub returns-clause-removes_snapshot : goal.returns-clause-removes_snapshot
returns-clause-removes_snapshot c = λ folder served last n is low. snapshot-removed folder served last is n low

pub returns-clause-removes_log : goal.returns-clause-removes_log
returns-clause-removes_log c = λ folder served last n is low. log-removed folder served last is n low
