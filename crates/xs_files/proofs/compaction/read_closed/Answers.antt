use Rattle.xs_files.proofs.compaction.read_closed.Goals as goal

-- the content before the first log is that of the start, and the events are those of the closed logs
pub returns-in-Ok-read_closed_logs : goal.returns-in-Ok-read_closed_logs
returns-in-Ok-read_closed_logs g c =
    let logs = c.in-Ok-read_closed_logs.ensures.ok.0 in
    (c.in_ok-recovered.recovered.keyspace, c.in_ok-recovered.recovered.last, logs.0, c.in_ok-recovered.ensures, logs.2, logs.3)
