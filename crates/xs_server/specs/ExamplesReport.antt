-- What the program reports at its end, by examples: each fault has its line, and its status.
use Rattle.std.specs.Prelude.{◌≡◌, [], codes, Ok, Err}
use Rattle.xs_desk.specs.declared.opening.DeskError.TheVariants as desk
use Rattle.xs_script.specs.declared.fault.ScriptFault.TheVariants.{Line, Read, Write, Memory}
use Rattle.xs_work.specs.declared.fault.WorkFault.TheVariants as work
use Rattle.xs_server.specs.Report.{status_of_run, text_of_run, work_text, ready_text}

pub record ScriptEnds : Type 0 where
  pub a_whole_script : status_of_run (Ok 24) ≡ 0
  pub nothing_said : text_of_run (Ok 24) ≡ []
  pub a_wrong_line : status_of_run (Err (Line 2 7)) ≡ 2
  pub its_line : text_of_run (Err (Line 2 7)) ≡ codes "xs_server: line 2 is not a script line\n"
  pub a_failed_read : status_of_run (Err (Read 0)) ≡ 1
  pub its_line_of_reading : text_of_run (Err (Read 0)) ≡ codes "xs_server: reading failed\n"
  pub a_failed_write : status_of_run (Err (Write 0)) ≡ 1
  pub its_line_of_writing : text_of_run (Err (Write 0)) ≡ codes "xs_server: writing failed\n"
  pub no_memory : status_of_run (Err (Memory 0)) ≡ 1
  pub its_line_of_memory : text_of_run (Err (Memory 0)) ≡ codes "xs_server: out of memory\n"

pub record WorkEnds : Type 0 where
  pub no_lanes : work_text (work.Desk desk.Lanes) ≡ codes "xs_server: serving failed\n"
  pub no_depth : work_text (work.Desk desk.Depth) ≡ codes "xs_server: serving failed\n"
  pub no_memory_for_a_desk : work_text (work.Desk desk.Memory) ≡ codes "xs_server: out of memory\n"
  pub no_thread : work_text work.Start ≡ codes "xs_server: serving failed\n"
  pub a_refused_connection : work_text work.Gate ≡ codes "xs_server: serving failed\n"
  pub a_gone_lane : work_text work.Lane ≡ codes "xs_server: serving failed\n"
  pub a_missing_end : work_text work.Close ≡ codes "xs_server: serving failed\n"
  pub no_memory : work_text work.Memory ≡ codes "xs_server: out of memory\n"

pub record Listening : Type 0 where
  pub a_port : ready_text 6379 ≡ codes "listening 127.0.0.1:6379\n"
