use Rattle.std.proofs.Common.{[], refl, sym}
use Rattle.xs_keys.proofs.Contents.{content-none}
use Rattle.xs_script.proofs.ScriptSteps.{few-none}
use Rattle.xs_script.proofs.run.run_script.Goals as goal

pub drive-requires : goal.drive-requires
drive-requires g c =
    let new = c.new-script.ensures in
    record {
      lines = [];
      past = [];
      said = (new.owed, refl);
      content = rw (c.new-keyspace.ensures) content-none;
      is_read = (sym new.held, tt);
      few = rw (new.held) few-none;
      number = new.number;
      written = new.written;
    }
