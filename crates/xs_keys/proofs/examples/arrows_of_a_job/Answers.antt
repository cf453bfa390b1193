use Rattle.std.proofs.Common.{codes, refl}
use Rattle.xs_keys.specs.JobMove as arrow
use Rattle.xs_keys.proofs.Computing.{example_functions}
use Rattle.xs_keys.proofs.examples.arrows_of_a_job.Goals as goal

pub returns : goal.returns
unfolding example_functions
returns c = record {
  by_a_deletion = (arrow.drop_entry, refl, refl, refl);
  by_a_trim = (arrow.drop_entry, refl, refl, refl);
  by_an_addition_that_trims = (arrow.drop_entry, refl, refl, refl);
  by_an_addition_that_trims_below = (arrow.drop_entry, refl, refl, refl);
  by_a_read = (arrow.deliver (codes "c"), refl, refl, (refl, refl));
  by_a_read_of_two = (arrow.deliver (codes "c"), refl, refl, (refl, refl));
  by_a_read_with_noack = (arrow.hand_out, refl, refl, refl);
  by_a_claim = (arrow.claim (codes "c") (codes "d"), refl, refl, (refl, refl));
  by_a_scan = (arrow.claim (codes "c") (codes "d"), refl, refl, (refl, refl));
  by_an_acknowledgement = (arrow.acknowledge (codes "c"), refl, refl, refl);
  by_a_removal = (arrow.remove_consumer (codes "c"), refl, refl, refl);
  by_a_claim_of_a_deleted_one = (arrow.find_deleted (codes "c"), refl, refl, refl);
  by_a_scan_of_a_deleted_one = (arrow.find_deleted (codes "c"), refl, refl, refl);
}
