use Rattle.xs_resp.specs.Whole.{AreItems}
use Rattle.xs_resp.proofs.examples.wholeness.Goals as goal

pub returns : goal.returns
unfolding AreItems
returns c = record {
  none = tt;
  an_array = tt;
  arrays_in_arrays = tt;
  three_of_none = λ whole. whole;
  one_too_many = λ whole. whole;
  one_too_few = λ whole. whole;
  an_inner_one_too_many = λ whole. whole;
}
