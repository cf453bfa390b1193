use Rattle.xs_keys.proofs.Arrivals.{entries-added, groups-created}
use Rattle.xs_keys.proofs.Histories.{present-in-life}
use Rattle.xs_keys.proofs.JobCounts.{places-add-up, tells-pending}
use Rattle.xs_keys.proofs.JobMoves.{goes-along, for-good}
use Rattle.xs_keys.proofs.JobPlaces.{has-one-place}
use Rattle.xs_keys.proofs.IdsAtEvents.{sees-of}
use Rattle.xs_keys.proofs.EntriesStay.{entries-stay, groups-stay}
use Rattle.xs_keys.proofs.laws.the_life_of_a_job.Goals as goal

pub returns-clause-one_place : goal.returns-clause-one_place
returns-clause-one_place c = λ past key group changes life k g x given.
    has-one-place life changes (present-in-life past key group life g) (sees-of past key group changes life k g) x

pub returns-clause-goes_along : goal.returns-clause-goes_along
returns-clause-goes_along c = goes-along

pub returns-clause-additions : goal.returns-clause-additions
returns-clause-additions c = entries-added

pub returns-clause-presence : goal.returns-clause-presence
returns-clause-presence c = entries-stay

pub returns-clause-open_groups : goal.returns-clause-open_groups
returns-clause-open_groups c = groups-stay

pub returns-clause-groups : goal.returns-clause-groups
returns-clause-groups c = groups-created

pub returns-clause-places_add_up : goal.returns-clause-places_add_up
returns-clause-places_add_up c = λ past key group changes life k g.
    places-add-up life changes (present-in-life past key group life g) (sees-of past key group changes life k g)

pub returns-clause-for_good : goal.returns-clause-for_good
returns-clause-for_good c = for-good

pub returns-clause-reported : goal.returns-clause-reported
returns-clause-reported c = λ past content now key group changes life is k g. tells-pending content past now key group changes life is k g
