use Rattle.qtt_usage.proofs.UsageLemmas.{none_at, unit_at, sum_at, join_at, scale_at, taken_at}
use Rattle.qtt_usage.proofs.laws.lists_are_use_vectors.Goals as goal

pub returns-clause-zero : goal.returns-clause-zero
returns-clause-zero c = none_at

pub returns-clause-one : goal.returns-clause-one
returns-clause-one c = unit_at

pub returns-clause-sum : goal.returns-clause-sum
returns-clause-sum c = sum_at

pub returns-clause-joined : goal.returns-clause-joined
returns-clause-joined c = join_at

pub returns-clause-scaled : goal.returns-clause-scaled
returns-clause-scaled c = scale_at

pub returns-clause-taken : goal.returns-clause-taken
returns-clause-taken c = taken_at
