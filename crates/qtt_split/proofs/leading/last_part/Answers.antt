use Rattle.qtt_split.proofs.Bare.{bare-is, short-is}
use Rattle.qtt_split.proofs.leading.last_part.Goals as goal

pub returns-in-Some-clause-value : goal.returns-in-Some-clause-value
returns-in-Some-clause-value c = rw c.in-Some.is at (bare-is c.args.text.now _ c.rsplit_once.ensures.cases)

pub returns-in-Some-clause-short : goal.returns-in-Some-clause-short
returns-in-Some-clause-short c =
    λ h. rw c.in-Some.is at (short-is c.args.text.now _ c.rsplit_once.ensures.cases h)

pub returns-in-None-clause-value : goal.returns-in-None-clause-value
returns-in-None-clause-value c = rw c.in-None.is at (bare-is c.args.text.now _ c.rsplit_once.ensures.cases)
