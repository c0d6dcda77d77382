use Rattle.qtt_run.proofs.Handling.{mirrors-none}
use Rattle.qtt_run.proofs.handles.Handles.new.Goals as goal

pub returns : goal.returns
returns c = λ told none. mirrors-none (record { all = c.new.result }) told c.new.ensures.items none
