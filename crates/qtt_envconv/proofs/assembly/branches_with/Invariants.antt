use Rattle.std.proofs.Common.{◌≡◌, length, map, take}
use Rattle.qtt_term.specs.View.{terms, branches}
use Rattle.qtt_envconv.proofs.assembly.branches_with.Given as goal

abbrev pub invariant-loop-body : goal.invariant-loop-body
invariant-loop-body l = record {
  as_many : length l.branches.items ≡ length l.yielded;
  fields : map (λ b. b.0) (branches l.branches.items) ≡ map (λ b. b.0) (branches (take (length l.yielded) l.sources));
  bodies : map (λ b. b.1) (branches l.branches.items) ≡ terms l.yielded;
}
