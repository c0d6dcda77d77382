use Rattle.std.proofs.Common.{◌∙◌, map, ap}
use Rattle.std.proofs.lemmas.List.{take_all}
use Rattle.qtt_split.specs.Branching.{becomes, moved_seen}
use Rattle.qtt_split.specs.Seen.{sights}
use Rattle.qtt_split.specs.Sights.{seen_of}
use Rattle.qtt_split.specs.Substitution.{stands_for}
use Rattle.qtt_split.proofs.Branched.{each-seen}
use Rattle.qtt_split.proofs.branching.Branching.+moved.Goals as goal

pub all_moved-returns : goal.all_moved-returns
all_moved-returns t c =
    let b = c.args.self.now in
    let ss = c.args.sights.now in
    ap sights
    (c.loop-seen.invariant ∙
    ap (λ xs. map (λ s. moved_seen b (seen_of s)) xs) (take_all c.loop-seen.seen-index ss c.loop-seen-test.false)) ∙
    each-seen (becomes b) (stands_for b.stands.now) ss
