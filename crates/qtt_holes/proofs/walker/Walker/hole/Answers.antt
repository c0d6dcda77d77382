use Rattle.std.proofs.Common.{◌≡◌, ◌∙◌, ap, map, length, rules, sym}
use Rattle.std.proofs.lemmas.List.{take_at}
use Rattle.qtt_term.specs.Contexts.{part}
use Rattle.qtt_bidi.specs.Seen.{locals}
use Rattle.qtt_holes.specs.View.{seen as seen_of}
use Rattle.qtt_holes.proofs.Fits.{hole-so}
use Rattle.qtt_holes.proofs.walker.Walker.hole.Goals as goal

pub returns : goal.returns
returns g c =
    λ w s.
    let xs = c.args.found.seen.items in
    let n : length c.tell.new.seen ≡ length xs = search rules in
    let k : c.args.found.seen.len ≡ length c.tell.new.seen = search rules in
    hole-so (part c.args.self.now.sigma) (locals c.args.scope.now) w c.args.found _ s
    (ap (map seen_of) (take_at c.tell.new.seen _ c.args.found.seen.len (sym k))
    ∙ rw (c.deref.ensures.value, c.deref_mut.ensures.value) at c.tell.ensures)
